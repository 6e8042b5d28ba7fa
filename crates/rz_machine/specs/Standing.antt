-- What stays of a new file's memory while it runs: its code, and the scratch page.
use Rattle.std.specs.Prelude.{◌≡◌, ℕ, ◌+◌, ◌<◌, ◌≤◌, true}
use Rattle.rz_image.specs.Memory.{Regions, Range, SameCode, NoSelfWritten, cell_at}

-- m has the code of an older memory, and no byte of m may be both written and executed
pub record HasCode (old m : Regions) : Type 0 where
  pub same : SameCode old m
  pub fixed : NoSelfWritten m

-- what is added begins with a page that may be read and written
pub record HasScratch (scratch : ℕ) (r : Range) (m : Regions) : Type 0 where
  pub first : r.low ≡ scratch
  pub last : scratch + 4096 ≤ r.high
  pub top : r.high ≤ 0x70000000
  pub readable : (a : ℕ) → scratch ≤ a → a < scratch + 4096 → (cell_at m a).read ≡ true
  pub writable : (a : ℕ) → scratch ≤ a → a < scratch + 4096 → (cell_at m a).write ≡ true
