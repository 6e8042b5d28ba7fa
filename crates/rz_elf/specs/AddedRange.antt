-- The range of addresses that is added to a file: four parts of whole pages below its lowest load, and the stubs in the last.
use Rattle.std.specs.Prelude.{ℕ, ◌+◌, ◌-◌, ◌*◌, ◌%◌, List, [], ◌∷◌, ◌++◌, length, min, replicate}
use Rattle.rz_num.specs.Page.{page_up}
use Rattle.rz_image.specs.Memory.{Regions}
use Rattle.rz_elf.specs.Format.{int3, stub_size, all_stubs}

-- the sizes of the parts, in bytes, by the numbers of kept nodes, of kept sites and of the kept edges that leave them
abbrev pub scratch_size : ℕ
scratch_size = 4096

abbrev pub tables_size : ℕ → ℕ → ℕ
tables_size sites edges = page_up (16 * sites + 8 * edges + 1)

abbrev pub code_size : ℕ → ℕ → ℕ → ℕ
code_size nodes sites edges = page_up (32 * nodes + 160 * sites + 48 * edges + 512)

abbrev pub stubs_size : ℕ → ℕ
stubs_size nodes = page_up (stub_size * nodes)

-- where the lowest load begins
abbrev pub lowest : Regions → ℕ
lowest [] = 0
lowest (r ∷ []) = r.base
lowest (r ∷ s ∷ rest) = min r.base (lowest (s ∷ rest))

abbrev pub page_floor : ℕ → ℕ
page_floor a = a - a % 4096

-- where the parts begin, in ascending order, and where the last one ends
pub record Added : Type 0 where
  pub scratch : ℕ
  pub tables : ℕ
  pub code : ℕ
  pub stubs : ℕ
  pub stop : ℕ

-- the parts of these sizes that end at an address
abbrev pub parts_below : ℕ → ℕ → ℕ → ℕ → Added
parts_below tables_len code_len stubs_len stop =
    let stubs = stop - stubs_len in
    let code = stubs - code_len in
    let tables = code - tables_len in
    record { scratch = tables - scratch_size; tables = tables; code = code; stubs = stubs; stop = stop }

-- bytes filled up with INT3
abbrev pub filled : ℕ → List ℕ → List ℕ
filled len bytes = bytes ++ replicate (len - length bytes) int3

-- the stubs part of the kept nodes
abbrev pub stubs_part : Added → List ℕ → List ℕ
stubs_part a nodes = filled (a.stop - a.stubs) (all_stubs a.stubs nodes)
