-- Memory: regions of bytes with permissions, read and written one cell at a time.
use Rattle.std.specs.Prelude.{◌≡◌, ℕ, zero, suc, ◌+◌, ◌-◌, ◌%◌, ◌^◌, ◌<◌, ◌≤◌, ◌⊎◌, Bool, true, false, ◌&&◌, if◌then◌else◌, nat_lt, nat_le, max, List, [], ◌∷◌, ◌++◌, length, take, drop, get_or, set, replicate, Option, Some, None, is_none}
use Rattle.rz_image.specs.declared.perm.Perm.{Perm}
use Rattle.rz_image.specs.declared.region.Region.{Region}
use Rattle.rz_image.specs.Perm.{executes, writes, reads}

-- the regions of a run
abbrev pub Regions : Type 0
Regions = List Region

-- what stands at an address, and what may be done with it
pub record Cell : Type 0 where
  pub byte : ℕ
  pub read : Bool
  pub write : Bool
  pub execute : Bool

abbrev pub no_cell : Cell
no_cell = record { byte = 0; read = false; write = false; execute = false }

abbrev pub contains : Region → ℕ → Bool
contains r a = nat_le r.base a && nat_lt a (r.base + length r.bytes)

-- the byte at a place of a region, and what may be done with it where it is open
abbrev pub cell_in : Region → ℕ → Cell
cell_in r k =
    record {
      byte = get_or r.bytes k 0;
      read = nat_lt k r.opened && reads r.perm;
      write = nat_lt k r.opened && writes r.perm;
      execute = nat_lt k r.opened && executes r.perm;
    }

-- what stands at an address
unfoldable pub cell_at : Regions → ℕ → Cell
cell_at [] a = no_cell
cell_at (r ∷ rs) a = if contains r a then cell_in r (a - r.base) else cell_at rs a

-- a region with another byte at a place, where that may be written
abbrev pub put_in : Region → ℕ → ℕ → Region
put_in r k b = if nat_lt k r.opened && writes r.perm then record r { bytes = set r.bytes k b } else r

-- memory with another byte at an address, where that may be written
unfoldable pub put_byte : Regions → ℕ → ℕ → Regions
put_byte [] a b = []
put_byte (r ∷ rs) a b = if contains r a then put_in r (a - r.base) b ∷ rs else (r ∷ put_byte rs a b)

-- addresses have 64 bits (Intel SDM, volume 1, section 3.3.7.1)
abbrev pub wrap : ℕ → ℕ
wrap a = a % 2 ^ 64

-- the first of n addresses from a on that fails a test of its cell
unfoldable pub refused : (Cell → Bool) → Regions → ℕ → ℕ → Option ℕ
refused test m a zero = None
refused test m a (suc n) = if test (cell_at m (wrap a)) then refused test m (a + 1) n else Some (wrap a)

abbrev pub is_readable : Cell → Bool
is_readable c = c.read

abbrev pub is_writable : Cell → Bool
is_writable c = c.write

-- whether each of n addresses from a on passes a test of its cell; a range past the last address doesn't
abbrev pub is_allowed : (Cell → Bool) → Regions → ℕ → ℕ → Bool
is_allowed test m a n = nat_le (a + n) (2 ^ 64) && is_none (refused test m a n)

-- the n bytes from an address on
unfoldable pub bytes_at : Regions → ℕ → ℕ → List ℕ
bytes_at m a zero = []
bytes_at m a (suc n) = (cell_at m (wrap a)).byte ∷ bytes_at m (a + 1) n

-- memory with other bytes from an address on
unfoldable pub put_bytes : Regions → ℕ → List ℕ → Regions
put_bytes m a [] = m
put_bytes m a (b ∷ bs) = put_bytes (put_byte m (wrap a) b) (a + 1) bs

-- the byte of a cell that may be executed
abbrev pub code_of : Cell → Option ℕ
code_of c = if c.execute then Some c.byte else None

abbrev pub fetched : Option ℕ → List ℕ → List ℕ
fetched None rest = []
fetched (Some b) rest = b ∷ rest

-- the executable bytes from an address on, up to the first that isn't, and at most n
unfoldable pub fetch : Regions → ℕ → ℕ → List ℕ
fetch m a zero = []
fetch m a (suc n) = fetched (code_of (cell_at m a)) (fetch m (a + 1) n)

-- the regions ascend from an address on and don't meet; each lies below 2^64, and is open no further than it has bytes
abbrev pub AscendFrom : ℕ → Regions → Type 0
AscendFrom low [] = Unit {0}
AscendFrom low (r ∷ rs) =
    (low ≤ r.base) × (r.base + length r.bytes < 2 ^ 64) × (r.opened ≤ length r.bytes) × AscendFrom (r.base + length r.bytes) rs

abbrev pub Ascend : Regions → Type 0
Ascend m = AscendFrom 0 m

-- each region lies below 2^64
abbrev pub RegionsFit : Regions → Type 0
RegionsFit [] = Unit {0}
RegionsFit (r ∷ rs) = (r.base + length r.bytes < 2 ^ 64) × RegionsFit rs

-- the bytes of the region of a number, from 0
abbrev pub bytes_in : Regions → ℕ → List ℕ
bytes_in [] i = []
bytes_in (r ∷ rs) zero = r.bytes
bytes_in (r ∷ rs) (suc i) = bytes_in rs i

-- n zero bytes
unfoldable pub zeros : ℕ → List ℕ
zeros n = replicate n 0

-- a region that is open up to another place, where the bytes that are closed are zero
abbrev pub reopened : ℕ → Region → Region
reopened opened r =
    record r { bytes = take opened r.bytes ++ (replicate (r.opened - opened) 0 ++ drop (max opened r.opened) r.bytes); opened = opened }

-- memory with the region of a number open up to another place
abbrev pub set_open : Regions → ℕ → ℕ → Regions
set_open [] i opened = []
set_open (r ∷ rs) zero opened = reopened opened r ∷ rs
set_open (r ∷ rs) (suc i) opened = r ∷ set_open rs i opened

-- a region whose bytes are all open
abbrev pub whole_region : ℕ → List ℕ → Perm → Region
whole_region base bytes perm = record { base = base; bytes = bytes; opened = length bytes; perm = perm }

-- addresses from `low` on, below `high`
pub record Range : Type 0 where
  pub low : ℕ
  pub high : ℕ

abbrev pub IsInside : Range → ℕ → Type 0
IsInside r a = (r.low ≤ a) × (a < r.high)

abbrev pub IsOutside : Range → ℕ → Type 0
IsOutside r a = (a < r.low) ⊎ (r.high ≤ a)

-- no byte of an access of n bytes is in the range
abbrev pub IsClear : Range → ℕ → ℕ → Type 0
IsClear r at n = (k : ℕ) → k < n → IsOutside r (wrap (at + k))

-- the same byte, which may be read and written alike
pub record SameCell (c d : Cell) : Type 0 where
  pub byte : c.byte ≡ d.byte
  pub read : c.read ≡ d.read
  pub write : c.write ≡ d.write

-- equal bytes and equal permissions to read and write outside the range
pub record Alike (r : Range) (m n : Regions) : Type 0 where
  pub at : (a : ℕ) → IsOutside r a → SameCell (cell_at m a) (cell_at n a)

-- the same code
pub record SameCode (m n : Regions) : Type 0 where
  pub at : (a : ℕ) → code_of (cell_at m a) ≡ code_of (cell_at n a)

-- no byte may be both written and executed
pub record NoSelfWritten (m : Regions) : Type 0 where
  pub at : (a : ℕ) → (cell_at m a).write ≡ true → (cell_at m a).execute ≡ false

-- equal permissions
pub record SamePerms (c d : Cell) : Type 0 where
  pub read : c.read ≡ d.read
  pub write : c.write ≡ d.write
  pub execute : c.execute ≡ d.execute

-- in a range the permissions of an older memory stand, and its bytes that may not be written
pub record RangeStands (r : Range) (old m : Regions) : Type 0 where
  pub perms : (a : ℕ) → IsInside r a → SamePerms (cell_at old a) (cell_at m a)
  pub bytes : (a : ℕ) → IsInside r a → (cell_at old a).write ≡ false → (cell_at m a).byte ≡ (cell_at old a).byte
