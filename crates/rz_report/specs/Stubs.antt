-- The stubs of a file, as they are counted for the report of a pair.
use Rattle.std.specs.Prelude.{ℕ, zero, suc, ◌/◌, Bool, if◌then◌else◌, List, [], ◌∷◌, length, take, drop, nat_eq, Option, Some, None, is_some}
use Rattle.std.specs.List.{prefix_len, slice_get, starts_with}
use Rattle.rz_image.specs.declared.region.Region.{Region}
use Rattle.rz_elf.specs.Format.{stub_size, stub_front, stubs_load}
use Rattle.rz_elf.specs.Loaded.{ElfFile, loaded}
use Rattle.rz_elf.specs.Stamped.{stamp_of}

-- so many pieces of the size of a stub, one after the other from the first byte on
abbrev pub pieces : ℕ → List ℕ → List (List ℕ)
pieces zero bytes = []
pieces (suc n) bytes = take stub_size bytes ∷ pieces n (drop stub_size bytes)

-- a piece that begins as a stub does
abbrev pub begins_stub : List ℕ → Bool
begins_stub piece = starts_with nat_eq piece stub_front

-- how many of the whole pieces begin so, before the first that doesn't
abbrev pub stubs_in : List ℕ → ℕ
stubs_in bytes = prefix_len begins_stub (pieces (length bytes / stub_size) bytes)

-- those of the load of stubs of a stamped file; any other file has none
abbrev pub stubs_of : Option Region → ℕ
stubs_of None = 0
stubs_of (Some r) = stubs_in r.bytes

abbrev pub stub_count : ElfFile → ℕ
stub_count elf = if is_some (stamp_of elf) then stubs_of (slice_get (loaded elf).loads stubs_load) else 0
