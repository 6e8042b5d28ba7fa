-- Stubs: where the run of a stamped file stands that took an edge that isn't kept.
use Rattle.std.specs.Prelude.{◌≡◌, ℕ, ◌+◌, ◌-◌, ◌%◌, ◌^◌, ◌<◌, true, ◌&&◌, List, if◌then◌else◌, nat_le, ◌==◌, length, drop, Option, Some, None, option_and_then}
use Rattle.std.specs.List.{slice_get}
use Rattle.byteorder.specs.Endian.{little_number}
use Rattle.rz_image.specs.declared.region.Region.{Region}
use Rattle.rz_image.specs.Memory.{contains}
use Rattle.rz_elf.specs.Format.{stub_size, stub_word_at, stubs_load}
use Rattle.rz_elf.specs.Elf.{image_of}
use Rattle.rz_elf.specs.Loaded.{ElfFile, elf_of, loaded}
use Rattle.rz_elf.specs.Stamped.{stamp_of}
use Rattle.rz_isa.specs.Nodes.{Decoder}
use Rattle.rz_machine.specs.Added.{layout_of}
use Rattle.rz_machine.specs.Kept.{Kept, has_node}
use Rattle.rz_machine.specs.WrittenFile.{Inert}
use Rattle.rz_machine.specs.declared.machine.End.{End}
use Rattle.rz_machine.specs.declared.machine.End.TheVariants as end
use Rattle.rz_machine.specs.declared.machine.Machine.{Machine}

-- the eight bytes from a place of a region on, the low one first; none where they leave it
abbrev pub word_in : Region → ℕ → Option ℕ
word_in r place = if nat_le (place + 8) (length r.bytes) then Some (little_number 8 (drop place r.bytes)) else None

-- the word of the stub that begins at an address of a region
abbrev pub stub_in : ℕ → Region → Option ℕ
stub_in at r =
    if contains r at && (at - r.base) % stub_size == 0 then word_in r (at - r.base + stub_word_at) else None

-- the stubs of a written file stand in a load of their own
abbrev pub stub_at : ElfFile → ℕ → Option ℕ
stub_at elf at = option_and_then (stub_in at) (slice_get (loaded elf).loads stubs_load)

-- a stub of a file of the first stamp begins with UD2, at which a run ends
abbrev pub illegal_stub : ElfFile → End → Option ℕ
illegal_stub elf (end.Illegal at) = stub_at elf at
illegal_stub elf _ = None

-- the word of the stub at which a run of a file ended
abbrev pub stub_word_of : ElfFile → Machine → Option ℕ
stub_word_of elf s = option_and_then (λ why. option_and_then (λ stamp. illegal_stub elf why) (stamp_of elf)) s.end

-- in a written file, a run that ended at the stub of a kept node ended at a stub with the node's address as its word
abbrev pub StubsNameNodes : Type 0
StubsNameNodes =
    (dec : Decoder) (x w : List ℕ) (kept : Kept) → Inert dec x w kept → (a : ℕ) → a < 2 ^ 64 → has_node kept.nodes a ≡ true
    → (s : Machine) → s.end ≡ Some (end.Illegal ((layout_of dec (image_of x) kept).stub a)) → stub_word_of (elf_of w) s ≡ Some a
