use Rattle.std.proofs.Common.{◌≡◌, ◌++◌, take}
use Rattle.std.specs.Prelude.{flat_map}
use Rattle.rz_elf.specs.WrittenFile.{segment_bytes}
use Rattle.rz_elfw.proofs.header_page.push_header_page.Given as goal

abbrev pub invariant-loop-segment : goal.invariant-loop-segment
invariant-loop-segment l = l.out.items ≡ l.initial.out.items ++ flat_map segment_bytes (take l.segment-index l.segments)
