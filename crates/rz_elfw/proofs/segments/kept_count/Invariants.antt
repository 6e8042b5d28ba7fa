use Rattle.std.proofs.Common.{◌≡◌, ◌+◌, length}
use Rattle.rz_elf.specs.Elf.{segments}
use Rattle.rz_elfw.proofs.Original.{kept_of, kept_from}
use Rattle.rz_elfw.proofs.segments.kept_count.Given as goal

abbrev pub invariant-loop-index : goal.invariant-loop-index
invariant-loop-index l = l.count + length (kept_from l.file l.index) ≡ length (kept_of (segments l.file))
