use Rattle.std.proofs.Common.{◌≡◌, ◌++◌}
use Rattle.rz_elf.specs.Elf.{segments}
use Rattle.rz_elfw.proofs.Original.{kept_of, kept_from}
use Rattle.rz_elfw.proofs.segments.push_kept.Given as goal

abbrev pub invariant-loop-index : goal.invariant-loop-index
invariant-loop-index l = l.segments.items ++ kept_from l.file l.index ≡ l.initial.segments.items ++ kept_of (segments l.file)
