use Rattle.std.proofs.Common.{◌≡◌, ◌+◌, ◌*◌, ◌^◌, ◌<◌, length, drop, ◌++◌}
use Rattle.rz_machine.specs.Sequence.{check as check_of}
use Rattle.rz_sites.proofs.check.push_check.Given as goal

abbrev pub invariant-loop-target : goal.invariant-loop-target
invariant-loop-target l =
    (l.items ++ check_of l.scratch l.at (length l.items) l.previous (drop l.target-index l.target-items)
    ≡ l.fn.items ++ check_of l.scratch l.at (length l.fn.items) 0 l.target-items)
    × (length l.items ≡ length l.fn.items + 5 * l.target-index)
    × (l.previous < 2 ^ 31)
