use Rattle.std.proofs.Common.{◌≡◌, ◌++◌, length}
use Rattle.rz_syms.specs.Resolved.{resolved_lines}
use Rattle.rz_syms.proofs.class_text.push_resolved.Given as goal

abbrev pub invariant-loop-end : goal.invariant-loop-end
invariant-loop-end l = l.out ++ resolved_lines l.functions l.rest ≡ l.fn.out ++ resolved_lines l.functions l.text

abbrev pub decreases-loop-end : goal.decreases-loop-end
decreases-loop-end l = length l.rest
