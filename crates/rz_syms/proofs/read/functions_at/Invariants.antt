use Rattle.rz_syms.proofs.TakenLaws.{IsHeld}
use Rattle.rz_syms.proofs.read.functions_at.Given as goal

abbrev pub invariant-loop-place : goal.invariant-loop-place
invariant-loop-place l = IsHeld l.strings l.places l.place-index l.functions.items l.end
