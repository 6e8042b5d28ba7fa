use Rattle.std.proofs.Common.{◌≡◌, drop}
use Rattle.rz_core.specs.Words.{with_inputs}
use Rattle.rz_core.specs.Calls.Planned.{planned}
use Rattle.rz_core.proofs.words.add_inputs.Given as goal

abbrev pub invariant-loop-word : goal.invariant-loop-word
invariant-loop-word l = with_inputs (drop l.word-index l.words) (planned l.plan) ≡ with_inputs l.words (planned l.initial.plan)
