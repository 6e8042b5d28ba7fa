use Rattle.std.proofs.Common.{Option, ℕ, ap, ap₂, ◌∙◌}
use Rattle.rz_machine.specs.declared.machine.Machine.{Machine}
use Rattle.rz_replay.specs.declared.compare.Ran.{Ran}
use Rattle.rz_replay.specs.Verdict.{ran_of, verdict_at}
use Rattle.rz_replay.proofs.VerdictLaws.{verdict_is}
use Rattle.rz_replay.proofs.compare.compare.Goals as goal

pub returns : goal.returns
returns g c =
    let wanted : Ran = c.came_to-wanted.result in
    let first = c.came_to-wanted.ensures ∙ ap (λ (m : Machine). ran_of m) c.in_ok-run.ensures in
    let third = c.judge.ensures ∙ ap₂ (λ (s : Option ℕ) (n : Ran). verdict_at s wanted n) c.stub_word-stub.ensures c.came_to.ensures in
    record { verdict = verdict_is _ _ _ _ _ _ _ _ first c.in_ok-machine.ensures third }
