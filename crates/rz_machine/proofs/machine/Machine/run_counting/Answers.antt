use Rattle.std.proofs.Common.{Result, Ok, Err, OnOk, IfOk, ap, ◌∙◌}
use Rattle.rz_isa.specs.Decoded.{decoded}
use Rattle.rz_machine.specs.State.{after}
use Rattle.rz_machine.specs.Laws.Until.{made_whole}
use Rattle.rz_machine.proofs.machine.Machine.run_counting.Goals as goal

on_ok : {A E : Type 0} (P Q : A → Type 0) (R : Type 0) (r : Result A E) → IfOk r P → IfOk r Q → ((a : A) → P a → Q a → R) → OnOk r R
on_ok P Q R (Ok a) p q f = f a p q
on_ok P Q R (Err e) p q f = tt

pub returns-clause-ran : goal.returns-clause-ran
returns-clause-ran g c =
    let dec = decoded g.T.InsnTable.rows in
    let s = c.args.self.now in
    on_ok _ _ _ c.observe.result c.observe.ensures.steps c.observe.ensures.ran (λ k made ran. ran ∙ ap (λ j. after dec j s) made ∙ made_whole dec c.args.n s)
