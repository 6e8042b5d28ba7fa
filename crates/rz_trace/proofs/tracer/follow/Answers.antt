use Rattle.std.proofs.Common.{◌≡◌, ℕ, Option, sym, ap, ◌∙◌, refl, arith, subst, ⊎_elim}
use Rattle.rz_aset.specs.declared.kept.Record.{Record}
use Rattle.rz_isa.specs.Decoded.{decoded}
use Rattle.rz_machine.specs.MachineState.{MachineState}
use Rattle.rz_machine.specs.LeftCode.{left_at}
use Rattle.rz_machine.specs.Traced.{kept_in, with_run}
use Rattle.rz_machine.specs.State.{after}
use Rattle.rz_machine.specs.Laws.Until.{made_whole}
use Rattle.rz_trace.specs.Traced.{HasPart}
use Rattle.rz_trace.proofs.TraceTurns.{no_memory, Followed-start, Followed-part, HasPart-more, run_whole}
use Rattle.rz_trace.proofs.tracer.follow.Goals as goal

-- where a machine found no instruction, by what was asked of it
left_is : {s t : MachineState} {o : Option ℕ} → s ≡ t → o ≡ left_at s.end → left_at t.end ≡ o
left_is same e = sym (e ∙ ap (λ (u : MachineState). left_at u.end) same)

pub observe-ran-requires : goal.observe-ran-requires
observe-ran-requires g c = Followed-start _ _ _ _ (c.new-2.ensures (kept_in c.replace.result))

pub returns-in_err-ran-clause-err : goal.returns-in_err-ran-clause-err
returns-in_err-ran-clause-err g c =
    let dec = decoded g.T.InsnTable.rows in
    let s = c.args.machine.now in
    let new = kept_in c.observe-ran.new.observer.rec in
    let left = c.in_err-ran.ensures.err in
    let part : HasPart dec c.args.limit s (kept_in c.replace.result) new = ⊎_elim
    (λ step. Followed-part dec left.0 s _ _ _ _ step.1 c.args.limit new (omega (arith, left.1)) refl refl)
    (λ seen. HasPart-more dec _ c.args.limit s _ new (omega (arith, left.1)) seen.1)
    left.2 in
    no_memory dec c.args.limit s _ new _ c.from_residual.ensures.1 (subst (λ (r : Record). HasPart dec c.args.limit s (kept_in r) new) c.replace.ensures.value part)

pub returns-in-Some-clause-err : goal.returns-in-Some-clause-err
returns-in-Some-clause-err g c =
    let dec = decoded g.T.InsnTable.rows in
    let s = c.args.machine.now in
    let made = c.in_ok-ran.ensures.steps in
    let whole = c.in_ok-ran.ensures.ran ∙ ap (λ k. after dec k s) made ∙ made_whole dec c.args.limit s in
    let kept = run_whole dec c.args.limit c.in_ok-ran.field-0 s _ (kept_in c.observe-ran.new.observer.rec) made c.in_ok-ran.ensures.follows.holds in
    (left_is (c.machine.view_is ∙ whole) c.in-Some.ensures, kept ∙ ap (λ (r : Record). with_run dec c.args.limit s (kept_in r)) c.replace.ensures.value)

pub returns-clause-ok : goal.returns-clause-ok
returns-clause-ok g c =
    let dec = decoded g.T.InsnTable.rows in
    let s = c.args.machine.now in
    let kept = run_whole dec c.args.limit c.in_ok-ran.field-0 s _ (kept_in c.observe-ran.new.observer.rec) c.in_ok-ran.ensures.steps c.in_ok-ran.ensures.follows.holds in
    kept ∙ ap (λ (r : Record). with_run dec c.args.limit s (kept_in r)) c.replace.ensures.value

pub returns-clause-stays : goal.returns-clause-stays
returns-clause-stays g c =
    let dec = decoded g.T.InsnTable.rows in
    let s = c.args.machine.now in
    let whole = c.in_ok-ran.ensures.ran ∙ ap (λ k. after dec k s) c.in_ok-ran.ensures.steps ∙ made_whole dec c.args.limit s in
    left_is (c.machine.view_is ∙ whole) c.in-None.ensures
