use Rattle.std.proofs.Common.{◌≡◌, Result, Ok, Err, OnErr, inl, inr, sym, ap, ◌∙◌, refl, arith, subst}
use Rattle.rz_isa.specs.Decoded.{decoded}
use Rattle.rz_machine.specs.MachineState.{MachineState}
use Rattle.rz_machine.specs.Calls.Cache.{Serves}
use Rattle.rz_machine.specs.State.{step, after}
use Rattle.rz_machine.specs.Laws.RunTurns.{after-next}
use Rattle.rz_machine.specs.Laws.Until.{IsOpen-none, IsOpen-more, passed_after, none_passed}
use Rattle.rz_machine.proofs.machine.Machine.observe.Goals as goal

pub loop-made-init : goal.loop-made-init
unfolding after
loop-made-init g c =
    let dec = decoded g.T.InsnTable.rows in
    record {
      at = refl;
      waits = IsOpen-none (g.O.Observer.stops_at c.args.observer.now) dec c.args.self.now;
      fixed = refl;
      follows = c.requires;
      serves = subst (λ (s : MachineState). Serves dec s.mem c.new-cache.result) c.self.view_is c.new-cache.ensures;
    }

on_err : {A E : Type 0} (P : Type 0) (r : Result A E) → P → OnErr r P
on_err P (Ok a) p = tt
on_err P (Err e) p = p

pub returns-then-stops-clause-steps : goal.returns-then-stops-clause-steps
returns-then-stops-clause-steps g c =
    let dec = decoded g.T.InsnTable.rows in
    let over = g.O.Observer.stops_at in
    let l = c.loop-made in
    let here = ap (over c.args.observer.now) (sym l.invariant.at) ∙ ap (λ test. test l.self) (sym l.invariant.fixed) ∙ sym c.stops.ensures ∙ c.if-stops.true in
    passed_after (over c.args.observer.now) dec c.args.self.now c.args.n l.made (omega arith) l.invariant.waits here

pub returns-then-stops-clause-ran : goal.returns-then-stops-clause-ran
returns-then-stops-clause-ran g c = c.loop-made.invariant.at

pub returns-then-stops-clause-follows : goal.returns-then-stops-clause-follows
returns-then-stops-clause-follows g c = c.loop-made.invariant.follows

pub step_with-requires : goal.step_with-requires
step_with-requires g c = c.loop-made.invariant.serves

pub returns-in_err-step_with-clause-err : goal.returns-in_err-step_with-clause-err
returns-in_err-step_with-clause-err g c =
    let l = c.loop-made in
    on_err _ c.from_residual.result (l.made, omega arith, inl (c.in_err-step_with.ensures.err ∙ l.invariant.at, l.invariant.follows))

-- what the observer stands at after a step
same_rip : (s t : MachineState) → s ≡ t → s.cpu.rip ≡ t.cpu.rip
same_rip s t = ap (λ (u : MachineState). u.cpu.rip)

pub returns-in_err-sees-clause-err : goal.returns-in_err-sees-clause-err
returns-in_err-sees-clause-err g c =
    let dec = decoded g.T.InsnTable.rows in
    let over = g.O.Observer.stops_at in
    let l = c.loop-made in
    let s = c.args.self.now in
    let waits = ap (over l.observer) (sym l.invariant.at) ∙ sym c.stops.ensures ∙ c.if-stops.false in
    let rip = same_rip _ _ (c.self-in-loop-made.view_is ∙ l.invariant.at) in
    let stepped = c.in_ok-step_with.ensures.ok ∙ ap (step dec) l.invariant.at in
    let missed = c.in_err-sees.ensures.err c.args.observer.now dec s l.made l.invariant.follows waits rip stepped in
    on_err _ c.from_residual-in_err-sees.result (l.made, omega arith, inr (stepped ∙ sym (after-next dec l.made s), missed))

pub loop-made-preserved : goal.loop-made-preserved
loop-made-preserved g c =
    let dec = decoded g.T.InsnTable.rows in
    let over = g.O.Observer.stops_at in
    let l = c.loop-made in
    let s = c.args.self.now in
    let waits = ap (over l.observer) (sym l.invariant.at) ∙ sym c.stops.ensures ∙ c.if-stops.false in
    let first = ap (λ test. test (after dec l.made s)) (sym l.invariant.fixed) ∙ waits in
    let rip = same_rip _ _ (c.self-in-loop-made.view_is ∙ l.invariant.at) in
    let stepped = c.in_ok-step_with.ensures.ok ∙ ap (step dec) l.invariant.at in
    record {
      at = stepped ∙ sym (after-next dec l.made s);
      waits = IsOpen-more (over c.args.observer.now) dec s l.made l.invariant.waits first;
      fixed = c.in_ok-sees.ensures.stops ∙ l.invariant.fixed;
      follows = c.in_ok-sees.ensures.ok c.args.observer.now dec s l.made l.invariant.follows waits rip stepped;
      serves = c.in_ok-step_with.ensures.serves;
    }

pub returns-clause-steps : goal.returns-clause-steps
returns-clause-steps g c =
    let l = c.loop-made in
    let all : l.made ≡ c.args.n = omega arith in
    sym all ∙ none_passed (g.O.Observer.stops_at c.args.observer.now) (decoded g.T.InsnTable.rows) c.args.self.now c.args.n l.made all l.invariant.waits

pub returns-clause-ran : goal.returns-clause-ran
returns-clause-ran g c =
    let all : c.loop-made.made ≡ c.args.n = omega arith in
    c.loop-made.invariant.at ∙ ap (λ k. after (decoded g.T.InsnTable.rows) k c.args.self.now) all

pub returns-clause-follows : goal.returns-clause-follows
returns-clause-follows g c =
    let l = c.loop-made in
    let all : l.made ≡ c.args.n = omega arith in
    subst (λ k. g.O.Observer.Follows c.args.observer.now (decoded g.T.InsnTable.rows) c.args.self.now k l.observer) all l.invariant.follows
