use Rattle.std.proofs.Common.{◌≡◌, ℕ, ◌+◌, Bool, true, false, not, Option, Some, None, is_some, Result, Ok, Err, OnErr, sym, ap, ◌∙◌, refl, arith, ⊎_elim}
use Rattle.rz_machine.specs.MachineState.{MachineState}
use Rattle.rz_machine.specs.LeftCode.{left_at}
use Rattle.rz_machine.specs.Traced.{kept_in}
use Rattle.rz_trace.proofs.TraceTurns.{Followed-left, Followed-turn, Followed-part, Followed-node}
use Rattle.rz_trace.proofs.tracer.TracerObserver.sees.Goals as goal

-- where a machine found no instruction, by what was asked of it
left_is : {s t : MachineState} {o : Option ℕ} → s ≡ t → o ≡ left_at s.end → left_at t.end ≡ o
left_is same e = sym (e ∙ ap (λ (u : MachineState). left_at u.end) same)

none_is : (o : Option ℕ) (b : Bool) → is_some o ≡ not b → b ≡ true → o ≡ None
none_is None b h e = refl
none_is (Some a) b h e = cc

some_is : (o : Option ℕ) (b : Bool) → is_some o ≡ not b → b ≡ false → (a : ℕ) × (o ≡ Some a)
some_is None b h e = cc
some_is (Some a) b h e = (a, refl)

on_err : {A E : Type 0} (P : Type 0) (r : Result A E) → P → OnErr r P
on_err P (Ok a) p = tt
on_err P (Err e) p = p

pub returns-in_err-add_with-clause-err : goal.returns-in_err-add_with-clause-err
returns-in_err-add_with-clause-err c =
    let self = c.args.self.now in
    let stays = left_is c.machine.view_is c.address_left.ensures ∙ none_is _ _ c.is_none.ensures c.if-is_none.true in
    on_err _ c.from_residual.result (λ first dec s k f waits rip stepped. ⊎_elim
    (λ same. Followed-part dec k s (kept_in first.rec) (kept_in self.rec) self.memo self.last f (k + 1) (kept_in c.add_with.new.rec) (omega arith) same c.in_err-add_with.ensures.edges)
    (λ one. Followed-node dec k s (kept_in first.rec) (kept_in self.rec) self.memo self.last f c.args.machine.now waits stepped stays c.args.at rip (kept_in c.add_with.new.rec) one c.in_err-add_with.ensures.edges)
    c.in_err-add_with.ensures.nodes)

pub returns-in_ok-add_with-clause-ok : goal.returns-in_ok-add_with-clause-ok
returns-in_ok-add_with-clause-ok c first dec s k f waits rip stepped =
    let self = c.args.self.now in
    let stays = left_is c.machine.view_is c.address_left.ensures ∙ none_is _ _ c.is_none.ensures c.if-is_none.true in
    Followed-turn dec k s (kept_in first.rec) (kept_in self.rec) self.memo self.last f c.args.machine.now waits stepped stays c.args.at rip
    (kept_in c.add_with.new.rec) c.add_with.new.memo (c.in_ok-add_with.ensures.ok f.knows) (c.in_ok-add_with.ensures.knows f.knows)

pub returns-else-is_none-clause-ok : goal.returns-else-is_none-clause-ok
returns-else-is_none-clause-ok c first dec s k f waits rip stepped =
    let self = c.args.self.now in
    let left = some_is _ _ c.is_none.ensures c.if-is_none.false in
    Followed-left dec k s (kept_in first.rec) (kept_in self.rec) self.memo self.last f c.args.machine.now waits stepped left.0
    (left_is c.machine.view_is c.address_left.ensures ∙ left.1)
