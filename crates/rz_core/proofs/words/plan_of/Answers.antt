use Rattle.std.proofs.Common.{◌≡◌, Bool, true, false, List, subst}
use Rattle.std.specs.Prelude.{Option, Some}
use Rattle.rz_core.specs.declared.forms.Place.{Place}
use Rattle.rz_core.specs.Words.{Planned, filled, begun}
use Rattle.rz_core.specs.Calls.Planned.{planned, IsFilled}
use Rattle.rz_core.proofs.FormLaws.{sound}
use Rattle.rz_core.proofs.words.plan_of.Goals as goal

all_said : (is : Bool) (told : Option Planned) (new : Planned) → is ≡ true → IsFilled told new is → told ≡ Some new
all_said true told new e h = h
all_said false told new e h = absurd cc

pub returns-then-branch-clause-sound : goal.returns-then-branch-clause-sound
returns-then-branch-clause-sound c =
    let v = c.args.verb in
    let words = c.args.words.now in
    let p = planned c.fill.new.plan in
    let said = all_said c.in_ok-fill.field-0 (filled c.places.result.now words (planned c.begin-plan.result)) p c.if-branch.true c.in_ok-fill.ensures in
    sound v words p
    (subst (λ (ps : List Place). filled ps words (begun v) ≡ Some p) c.places.ensures
    (subst (λ (b : Planned). filled c.places.result.now words b ≡ Some p) c.begin-plan.ensures said))
