-- What holds of the written file where `label` answers Ok.
use Rattle.std.specs.Prelude.{◌≡◌, ℕ, IsTrue, List, [], ◌∷◌, Option, Some, None}
use Rattle.rz_outside.specs.StoreAnswers.{Files}
use Rattle.rz_outside.specs.StoreCalls.{StoreCalls}
use Rattle.rz_sys.specs.declared.input.Input.{Input}
use Rattle.rz_machine.specs.State.{after}
use Rattle.rz_core.specs.declared.status.Status.{Status}
use Rattle.rz_core.specs.declared.status.Status.TheVariants as status
use Rattle.rz_core.specs.declared.plan.Verb.{Verb}
use Rattle.rz_core.specs.declared.plan.Verb.TheVariants as verb
use Rattle.rz_core.specs.Decoding.{decode_profile}
use Rattle.rz_core.specs.Debloated.{traced}
use Rattle.rz_core.specs.Labelled.{IsLabelled}
use Rattle.rz_core.specs.Words.{Planned, form_of}
use Rattle.rz_core.specs.Writing.{HoldEach}
use Rattle.rz_core.specs.Headline.{executables}

-- of NEW as it was, and of what OUT holds
pub record HoldsLabelled (p : Planned) (old new : Files) : Type 0 where
  pub x : List ℕ
  pub w : List ℕ
  pub file : HoldEach old (executables p.reads) (x ∷ [])
  pub out : HoldEach new p.writes (w ∷ [])
  -- w is the labelled file of x, accepted, stamped as x is, and loads what x loads
  pub is : IsLabelled x w
  -- so w runs as x does
  pub runs : (input : Input) (steps : ℕ) → after decode_profile steps (traced w input) ≡ after decode_profile steps (traced x input)

-- where `label` was answered Ok and the store tells its files
abbrev pub LabellingBy : Verb → Planned → StoreCalls → Status → Type 0
LabellingBy verb.Label p s status.Ok = IsTrue s.told → HoldsLabelled p s.old s.new
LabellingBy _ p s _ = Unit {0}

abbrev pub LabellingOf : Option Planned → StoreCalls → Status → Type 0
LabellingOf (Some p) s answer = LabellingBy p.verb p s answer
LabellingOf None s answer = Unit {0}

abbrev pub Labelling : List (List ℕ) → StoreCalls → Status → Type 0
Labelling words s answer = LabellingOf (form_of words) s answer
