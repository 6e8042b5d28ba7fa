-- What results and options say.
use Rattle.std.proofs.Common.{◌≡◌, ◌∙◌, sym, subst}
use Rattle.std.specs.Prelude.{Option, Some, None, Result, Ok, Err, OnOk, IfOk, IfErr, IsErrAnd}
use Rattle.rz_core.specs.declared.status.Status.{Status}

-- an option holds one value, or none
pub one_value : {A : Type 0} (o : Option A) (x y : A) → o ≡ Some x → o ≡ Some y → x ≡ y
one_value o x y e f = let g : Some x ≡ Some y = sym e ∙ f in cc

pub not_both : {A : Type 0} (o : Option A) (x : A) → o ≡ Some x → o ≡ None → ⊥
not_both o x e f = let g : Some x ≡ None = sym e ∙ f in cc

-- what is said of a result, weakened
pub on_ok : {T : Type 0} (r : Result T Status) (P Q : Type 0) → (P → Q) → OnOk r P → OnOk r Q
on_ok (Ok v) P Q f h = f h
on_ok (Err e) P Q f h = tt

pub if_ok : {T E : Type 0} (r : Result T E) (P Q : T → Type 0) → ((v : T) → P v → Q v) → IfOk r P → IfOk r Q
if_ok (Ok v) P Q f h = f v h
if_ok (Err e) P Q f h = tt

pub if_err : {T : Type 0} (r : Result T Status) (P Q : Status → Type 0) → ((st : Status) → P st → Q st) → IfErr r P → IfErr r Q
if_err (Ok v) P Q f h = tt
if_err (Err e) P Q f h = f e h

-- what holds of a refusal holds of the result that `?` hands on
pub handed_on : {T : Type 0} (r : Result T Status) (st : Status) (P : Result T Status → Type 0) → IsErrAnd r (λ e. e ≡ st) → P (Err st) → P r
handed_on (Ok v) st P is h = absurd is
handed_on (Err e) st P is h = subst (λ x. P (Err x)) (sym is) h

pub handed_on_err : {T : Type 0} (r : Result T Status) (st : Status) (P : Status → Type 0) → IsErrAnd r (λ e. e ≡ st) → P st → IfErr r P
handed_on_err (Ok v) st P is h = tt
handed_on_err (Err e) st P is h = subst P (sym is) h
