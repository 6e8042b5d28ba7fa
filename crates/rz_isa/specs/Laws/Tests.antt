use Rattle.std.proofs.Common.{ℕ, ◌≡◌, ◌≢◌, ◌<◌, ◌≤◌, ◌==◌, ap, arith, Bool, true, false, ◌&&◌, ◌||◌, Option, Some, None}
use Rattle.std.specs.Prelude.{nat_lt, nat_le, if◌then◌else◌}
use Rattle.std.proofs.lemmas.Bool.Decides.{nat_tests}

-- Tests and what they let through, for values of any type.

pub never : (b : Bool) → b ≡ true → b ≡ false → ⊥
never b t f = cc

pub and_parts : (a b : Bool) → (a && b) ≡ true → (a ≡ true) × (b ≡ true)
and_parts a b h = (grind arith, grind arith)

pub and_both : (a b : Bool) → a ≡ true → b ≡ true → (a && b) ≡ true
and_both a b ea eb = grind arith

pub and_three : (a b c : Bool) → (a && b && c) ≡ true → (a ≡ true) × (b ≡ true) × (c ≡ true)
and_three a b c h = (grind arith, grind arith, grind arith)

pub all_three : (a b c : Bool) → a ≡ true → b ≡ true → c ≡ true → (a && b && c) ≡ true
all_three a b c ea eb ec = grind arith

pub or_left : (a b : Bool) → a ≡ true → (a || b) ≡ true
or_left a b e = grind arith

pub or_right : (a b : Bool) → b ≡ true → (a || b) ≡ true
or_right a b e = grind arith

pub equal_is : (n k : ℕ) → (n == k) ≡ true → n ≡ k
equal_is n k e = grind (arith, nat_tests)

pub equal_test : (n k : ℕ) → n ≡ k → (n == k) ≡ true
equal_test n k e = grind (arith, nat_tests)

pub unequal_test : (n k : ℕ) → n ≢ k → (n == k) ≡ false
unequal_test n k e = grind (arith, nat_tests)

pub below_test : (n k : ℕ) → n < k → nat_lt n k ≡ true
below_test n k h = grind (arith, nat_tests)

pub within_test : (n k : ℕ) → n ≤ k → nat_le n k ≡ true
within_test n k h = grind (arith, nat_tests)

pub some_same : {X : Type 0} (a b : X) → Some a ≡ Some b → a ≡ b
some_same a b e = cc

pub none_some : {X : Type 0} (a : X) → None ≡ Some a → ⊥
none_some a e = cc

pub passed : {X : Type 0} (b : Bool) (o : Option X) (a : X) → (if b then o else None) ≡ Some a → (b ≡ true) × (o ≡ Some a)
passed b o a h1 = grind (arith, nat_tests)

pub through : {X : Type 0} (b : Bool) (x a : X) → (if b then Some x else None) ≡ Some a → (b ≡ true) × (x ≡ a)
through b x a e = (let t = passed b (Some x) a e in (t.0, some_same x a t.1))

-- ---- choices

pub if_true : {X : Type 0} (b : Bool) (x y : X) → b ≡ true → (if b then x else y) ≡ x
if_true b x y e = ap (λ k. if k then x else y) e

pub if_false : {X : Type 0} (b : Bool) (x y : X) → b ≡ false → (if b then x else y) ≡ y
if_false b x y e = ap (λ k. if k then x else y) e

-- what holds on both ways holds of the choice
pub if_both : {X : Type 0} (P : X → Type 0) (b : Bool) (x y : X) → (b ≡ true → P x) → (b ≡ false → P y) → P (if b then x else y)
if_both P b x y h1 h2 = grind (arith, nat_tests)
