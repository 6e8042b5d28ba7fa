-- Steps counted one by one, up to a state that passes a test.
use Rattle.std.proofs.Common.{◌≡◌, ℕ, zero, suc, ◌+◌, ◌<◌, ◌≤◌, Bool, true, false, if◌then◌else◌, refl, sym, ap, ◌∙◌, arith, ◌⊎◌, inl, inr}
use Rattle.std.proofs.Math.Nat.{eq-or-lt_of_le}
use Rattle.rz_isa.specs.Nodes.{Decoder}
use Rattle.rz_machine.specs.declared.machine.Machine.{Machine}
use Rattle.rz_machine.specs.State.{step, after}
use Rattle.rz_machine.specs.Until.{least, steps_until, has_ended, steps_made}
use Rattle.rz_machine.specs.Laws.RunTurns.{after-long}

least_at : (test : ℕ → Bool) (n k : ℕ) → k ≤ n → ((j : ℕ) → j < k → test j ≡ false) → test k ≡ true → least test n ≡ k
least_at test zero k le before here = omega arith
least_at test (suc n) zero le before here = rw here refl
least_at test (suc n) (suc k) le before here =
    let first : test 0 ≡ false = before 0 (omega arith) in
    rw first (ap suc (least_at (λ j. test (suc j)) n k (omega arith) (λ j lt. before (suc j) (omega arith)) here))

least_none : (test : ℕ → Bool) (n : ℕ) → ((j : ℕ) → j < n → test j ≡ false) → least test n ≡ n
least_none test zero before = refl
least_none test (suc n) before =
    let first : test 0 ≡ false = before 0 (omega arith) in
    rw first (ap suc (least_none (λ j. test (suc j)) n (λ j lt. before (suc j) (omega arith))))

module _ (test : Machine → Bool) (dec : Decoder) (s : Machine) where
  -- none of the first states passes
  abbrev pub IsOpen : ℕ → Type 0
  IsOpen k = (j : ℕ) → j < k → test (after dec j s) ≡ false

  pub IsOpen-none : IsOpen 0
  IsOpen-none j lt = absurd (omega arith)

  pub IsOpen-more : (k : ℕ) → IsOpen k → test (after dec k s) ≡ false → IsOpen (k + 1)
  IsOpen-more k before here j lt = go (eq-or-lt_of_le (omega arith))
    where
      go : (j ≡ k) ⊎ (j < k) → test (after dec j s) ≡ false
      go (inl same) = ap (λ i. test (after dec i s)) same ∙ here
      go (inr less) = before j less

  -- a state that passes
  pub passed_after : (n k : ℕ) → k ≤ n → IsOpen k → test (after dec k s) ≡ true → k ≡ steps_until test dec n s
  unfolding steps_until
  passed_after n k le before here = sym (least_at (λ j. test (after dec j s)) n k le before here)

  -- or none
  pub none_passed : (n k : ℕ) → k ≡ n → IsOpen k → k ≡ steps_until test dec n s
  unfolding steps_until
  none_passed n k all before =
      all ∙ sym (least_none (λ j. test (after dec j s)) n (λ j lt. before j (omega (arith, all, lt))))

-- one step more, by whether the run has ended before it
whole_next : (dec : Decoder) (n m : ℕ) (s : Machine) (b : Bool) → has_ended s ≡ b → after dec m (step dec s) ≡ after dec n (step dec s) → after dec (if b then 0 else suc m) s ≡ after dec (suc n) s
unfolding after
whole_next dec n m s true h rest = after-long dec 0 (suc n) s s refl (omega arith) h
whole_next dec n m s false h rest = rest

-- the steps that a run makes are the whole run
pub made_whole : (dec : Decoder) (n : ℕ) (s : Machine) → after dec (steps_made dec n s) s ≡ after dec n s
unfolding steps_until after
made_whole dec zero s = refl
made_whole dec (suc n) s =
    whole_next dec n (least (λ k. has_ended (after dec k (step dec s))) n) s (has_ended s) refl (made_whole dec n (step dec s))
