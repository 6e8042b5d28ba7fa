-- A search: what is found is followed in the order in which it was found.
use Rattle.std.proofs.Common.{◌≡◌, ◌+◌, ◌<◌, ◌≤◌, ◌↔◌, ℕ, Bool, true, Some, List, [], length, slice_get, inl, inr, ⊎_elim, sym, ap, ◌∙◌, subst, arith}
use Rattle.std.proofs.lemmas.Bool.{cases_lt}
use Rattle.std.proofs.lemmas.Option.{same_Some, slice_get-get_or, slice_get_within}
use Rattle.rz_aset.specs.Sets.{has, with_addresses}
use Rattle.rz_aset.specs.Laws.Places.{has_at, place_of, with_addresses-at}
use Rattle.rz_paths.specs.Sets.{In, Reached, begin, go}
use Rattle.rz_paths.specs.Laws.Booleans.{never}
use Rattle.rz_paths.proofs.Members.{has-more_old, has-more_new, has-more_cases}

-- what is found is reached, and has the starts and what each that was followed leads to
pub record Searched (starts : List ℕ) (leads : ℕ → ℕ → Bool) (found : List ℕ) (followed : ℕ) : Type 0 where
  pub sound : (b : ℕ) → In found b → Reached (In starts) leads b
  pub begun : (s : ℕ) → In starts s → In found s
  pub closed : (k a b : ℕ) → k < followed → slice_get found k ≡ Some a → leads a b ≡ true → In found b
  pub within : followed ≤ length found

module _ (starts : List ℕ) (leads : ℕ → ℕ → Bool) where
  pub searched_start : Searched starts leads (with_addresses [] starts) 0
  searched_start = record {
    sound = λ b e. ⊎_elim (λ n. never n) (λ s. begin s) (has-more_cases [] starts b e);
    begun = λ s e. has-more_new [] starts s e;
    closed = λ k a b lt. absurd (omega arith);
    within = omega arith;
  }

  module _ (found next : List ℕ) (followed a : ℕ) (here : slice_get found followed ≡ Some a) (same : (b : ℕ) → has next b ≡ leads a b)
      (r : Searched starts leads found followed) where
    pub searched_step : Searched starts leads (with_addresses found next) (followed + 1)
    searched_step = record {
      sound = λ b e. ⊎_elim (r.sound b) (λ n. go (r.sound a (has_at found followed a here)) (sym (same b) ∙ n)) (has-more_cases found next b e);
      begun = λ s e. has-more_old found next s (r.begun s e);
      closed = closed;
      within = let lt = slice_get_within (with_addresses found next) followed a (with_addresses-at found next followed a here) in omega arith;
    }
      where
        closed : (k c b : ℕ) → k < followed + 1 → slice_get (with_addresses found next) k ≡ Some c → leads c b ≡ true → In (with_addresses found next) b
        closed k c b lt e h =
            elim (cases_lt k followed) [
              | inl old ↦
                  let at = place_at k old in
                  let is : c ≡ at.0 = same_Some c at.0 (sym e ∙ with_addresses-at found next k at.0 at.1) in
                  has-more_old found next b (r.closed k at.0 b old at.1 (subst (λ x. leads x b ≡ true) is h))
              | inr ge ↦
                  let k-is : k ≡ followed = omega arith in
                  let is : c ≡ a = same_Some c a (sym e ∙ ap (slice_get (with_addresses found next)) k-is ∙ with_addresses-at found next followed a here) in
                  has-more_new found next b (same b ∙ subst (λ x. leads x b ≡ true) is h)
            ]
          where
            place_at : (k : ℕ) → k < followed → (x : ℕ) × (slice_get found k ≡ Some x)
            place_at k lt = (_, slice_get-get_or found k 0 (let w = r.within in omega arith))

  pub searched_end : (found : List ℕ) (followed : ℕ) → length found ≤ followed → Searched starts leads found followed → (b : ℕ) → In found b ↔ Reached (In starts) leads b
  searched_end found followed all r b = (r.sound b, back b)
    where
      on : (a b : ℕ) → In found a → leads a b ≡ true → In found b
      on a b e h =
          let at = place_of found a e in
          let lt = slice_get_within found at.0 a at.1 in
          r.closed at.0 a b (omega arith) at.1 h

      back : (b : ℕ) → Reached (In starts) leads b → In found b
      back b (begin h) = r.begun b h
      back b (go {a} i l) = on a b (back a i) l
