-- The search for what walks reach: found nodes are followed in the order in which they were found.
use Rattle.std.proofs.Common.{◌≡◌, ◌+◌, ◌<◌, ◌≤◌, ◌↔◌, ◌&&◌, ℕ, Bool, true, false, Some, List, All, length, slice_get, inl, inr, ⊎_elim, refl, sym, ap, ◌∙◌, subst, arith}
use Rattle.std.proofs.lemmas.Bool.{cases_lt}
use Rattle.std.proofs.lemmas.Option.{same_Some, slice_get-get_or, slice_get_within}
use Rattle.rz_links.specs.declared.arena.Family.{Family}
use Rattle.rz_aset.specs.Sets.{has, with_addresses}
use Rattle.rz_aset.specs.Laws.Places.{All_at, has_at, place_of, has-with_addresses, with_addresses-at, with_addresses-keeps, with_addresses-only}
use Rattle.rz_flow.specs.Flow.{Flow, neighbours}
use Rattle.rz_flow.specs.Calls.Linked.{IsReached}
use Rattle.rz_flow.proofs.Walks.{all_reached, reached_more, reached_start}

-- what is found is reached, and has the starts that are nodes and the neighbours of each that was followed
pub record Reaching (f : Family) (flow : Flow) (starts found : List ℕ) (followed : ℕ) : Type 0 where
  pub known : (b : ℕ) → has found b ≡ true → has flow.nodes b ≡ true
  pub sound : (b : ℕ) → has found b ≡ true → IsReached f flow starts b
  pub begun : (s : ℕ) → has starts s ≡ true → has flow.nodes s ≡ true → has found s ≡ true
  pub closed : (k a b : ℕ) → k < followed → slice_get found k ≡ Some a → has (neighbours f flow.edges a) b ≡ true → has found b ≡ true
  pub within : followed ≤ length found

and_parts : (p q : Bool) → (p && q) ≡ true → (p ≡ true) × (q ≡ true)
and_parts true q e = (refl, e)
and_parts false q e = absurd (cc)

module _ (f : Family) (flow : Flow) (starts : List ℕ) where
  pub reaching_start : (found : List ℕ) → ((b : ℕ) → has found b ≡ (has starts b && has flow.nodes b)) → Reaching f flow starts found 0
  reaching_start found h = record {
    known = λ b e. (and_parts (has starts b) (has flow.nodes b) (sym (h b) ∙ e)).1;
    sound = λ b e. let both = and_parts (has starts b) (has flow.nodes b) (sym (h b) ∙ e) in reached_start flow starts f b both.0 both.1;
    begun = λ s e k. h s ∙ rw (e, k) refl;
    closed = λ k a b lt. absurd (omega arith);
    within = omega arith;
  }

  module _ (found : List ℕ) (followed a : ℕ) (here : slice_get found followed ≡ Some a) (r : Reaching f flow starts found followed) where
    pub next_known : has flow.nodes a ≡ true
    next_known = r.known a (has_at found followed a here)

    pub reaching_step : All (λ b. has flow.nodes b ≡ true) (neighbours f flow.edges a) → Reaching f flow starts (with_addresses found (neighbours f flow.edges a)) (followed + 1)
    reaching_step ends = record {
      known = λ b e. ⊎_elim (r.known b) (All_at (λ b. has flow.nodes b ≡ true) next b ends) (with_addresses-only found next b e);
      sound = λ b e. ⊎_elim (r.sound b) (reached_more flow starts f a b (r.sound a (has_at found followed a here))) (with_addresses-only found next b e);
      begun = λ s e k. with_addresses-keeps found next s (r.begun s e k);
      closed = closed;
      within = let lt = slice_get_within (with_addresses found next) followed a (with_addresses-at found next followed a here) in omega arith;
    }
      where
        next : List ℕ
        next = neighbours f flow.edges a

        closed : (k c b : ℕ) → k < followed + 1 → slice_get (with_addresses found next) k ≡ Some c → has (neighbours f flow.edges c) b ≡ true → has (with_addresses found next) b ≡ true
        closed k c b lt e h =
            elim (cases_lt k followed) [
              | inl old ↦
                  let at = place_at k old in
                  let same : c ≡ at.0 = same_Some c at.0 (sym e ∙ with_addresses-at found next k at.0 at.1) in
                  with_addresses-keeps found next b (r.closed k at.0 b old at.1 (subst (λ x. has (neighbours f flow.edges x) b ≡ true) same h))
              | inr ge ↦
                  let k-is : k ≡ followed = omega arith in
                  let same : c ≡ a = same_Some c a (sym e ∙ ap (slice_get (with_addresses found next)) k-is ∙ with_addresses-at found next followed a here) in
                  has-with_addresses found next b (subst (λ x. has (neighbours f flow.edges x) b ≡ true) same h)
            ]
          where
            place_at : (k : ℕ) → k < followed → (x : ℕ) × (slice_get found k ≡ Some x)
            place_at k lt = (_, slice_get-get_or found k 0 (let w = r.within in omega arith))

  pub reaching_end : (found : List ℕ) (followed : ℕ) → length found ≤ followed → Reaching f flow starts found followed → (b : ℕ) → (has found b ≡ true) ↔ IsReached f flow starts b
  reaching_end found followed all r b = (r.sound b, all_reached flow starts found r.begun f closed b)
    where
      closed : (a b : ℕ) → has found a ≡ true → has (neighbours f flow.edges a) b ≡ true → has found b ≡ true
      closed a b e h =
          let at = place_of found a e in
          let lt = slice_get_within found at.0 a at.1 in
          r.closed at.0 a b (omega arith) at.1 h
