-- Places, and the links between them.
use Rattle.std.proofs.Common.{◌≡◌, ◌≢◌, ◌⊎◌, List, length, inl, inr, ⊎_elim, sym, ap, subst, ◌∙◌}
use Rattle.std.proofs.lemmas.Bool.{cases_eq, cases_lt}
use Rattle.std.proofs.lemmas.List.{get_or_past}
use Rattle.rz_links.specs.declared.links.Place.{Place}
use Rattle.rz_links.specs.declared.links.Place.TheVariants.{Head, Node}
use Rattle.rz_links.specs.declared.links.Link.{Link}
use Rattle.rz_links.specs.Calls.Links.{alone, link_of, next_of, prev_of, IsPlace, Joined, AreInverse, Attached, AttachedBefore}

-- two places are the same or not
pub cases_place : (r s : Place) → (r ≡ s) ⊎ (r ≢ s)
cases_place (Head l) (Head m) = ⊎_elim (λ e. inl (ap Head e)) (λ ne. inr (λ e. ne (cc))) (cases_eq l m)
cases_place (Head l) (Node n) = inr (λ e. cc)
cases_place (Node n) (Head l) = inr (λ e. cc)
cases_place (Node m) (Node n) = ⊎_elim (λ e. inl (ap Node e)) (λ ne. inr (λ e. ne (cc))) (cases_eq m n)

-- a place that the vectors do not have leads to itself
lone : (heads nodes : List Link) (r : Place) → IsPlace (length heads) (length nodes) r ⊎ (link_of heads nodes r ≡ alone r)
lone heads nodes (Head l) = ⊎_elim inl (λ h. inr (get_or_past heads l (alone (Head l)) h)) (cases_lt l (length heads))
lone heads nodes (Node n) = ⊎_elim inl (λ h. inr (get_or_past nodes n (alone (Node n)) h)) (cases_lt n (length nodes))

-- what follows a place of the vectors is a place of theirs
pub next_within : (heads nodes : List Link) (r : Place) → AreInverse (next_of heads nodes) (prev_of heads nodes) → IsPlace (length heads) (length nodes) r → IsPlace (length heads) (length nodes) (next_of heads nodes r)
next_within heads nodes r i h =
    let s = next_of heads nodes r in
    elim (lone heads nodes s) [
      | inl in' ↦ in'
      | inr e ↦ subst (IsPlace (length heads) (length nodes)) (sym (i.back r) ∙ ap (λ (k : Link). k.prev) e) h
    ]

pub prev_within : (heads nodes : List Link) (r : Place) → AreInverse (next_of heads nodes) (prev_of heads nodes) → IsPlace (length heads) (length nodes) r → IsPlace (length heads) (length nodes) (prev_of heads nodes r)
prev_within heads nodes r i h =
    let s = prev_of heads nodes r in
    elim (lone heads nodes s) [
      | inl in' ↦ in'
      | inr e ↦ subst (IsPlace (length heads) (length nodes)) (sym (i.forth r) ∙ ap (λ (k : Link). k.next) e) h
    ]

module _ {n p n₁ p₁ n₂ p₂ : Place → Place} where
  detached_back : (at : Place) → AreInverse n p → Joined n p n₁ p₁ (p at) (n at) → Joined n₁ p₁ n₂ p₂ at at → (r : Place) → p₂ (n₂ r) ≡ r
  detached_back at i j k r =
      elim (cases_place r at) [
        | inl e ↦ cc
        | inr ne ↦ let s : n₂ r ≡ n₁ r = k.next_other r ne in
            elim (cases_place r (p at)) [
              | inl e ↦ let m : n at ≢ at = λ h. ne (cc (i.back at)) in cc (k.prev_other (n at) m)
              | inr ne' ↦
                  let a : n r ≢ at = λ h. ne' (cc (i.back r)) in
                  let b : n r ≢ n at = λ h. ne (cc (i.back r, i.back at)) in
                  cc (i.back r, j.next_other r ne', k.prev_other (n r) a, j.prev_other (n r) b)
            ]
      ]

  pub attached_inverse : (at o : Place) → o ≢ at → n at ≡ at → AreInverse n p → Joined n p n₁ p₁ o at → Joined n₁ p₁ n₂ p₂ at (n o) → AreInverse n₂ p₂
  attached_inverse at o ne own i j k = record {
    back = λ r. elim (cases_place r at) [
      | inl e ↦ cc
      | inr a ↦ elim (cases_place r o) [
        | inl e ↦ let m : at ≢ n o = λ h. ne (cc (i.back o, i.back at)) in cc (k.next_other o ne, k.prev_other at m)
        | inr b ↦
            let c : n r ≢ n o = λ h. b (cc (i.back r, i.back o)) in
            let d : n r ≢ at = λ h. a (cc (i.back r, i.back at)) in
            cc (i.back r, k.next_other r a, j.next_other r b, k.prev_other (n r) c, j.prev_other (n r) d)
      ]
    ];
    forth = λ r. elim (cases_place r (n o)) [
      | inl e ↦ cc
      | inr a ↦ elim (cases_place r at) [
        | inl e ↦ cc (k.prev_other r a, k.next_other o ne)
        | inr b ↦
            let c : p r ≢ at = λ h. b (cc (i.forth r)) in
            let d : p r ≢ o = λ h. a (cc (i.forth r)) in
            cc (i.forth r, k.prev_other r a, j.prev_other r b, k.next_other (p r) c, j.next_other (p r) d)
      ]
    ];
  }

pub flipped : {n p n' p' : Place → Place} {a b : Place} → Joined n p n' p' a b → Joined p n p' n' b a
flipped j = record { next_at = j.prev_at; next_other = j.prev_other; prev_at = j.next_at; prev_other = j.next_other }

pub turned : {n p : Place → Place} → AreInverse n p → AreInverse p n
turned i = record { back = i.forth; forth = i.back }

pub detached_inverse : {n p n₁ p₁ n₂ p₂ : Place → Place} (at : Place) → AreInverse n p → Joined n p n₁ p₁ (p at) (n at) → Joined n₁ p₁ n₂ p₂ at at → AreInverse n₂ p₂
detached_inverse at i j k = record {
  back = detached_back at i j k;
  forth = detached_back at (turned i) (flipped j) (flipped k);
}

-- what is put after the place before another is put before that one
pub before_is : {n p n' : Place → Place} (at other : Place) → AreInverse n p → Attached n n' at (p other) → AttachedBefore n n' at other
before_is {n} {p} at other i a = record {
  from = a.from ∙ i.forth other;
  to = λ r e. let f : r ≡ p other = sym (i.back r) ∙ ap p e in cc (a.to);
  keeps = λ r ne. a.keeps r (λ e. ne (ap n e ∙ i.forth other));
  own = a.own;
}
