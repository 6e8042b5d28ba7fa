-- The instruction of an item of a list whose last item is no jump, by the item's number.
use Rattle.std.proofs.Common.{◌≡◌, ℕ, zero, suc, ◌+◌, ⊎_elim, List, [], ◌∷◌, Some, None, IsSomeAnd, sym, subst, arith}
use Rattle.std.specs.Prelude.{slice_get}
use Rattle.std.specs.Option.{option_map}
use Rattle.rz_flags.specs.declared.Cond.{Cond}
use Rattle.rz_isa.specs.declared.instruction.Insn.{Insn}
use Rattle.rz_isa.specs.declared.instruction.Insn.TheVariants as insn
use Rattle.rz_isa.specs.declared.item_list.Label.TheVariants as label
use Rattle.rz_isa.specs.declared.item_list.Item.{Item}
use Rattle.rz_isa.specs.declared.item_list.Item.TheVariants as item
use Rattle.rz_isa.specs.Items.{Addresses}
use Rattle.rz_isa.specs.Nodes.{Decoder}
use Rattle.rz_image.specs.Memory.{Regions}
use Rattle.rz_machine.specs.Simulates.{InsnAt, ItemAt, ItemsFrom}
use Rattle.rz_lookup.specs.Routine.{NamesItems, branch}

-- the last item is no jump, so that none is missing
abbrev pub EndsWhole : List Item → Type 0
EndsWhole [] = Unit {0}
EndsWhole (item.Whole x ∷ []) = Unit {0}
EndsWhole (i ∷ []) = ⊥
EndsWhole (i ∷ j ∷ rest) = EndsWhole (j ∷ rest)

module _ (dec : Decoder) (wm : Regions) (at : Addresses) (own : ℕ → ℕ) where
  abbrev EachAt : ℕ → List Item → Type 0
  EachAt k [] = Unit {0}
  EachAt k (i ∷ rest) = ItemAt dec wm at (own k) i (own (suc k)) × EachAt (suc k) rest

  between : (k p next : ℕ) (i : Item) → own k ≡ p → own (suc k) ≡ next → ItemAt dec wm at p i next → ItemAt dec wm at (own k) i (own (suc k))
  between k p next i e f h = subst (λ q. ItemAt dec wm at q i (own (suc k))) (sym e) (subst (λ q. ItemAt dec wm at p i q) (sym f) h)

  each_at : (k p : ℕ) (items : List Item) → EndsWhole items → ItemsFrom dec wm at own k p items → EachAt k items
  each_at k p [] e h = tt
  each_at k p (item.Whole x ∷ []) e h = ⊎_elim (λ s. (between k p s.0 (item.Whole x) h.0 s.2 s.1, tt)) (λ none. absurd none.1) h.1
  each_at k p (_ ∷ []) e h = absurd e
  each_at k p (i ∷ j ∷ rest) e h = ⊎_elim (λ s. (between k p s.0 i h.0 s.2.0 s.1, each_at (suc k) s.0 (j ∷ rest) e s.2)) (λ none. absurd none) h.1

  item_at : (items : List Item) (k n : ℕ) (i : Item) → EachAt k items → slice_get items n ≡ Some i → ItemAt dec wm at (own (k + n)) i (own (suc (k + n)))
  item_at [] k n i e h = absurd (cc)
  item_at (j ∷ rest) k zero i e h =
      let f : j ≡ i = cc in
      let z : k ≡ k + 0 = omega arith in
      subst (λ m. ItemAt dec wm at (own m) i (own (suc m))) z (subst (λ x. ItemAt dec wm at (own k) x (own (suc k))) f e.0)
  item_at (j ∷ rest) k (suc n) i e h =
      let z : suc k + n ≡ k + suc n = omega arith in
      subst (λ m. ItemAt dec wm at (own m) i (own (suc m))) z (item_at rest (suc k) n i e.1 h)

  module _ (names : NamesItems at own) (p : ℕ) (items : List Item) (ends : EndsWhole items) (h : ItemsFrom dec wm at own 0 p items) where
    numbered : (n : ℕ) (i : Item) → slice_get items n ≡ Some i → ItemAt dec wm at (own n) i (own (suc n))
    numbered n i e = let z : 0 + n ≡ n = omega arith in subst (λ m. ItemAt dec wm at (own m) i (own (suc m))) z (item_at items 0 n i (each_at 0 p items ends h) e)

    pub whole_at : (n : ℕ) (x : Insn) → slice_get items n ≡ Some (item.Whole x) → InsnAt dec wm (own n) x (own (suc n))
    whole_at n x e = numbered n (item.Whole x) e

    pub branch_at : (n : ℕ) (c : Cond) (k : ℕ) → slice_get items n ≡ Some (branch c k) → InsnAt dec wm (own n) (insn.Jcc c (own k)) (own (suc n))
    branch_at n c k e =
        subst (λ o. IsSomeAnd (option_map (λ q. insn.Jcc c q) o) (λ x. InsnAt dec wm (own n) x (own (suc n)))) (names k) (numbered n (branch c k) e)

    pub jump_at : (n k : ℕ) → slice_get items n ≡ Some (item.Jump None (label.Item k)) → InsnAt dec wm (own n) (insn.Jmp (own k)) (own (suc n))
    jump_at n k e =
        subst (λ o. IsSomeAnd (option_map (λ q. insn.Jmp q) o) (λ x. InsnAt dec wm (own n) x (own (suc n)))) (names k) (numbered n (item.Jump None (label.Item k)) e)
