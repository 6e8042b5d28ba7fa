-- Items without their last one.
use Rattle.std.proofs.Common.{◌≡◌, ℕ, suc, ◌-◌, ◌<◌, ◌≤◌, true, false, List, [], ◌∷◌, length, take, Option, refl, sym, ap, ◌∙◌, subst, arith}
use Rattle.std.specs.Prelude.{slice_index_or}
use Rattle.std.proofs.lemmas.Bool.{cond-true, cond-false}
use Rattle.rz_isa.specs.declared.item_list.Item.{Item}
use Rattle.rz_rewrite.specs.Fragments.{is_needless, trimmed}

module _ (o : Option ℕ) (d : Item) where
  -- a last jump to what follows is left out
  pub without_last : (l : List Item) → 2 ≤ length l → is_needless o (slice_index_or l (length l - 1) d) ≡ true → take (length l - 1) l ≡ trimmed o l
  without_last [] h e = absurd (omega arith)
  without_last (i ∷ []) h e = absurd (omega arith)
  without_last (i ∷ j ∷ []) h e = sym (cond-true (is_needless o j) _ _ e)
  without_last (i ∷ j ∷ k ∷ rest) h e =
      let one : length (i ∷ j ∷ k ∷ rest) - 1 ≡ suc (length (j ∷ k ∷ rest) - 1) = omega arith in
      let P : ℕ → Type 0 = λ n. is_needless o (slice_index_or (i ∷ j ∷ k ∷ rest) n d) ≡ true in
      ap (λ n. take n (i ∷ j ∷ k ∷ rest)) one ∙ ap (λ l. i ∷ l) (without_last (j ∷ k ∷ rest) (omega arith) (subst P one e))

  -- any other stays
  pub with_last : (l : List Item) → 2 ≤ length l → is_needless o (slice_index_or l (length l - 1) d) ≡ false → l ≡ trimmed o l
  with_last [] h e = absurd (omega arith)
  with_last (i ∷ []) h e = absurd (omega arith)
  with_last (i ∷ j ∷ []) h e = sym (cond-false (is_needless o j) _ _ e)
  with_last (i ∷ j ∷ k ∷ rest) h e =
      let one : length (i ∷ j ∷ k ∷ rest) - 1 ≡ suc (length (j ∷ k ∷ rest) - 1) = omega arith in
      let P : ℕ → Type 0 = λ n. is_needless o (slice_index_or (i ∷ j ∷ k ∷ rest) n d) ≡ false in
      ap (λ l. i ∷ l) (with_last (j ∷ k ∷ rest) (omega arith) (subst P one e))

-- the only item stays
pub few_items : (o : Option ℕ) (l : List Item) → length l < 2 → l ≡ trimmed o l
few_items o [] h = refl
few_items o (i ∷ []) h = refl
few_items o (i ∷ j ∷ rest) h = absurd (omega arith)
