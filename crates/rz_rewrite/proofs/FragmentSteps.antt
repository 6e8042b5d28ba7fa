-- A walk over nodes that gathers their fragments.
use Rattle.std.proofs.Common.{◌≡◌, ℕ, zero, suc, ◌+◌, ◌<◌, ◌≤◌, List, [], ◌∷◌, ◌++◌, length, get_or, drop, Option, sym, ap, ap₂, ◌∙◌, arith, drop-cons, add-one, append-nil, append_assoc}
use Rattle.std.specs.List.{AllByRecursion}
use Rattle.std.proofs.lemmas.List.{drop_all}
use Rattle.rz_isa.specs.declared.fragment_list.Fragment.{Fragment}
use Rattle.rz_isa.specs.declared.item_list.Item.{Item}
use Rattle.rz_rewrite.specs.Fragments.{trimmed, first_node, fragment_list}

-- what holds of all nodes holds of the one at a place
pub all_at : (P : ℕ → Type 0) (nodes : List ℕ) (i : ℕ) → AllByRecursion P nodes → i < length nodes → P (get_or nodes i 0)
all_at P [] i h lt = absurd (omega arith)
all_at P (a ∷ rest) zero h lt = h.0
all_at P (a ∷ rest) (suc i) h lt = all_at P rest i h.1 (omega (arith, lt))

module _ (items : ℕ → List Item) (nodes : List ℕ) (i : ℕ) where
  -- one fragment more
  pub fragments_turn : (out out2 : List Fragment) (f : Fragment) (l : List Item) (following : Option ℕ) → i < length nodes
      → out2 ≡ out ++ f ∷ []
      → f.at ≡ get_or nodes i 0
      → f.items ≡ trimmed following l
      → l ≡ items (get_or nodes i 0)
      → following ≡ first_node (drop (i + 1) nodes)
      → out2 ++ fragment_list items (drop (i + 1) nodes) ≡ out ++ fragment_list items (drop i nodes)
  fragments_turn out out2 f l following h pushed at its same next =
      let a = get_or nodes i 0 in
      let rest = drop (i + 1) nodes in
      let split : drop i nodes ≡ a ∷ rest = rw add-one (drop-cons nodes i 0 h) in
      let all : f.items ≡ trimmed (first_node rest) (items a) = its ∙ ap (trimmed following) same ∙ ap (λ o. trimmed o (items a)) next in
      let whole : f ∷ fragment_list items rest ≡ fragment_list items (a ∷ rest) =
      ap₂ (λ x y. let g : Fragment = record { at = x; items = y } in g ∷ fragment_list items rest) at all in
      ap (λ l. l ++ fragment_list items rest) pushed ∙ append_assoc out (f ∷ []) (fragment_list items rest) ∙ ap (λ l. out ++ l) whole ∙ ap (λ l. out ++ fragment_list items l) (sym split)

  -- at the end all fragments are there
  pub all_fragments : (out : List Fragment) → length nodes ≤ i → out ++ fragment_list items (drop i nodes) ≡ fragment_list items nodes → out ≡ fragment_list items nodes
  all_fragments out h e = sym (ap (λ l. out ++ fragment_list items l) (drop_all i nodes h) ∙ append-nil out) ∙ e
