-- What the labels of a kept node's items name: fragments of kept nodes, the node's stub, and items of their own list.
use Rattle.std.proofs.Common.{◌≡◌, ℕ, zero, suc, ◌+◌, ◌*◌, ◌^◌, ◌<◌, ◌≤◌, Bool, true, false, ◌||◌, ◌==◌, if◌then◌else◌, nat_le, List, [], ◌∷◌, ◌++◌, length, Option, Some, IsSome, is_some, IsSomeAnd, refl, sym, ap, ◌∙◌, arith}
use Rattle.std.specs.List.{AllByRecursion}
use Rattle.rz_isa.specs.declared.decoding.Decoded.{Decoded}
use Rattle.rz_isa.specs.declared.decoding.Decoded.TheVariants as decodeds
use Rattle.rz_isa.specs.declared.instruction.Insn.{Insn}
use Rattle.rz_isa.specs.declared.instruction.Insn.TheVariants as insn
use Rattle.rz_isa.specs.declared.item_list.Label.{Label}
use Rattle.rz_isa.specs.declared.item_list.Label.TheVariants as label
use Rattle.rz_isa.specs.declared.item_list.Item.{Item}
use Rattle.rz_isa.specs.Insn.{kind_of}
use Rattle.rz_isa.specs.Items.{first_number, fragment_number, beside}
use Rattle.rz_isa.specs.Nodes.{is_site}
use Rattle.rz_isa.specs.Sizes.{OfLabel}
use Rattle.rz_elf.specs.Format.{stub_size}
use Rattle.rz_image.specs.Memory.{wrap}
use Rattle.rz_machine.specs.declared.way.Transfer.TheVariants as transfer
use Rattle.rz_machine.specs.declared.way.Way.{Way}
use Rattle.rz_machine.specs.declared.way.Way.TheVariants.{Onward, Jumps, Branches, BranchesOnRcx, Transfers, Calls, Halts}
use Rattle.rz_machine.specs.Way.{way_of}
use Rattle.rz_machine.specs.Kept.{Edges, has_node, has_edge, targets_of}
use Rattle.rz_machine.specs.Sequence.{to_label, items_by, fragment_items, drop, load_value, check, look_up, dispatch, site_items, items_of, items_for}
use Rattle.rz_rewrite.specs.Fragments.{is_needless, trimmed, first_node, fragment_list, stub_pairs}
use Rattle.rz_rewrite.proofs.KeptTargets.{each_member, has_target}

-- ---- a test of labels that those of kept nodes and of the own list pass

module _ (P : Label → Type 0) (own : (k : ℕ) → P (label.Item k)) where
  abbrev pub Known : List Item → Type 0
  Known l = AllByRecursion (OfLabel P) l

  known_append : (a b : List Item) → Known a → Known b → Known (a ++ b)
  known_append [] b h k = k
  known_append (i ∷ a) b h k = (h.0, known_append a b h.1 k)

  -- of a node whose stub passes, and so do the places of its kept successors
  module _ (edges : Edges) (a : ℕ) (stub : P (label.Stub a)) (places : (b : ℕ) → has_edge edges a b ≡ true → P (label.Place b)) where
    edge_known : (b : ℕ) → P (to_label (has_edge edges a) a b)
    edge_known b = go (has_edge edges a b) refl
      where
        go : (v : Bool) → has_edge edges a b ≡ v → P (if v then label.Place b else label.Stub a)
        go true e = places b e
        go false e = stub

    way_known : (w : Way) (n : ℕ) (x : Insn) → Known (items_by w (has_edge edges a) a n x)
    way_known Onward n x = (tt, (edge_known n, tt))
    way_known (Jumps target) n x = (edge_known target, tt)
    way_known (Branches cond target) n x = (edge_known target, (edge_known n, tt))
    way_known (BranchesOnRcx target) n x = (own 2, (edge_known n, (edge_known target, tt)))
    way_known (Transfers (transfer.Call target)) n x = (tt, (edge_known target, tt))
    way_known (Transfers (transfer.CallInd src)) n x = tt
    way_known (Transfers (transfer.JmpInd src)) n x = tt
    way_known (Transfers (transfer.Ret pop)) n x = tt
    way_known Calls n x = (tt, (tt, (edge_known n, tt)))
    way_known (Halts how) n x = (tt, tt)

    check_known : (scratch first previous : ℕ) (targets : List ℕ) → AllByRecursion (λ t. P (label.Place t)) targets → Known (check scratch a first previous targets)
    check_known scratch first previous [] h = (tt, (stub, tt))
    check_known scratch first previous (t ∷ rest) h = (tt, (own (first + 3), (own (first + 5), (tt, (h.0, check_known scratch (first + 5) t rest h.1)))))

    dispatch_known : (scratch first : ℕ) (targets : List ℕ) → AllByRecursion (λ t. P (label.Place t)) targets → P (label.Table a) → P label.Routine → Known (dispatch scratch a first targets)
    dispatch_known scratch first targets h table routine = go (nat_le (length targets) 32)
      where
        go : (b : Bool) → Known (if b then check scratch a first 0 targets else look_up scratch a)
        go true = check_known scratch first 0 targets h
        go false = (table, (routine, tt))

    drop_known : (n : ℕ) → Known (drop n)
    drop_known zero = tt
    drop_known (suc n) = (tt, tt)

    load_known : (scratch n : ℕ) (x : Insn) → is_site (kind_of x) ≡ true → Known (load_value scratch n x)
    load_known scratch n (insn.Ret bytes) e = (tt, (tt, drop_known bytes))
    load_known scratch n (insn.JmpInd src) e = (tt, (tt, tt))
    load_known scratch n (insn.CallInd src) e = (tt, (tt, (tt, (tt, (tt, (tt, tt))))))
    load_known scratch n x e = cc

    pub items_known : (scratch n : ℕ) (x : Insn) → (is_site (kind_of x) ≡ true → P (label.Table a) × P label.Routine) → Known (items_of scratch edges a n x)
    items_known scratch n x lookup = go (is_site (kind_of x)) refl
      where
        go : (v : Bool) → is_site (kind_of x) ≡ v → Known (if v then site_items scratch (targets_of edges a) a n x else fragment_items (has_edge edges a) a n x)
        go true e =
            let l = lookup e in
            known_append (load_value scratch n x) _ (load_known scratch n x e)
            (dispatch_known scratch (length (load_value scratch n x)) (targets_of edges a) (each_member (λ t. P (label.Place t)) (targets_of edges a) (λ t m. places t (sym (has_target edges a t) ∙ m))) l.0 l.1)
        go false e = way_known (way_of x) n x

    pub decoded_known : (scratch : ℕ) (d : Decoded) → ((x : Insn) (len : ℕ) → d ≡ decodeds.Insn x len → is_site (kind_of x) ≡ true → P (label.Table a) × P label.Routine)
        → Known (items_for scratch edges a d)
    decoded_known scratch (decodeds.Insn x len) lookup = items_known scratch (wrap (a + len)) x (lookup x len refl)
    decoded_known scratch decodeds.Short lookup = (tt, tt)
    decoded_known scratch decodeds.Unknown lookup = (tt, tt)

-- ---- the fragment and the stub of a node

-- a node's fragment has a number
pub numbered : (items : ℕ → List Item) (some : (a : ℕ) (o : Option ℕ) → (i : Item) × (rest : List Item) × (trimmed o (items a) ≡ i ∷ rest)) (nodes : List ℕ) (first a : ℕ) → has_node nodes a ≡ true
    → IsSome (fragment_number first (fragment_list items nodes) a)
numbered items some [] first a e = cc
numbered items some (c ∷ nodes) first a e = go (c == a) e (numbered items some nodes (first + length (trimmed (first_node nodes) (items c))) a)
  where
    begins : (l : List Item) (i : Item) (rest : List Item) → l ≡ i ∷ rest → IsSome (first_number first l)
    begins l i rest e = ap (λ k. is_some (first_number first k)) e

    go : (v : Bool) → (v || has_node nodes a) ≡ true → (has_node nodes a ≡ true → IsSome (fragment_number (first + length (trimmed (first_node nodes) (items c))) (fragment_list items nodes) a))
        → IsSome (if v then first_number first (trimmed (first_node nodes) (items c)) else fragment_number (first + length (trimmed (first_node nodes) (items c))) (fragment_list items nodes) a)
    go true e ih = let s = some c (first_node nodes) in begins _ s.0 s.1 s.2
    go false e ih = ih e

-- and its stub an address below the end of the stubs
pub stubbed : (nodes : List ℕ) (from a : ℕ) → has_node nodes a ≡ true → from + stub_size * length nodes < 2 ^ 31 → IsSomeAnd (beside (stub_pairs from nodes) a) (λ p. p < 2 ^ 31)
stubbed [] from a e low = cc
stubbed (c ∷ nodes) from a e low = go (c == a) e (λ f. stubbed nodes (from + stub_size) a f (omega (arith, low)))
  where
    go : (v : Bool) → (v || has_node nodes a) ≡ true → (has_node nodes a ≡ true → IsSomeAnd (beside (stub_pairs (from + stub_size) nodes) a) (λ p. p < 2 ^ 31))
        → IsSomeAnd (if v then Some from else beside (stub_pairs (from + stub_size) nodes) a) (λ p. p < 2 ^ 31)
    go true e ih = omega (arith, low)
    go false e ih = ih e

-- the trimmed items are the whole sequence, or that without its last item
pub trimmed_front : (o : Option ℕ) (l : List Item) → (rest : List Item) × (length rest ≤ 1) × (trimmed o l ++ rest ≡ l)
trimmed_front o [] = ([], omega arith, refl)
trimmed_front o (i ∷ []) = ([], omega arith, refl)
trimmed_front o (i ∷ j ∷ []) = go (is_needless o j)
  where
    go : (v : Bool) → (rest : List Item) × (length rest ≤ 1) × ((if v then i ∷ [] else (i ∷ j ∷ [])) ++ rest ≡ i ∷ j ∷ [])
    go true = (j ∷ [], omega arith, refl)
    go false = ([], omega arith, refl)
trimmed_front o (i ∷ j ∷ k ∷ rest) = let h = trimmed_front o (j ∷ k ∷ rest) in (h.0, h.1, ap (λ l. i ∷ l) h.2)
