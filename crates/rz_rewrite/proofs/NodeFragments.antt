-- The fragments of the kept nodes: each has items, and they stand from the node's place on.
use Rattle.std.proofs.Common.{◌≡◌, ℕ, ◌+◌, ◌*◌, Bool, true, false, ◌==◌, if◌then◌else◌, nat_le, List, [], ◌∷◌, ◌++◌, length, Option, Some, refl, sym, ap, ap₂, ◌∙◌, arith, length-append}
use Rattle.std.proofs.lemmas.List.{length-map}
use Rattle.rz_isa.specs.declared.decoding.Decoded.{Decoded}
use Rattle.rz_isa.specs.declared.decoding.Decoded.TheVariants as decodeds
use Rattle.rz_isa.specs.declared.instruction.Insn.{Insn}
use Rattle.rz_isa.specs.declared.item_list.Item.{Item}
use Rattle.rz_isa.specs.declared.fragment_list.Fragment.{Fragment}
use Rattle.rz_isa.specs.Insn.{kind_of}
use Rattle.rz_isa.specs.Items.{list_slots, slots_from, item_count, beside}
use Rattle.rz_isa.specs.Nodes.{Decoder, Code, is_site, spelled_at}
use Rattle.rz_image.specs.Memory.{wrap}
use Rattle.rz_elf.specs.Format.{stub_size}
use Rattle.rz_machine.specs.declared.way.Transfer.TheVariants as transfer
use Rattle.rz_machine.specs.declared.way.Way.{Way}
use Rattle.rz_machine.specs.declared.way.Way.TheVariants.{Onward, Jumps, Branches, BranchesOnRcx, Transfers, Calls, Halts}
use Rattle.rz_machine.specs.Way.{way_of}
use Rattle.rz_machine.specs.Added.{index_of}
use Rattle.rz_machine.specs.Kept.{Edges, has_edge, targets_of}
use Rattle.rz_machine.specs.Laws.Ways.{kind_in, kind_by_way}
use Rattle.rz_machine.specs.Sequence.{items_by, fragment_items, load_value, check, look_up, dispatch, site_items, items_for, node_items}
use Rattle.rz_rewrite.specs.Fragments.{is_needless, trimmed, stub_pairs}

-- ---- each list of items has one

abbrev pub IsCons : List Item → Type 0
IsCons l = (i : Item) × (rest : List Item) × (l ≡ i ∷ rest)

checked : (scratch at first previous : ℕ) (targets : List ℕ) → IsCons (check scratch at first previous targets)
checked scratch at first previous [] = (_, _, refl)
checked scratch at first previous (t ∷ rest) = (_, _, refl)

dispatched : (scratch at first : ℕ) (targets : List ℕ) → IsCons (dispatch scratch at first targets)
dispatched scratch at first targets = go (nat_le (length targets) 32)
  where
    go : (b : Bool) → IsCons (if b then check scratch at first 0 targets else look_up scratch at)
    go true = checked scratch at first 0 targets
    go false = (_, _, refl)

append_cons : (a b : List Item) → IsCons b → IsCons (a ++ b)
append_cons [] b h = h
append_cons (i ∷ a) b h = (i, a ++ b, refl)

way_items : (w : Way) (keeps : ℕ → Bool) (a n : ℕ) (x : Insn) → is_site (kind_in w) ≡ false → IsCons (items_by w keeps a n x)
way_items Onward keeps a n x e = (_, _, refl)
way_items (Jumps target) keeps a n x e = (_, _, refl)
way_items (Branches cond target) keeps a n x e = (_, _, refl)
way_items (BranchesOnRcx target) keeps a n x e = (_, _, refl)
way_items (Transfers (transfer.Call target)) keeps a n x e = (_, _, refl)
way_items (Transfers (transfer.CallInd src)) keeps a n x e = absurd (cc)
way_items (Transfers (transfer.JmpInd src)) keeps a n x e = absurd (cc)
way_items (Transfers (transfer.Ret pop)) keeps a n x e = absurd (cc)
way_items Calls keeps a n x e = (_, _, refl)
way_items (Halts how) keeps a n x e = (_, _, refl)

decoded_items : (scratch : ℕ) (edges : Edges) (a : ℕ) (d : Decoded) → IsCons (items_for scratch edges a d)
decoded_items scratch edges a (decodeds.Insn x len) = go (is_site (kind_of x)) refl
  where
    n : ℕ
    n = wrap (a + len)

    go : (v : Bool) → is_site (kind_of x) ≡ v → IsCons (if v then site_items scratch (targets_of edges a) a n x else fragment_items (has_edge edges a) a n x)
    go true e = append_cons (load_value scratch n x) _ (dispatched scratch a (length (load_value scratch n x)) (targets_of edges a))
    go false e = way_items (way_of x) (has_edge edges a) a n x (sym (ap is_site (kind_by_way x)) ∙ e)
decoded_items scratch edges a decodeds.Short = (_, _, refl)
decoded_items scratch edges a decodeds.Unknown = (_, _, refl)

trimmed_cons : (o : Option ℕ) (l : List Item) → IsCons l → IsCons (trimmed o l)
trimmed_cons o [] h = absurd (let e = h.2 in cc)
trimmed_cons o (i ∷ []) h = (i, [], refl)
trimmed_cons o (i ∷ j ∷ []) h = go (is_needless o j)
  where
    go : (v : Bool) → IsCons (if v then i ∷ [] else (i ∷ j ∷ []))
    go true = (i, [], refl)
    go false = (i, j ∷ [], refl)
trimmed_cons o (i ∷ j ∷ k ∷ rest) h = (i, _, refl)

pub node_some : (dec : Decoder) (code : Code) (scratch : ℕ) (edges : Edges) (a : ℕ) (o : Option ℕ) → IsCons (trimmed o (node_items dec code scratch edges a))
node_some dec code scratch edges a o = trimmed_cons o _ (decoded_items scratch edges a (spelled_at dec code a))

-- ---- how many items there are

pub slots_long : (first : ℕ) (list : List Fragment) → length (slots_from first list) ≡ item_count list
slots_long first [] = refl
slots_long first (f ∷ rest) =
    length-append (list_slots first f.items) (slots_from (first + length f.items) rest)
    ∙ ap₂ ◌+◌ (length-map f.items _) (slots_long (first + length f.items) rest)

-- ---- the stub beside a node is that of its rank

pub stub_beside : (nodes : List ℕ) (from a t : ℕ) → beside (stub_pairs from nodes) a ≡ Some t → from + stub_size * index_of nodes a ≡ t
stub_beside [] from a t e = absurd (cc)
stub_beside (b ∷ nodes) from a t e = go (b == a) e (stub_beside nodes (from + stub_size) a t)
  where
    go : (v : Bool) → (if v then Some from else beside (stub_pairs (from + stub_size) nodes) a) ≡ Some t
        → (beside (stub_pairs (from + stub_size) nodes) a ≡ Some t → from + stub_size + stub_size * index_of nodes a ≡ t) → from + stub_size * (if v then 0 else 1 + index_of nodes a) ≡ t
    go true e ih = let same : from ≡ t = cc in omega (arith, same)
    go false e ih = let h = ih e in omega (arith, h)
