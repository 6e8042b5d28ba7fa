-- The items of fragments in one order.
use Rattle.std.proofs.Common.{◌≡◌, ℕ, ◌+◌, ◌≤◌, List, [], ◌∷◌, ◌++◌, length, drop, sym, ap, ◌∙◌, refl, append-nil, length-append, Option}
use Rattle.std.proofs.lemmas.List.{drop_all, length-map}
use Rattle.rz_isa.specs.declared.item_list.Item.{Item}
use Rattle.rz_isa.specs.declared.item_list.Slot.{Slot}
use Rattle.rz_isa.specs.declared.fragment_list.Fragment.{Fragment}
use Rattle.rz_isa.specs.Items.{list_slots, slots_from, item_count}
use Rattle.rz_layout.specs.Layout.{nodes_of}
use Rattle.rz_layout.specs.Order.{starts_from}

-- an item of a list between two numbers
abbrev pub slot_of : ℕ → ℕ → Item → Slot
slot_of first stop i = record { item = i; first = first; stop = stop }

pub length-list_slots : (first : ℕ) (items : List Item) → length (list_slots first items) ≡ length items
length-list_slots first items = length-map _ _

pub length-slots_from : (first : ℕ) (list : List Fragment) → length (slots_from first list) ≡ item_count list
length-slots_from first [] = refl
length-slots_from first (f ∷ rest) =
    rw (length-append, length-list_slots first f.items, length-slots_from (first + length f.items) rest) refl

-- at the end of a walk over the fragments all is there
pub all_slots : (list : List Fragment) (i first : ℕ) (out : List Slot) → length list ≤ i → out ++ slots_from first (drop i list) ≡ slots_from 0 list → out ≡ slots_from 0 list
all_slots list i first out h e = sym (ap (λ l. out ++ slots_from first l) (drop_all i list h) ∙ append-nil out) ∙ e

pub all_nodes : (list : List Fragment) (i : ℕ) (out : List ℕ) → length list ≤ i → out ++ nodes_of (drop i list) ≡ nodes_of list → out ≡ nodes_of list
all_nodes list i out h e = sym (ap (λ l. out ++ nodes_of l) (drop_all i list h) ∙ append-nil out) ∙ e

pub all_starts : (list : List Fragment) (i first : ℕ) (out : List (Option ℕ)) → length list ≤ i → out ++ starts_from first (drop i list) ≡ starts_from 0 list → out ≡ starts_from 0 list
all_starts list i first out h e = sym (ap (λ l. out ++ starts_from first l) (drop_all i list h) ∙ append-nil out) ∙ e
