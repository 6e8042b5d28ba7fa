-- The numbers of labels.
use Rattle.std.proofs.Common.{◌≡◌, ℕ, ◌+◌, ◌≤◌, Bool, true, false, if◌then◌else◌, ◌==◌, List, [], ◌∷◌, length, map, get_or, Option, Some, None, refl, sym, ◌∙◌, ap, subst, arith, length-append}
use Rattle.std.specs.Prelude.{nat_le, slice_get, All}
use Rattle.std.proofs.lemmas.Bool.Decides.{nat_tests}
use Rattle.std.proofs.lemmas.List.Elements.{All-nil, All-append, All-map}
use Rattle.std.proofs.lemmas.Option.{slice_get_within, get_or_from_slice_get}
use Rattle.rz_isa.specs.declared.item_list.Label.{Label}
use Rattle.rz_isa.specs.declared.item_list.Label.TheVariants as label
use Rattle.rz_isa.specs.declared.item_list.Item.{Item}
use Rattle.rz_isa.specs.declared.item_list.Item.TheVariants as item
use Rattle.rz_isa.specs.declared.item_list.Slot.{Slot}
use Rattle.rz_isa.specs.declared.rows.Row.{Row}
use Rattle.rz_isa.specs.Plan.{is_inner}
use Rattle.rz_isa.specs.declared.fragment_list.Fragment.{Fragment}
use Rattle.rz_isa.specs.declared.fragment_list.Fragments.{Fragments}
use Rattle.rz_isa.specs.Items.{list_slots, slots_from, slots, item_count, first_number, fragment_number, label_number}
use Rattle.rz_layout.specs.Layout.{nodes_of}
use Rattle.rz_layout.specs.Order.{index_of, starts_from, IsOrderOf, number_in}
use Rattle.rz_layout.specs.Calls.Ordered.{number_or_first, jump_piece, item_piece, slot_piece, ordered_piece, pieces_of}
use Rattle.rz_layout.specs.declared.piece.Piece.{Piece}
use Rattle.rz_layout.specs.declared.order.Order.{Order}
use Rattle.rz_layout.proofs.Ordered.{slot_of, length-list_slots, length-slots_from}

pub none_is_some : {X : Type 0} (a : X) → None ≡ Some a → ⊥
none_is_some a e = cc

pub some_is_some : {X : Type 0} (a b : X) → Some a ≡ Some b → a ≡ b
some_is_some a b e = cc

-- what holds of all holds of the one of a number
pub all_get : {X : Type 0} (P : X → Type 0) (xs : List X) (k : ℕ) (x : X) → All P xs → slice_get xs k ≡ Some x → P x
all_get P xs k x all e = subst P (get_or_from_slice_get xs k x x e) (all k x (slice_get_within xs k x e))

-- ---- the number that an order gives is that of the definition

start_beside : (first : ℕ) (list : List Fragment) (a : ℕ) → get_or (starts_from first list) (index_of (nodes_of list) a) None ≡ fragment_number first list a
start_beside first [] a = refl
start_beside first (f ∷ rest) a = choose (f.at == a) (start_beside (first + length f.items) rest a)
  where
    at_rank : (b : Bool) (o : Option ℕ) (os : List (Option ℕ)) (k : ℕ) → get_or (o ∷ os) (if b then 0 else 1 + k) None ≡ (if b then o else get_or os k None)
    at_rank true o os k = refl
    at_rank false o os k = grind arith

    choose : (b : Bool) → get_or (starts_from (first + length f.items) rest) (index_of (nodes_of rest) a) None ≡ fragment_number (first + length f.items) rest a
        → get_or (first_number first f.items ∷ starts_from (first + length f.items) rest) (if b then 0 else 1 + index_of (nodes_of rest) a) None ≡ (if b then first_number first f.items else fragment_number (first + length f.items) rest a)
    choose b later =
        at_rank b (first_number first f.items) (starts_from (first + length f.items) rest) (index_of (nodes_of rest) a)
        ∙ ap (λ o. if b then first_number first f.items else o) later

pub number_same : (frags : Fragments) (order : Order) → IsOrderOf frags order → (s : Slot) (to : Label) → number_in order s to ≡ label_number frags s to
number_same frags order is s (label.Place a) = rw (is.nodes, is.starts) (start_beside 0 frags.list a)
number_same frags order is s (label.Stub a) = refl
number_same frags order is s (label.Item k) = refl
number_same frags order is s (label.Table a) = refl
number_same frags order is s label.Routine = is.routine

-- items have the same pieces where their labels have the same numbers
item_same : (rows : List Row) (f g : Label → Option ℕ) → ((to : Label) → f to ≡ g to) → (i : Item) → item_piece rows f i ≡ item_piece rows g i
item_same rows f g same (item.Whole x) = refl
item_same rows f g same (item.Jump cond to) = ap (λ o. jump_piece cond (is_inner to) (number_or_first o)) (same to)
item_same rows f g same (item.Jrcxz to) = refl
item_same rows f g same (item.Store a to) = refl

map_same : (f g : Slot → Piece) → ((s : Slot) → f s ≡ g s) → (list : List Slot) → map f list ≡ map g list
map_same f g same [] = refl
map_same f g same (s ∷ list) = rw (same s) (ap (λ rest. g s ∷ rest) (map_same f g same list))

pub pieces_same : (rows : List Row) (frags : Fragments) (order : Order) → IsOrderOf frags order → map (ordered_piece rows order) order.slots.items ≡ pieces_of rows frags
pieces_same rows frags order is =
    map_same (ordered_piece rows order) (slot_piece rows frags) (λ s. item_same rows (number_in order s) (label_number frags s) (number_same frags order is s) s.item) order.slots.items
    ∙ ap (map (slot_piece rows frags)) is.slots

-- ---- a number is within the items

stop_within : (first : ℕ) (list : List Fragment) → All (λ s. s.stop ≤ first + item_count list) (slots_from first list)
stop_within first [] = All-nil (λ s. s.stop ≤ first + 0)
stop_within first (f ∷ rest) =
    All-append (λ s. s.stop ≤ first + (length f.items + item_count rest)) (list_slots first f.items) (slots_from (first + length f.items) rest)
    (All-map (λ s. s.stop ≤ first + (length f.items + item_count rest)) (slot_of first (first + length f.items)) f.items (λ k d h. omega arith))
    (λ k d h. omega (arith, stop_within (first + length f.items) rest k d h))

length-slots : (frags : Fragments) → length (slots frags) ≡ item_count frags.list + length frags.routine
length-slots frags = rw (length-append, length-slots_from 0 frags.list, length-list_slots (item_count frags.list) frags.routine) refl

all_stop_within : (frags : Fragments) → All (λ s. s.stop ≤ item_count frags.list + length frags.routine) (slots frags)
all_stop_within frags =
    All-append (λ s. s.stop ≤ item_count frags.list + length frags.routine) (slots_from 0 frags.list) (list_slots (item_count frags.list) frags.routine)
    (λ k d h. omega (arith, stop_within 0 frags.list k d h))
    (All-map (λ s. s.stop ≤ item_count frags.list + length frags.routine) (slot_of (item_count frags.list) (item_count frags.list + length frags.routine)) frags.routine (λ k d h. omega arith))

first_within : (first : ℕ) (items : List Item) (n : ℕ) → first_number first items ≡ Some n → n ≡ first
first_within first [] n e = absurd (none_is_some n e)
first_within first (i ∷ rest) n e = sym (some_is_some first n e)

fragment_within : (first : ℕ) (list : List Fragment) (a n : ℕ) → fragment_number first list a ≡ Some n → n ≤ first + item_count list
fragment_within first [] a n e = absurd (none_is_some n e)
fragment_within first (f ∷ rest) a n e = choose (f.at == a) (fragment_within (first + length f.items) rest a n) e
  where
    choose : (b : Bool) → (fragment_number (first + length f.items) rest a ≡ Some n → n ≤ first + length f.items + item_count rest)
        → (if b then first_number first f.items else fragment_number (first + length f.items) rest a) ≡ Some n → n ≤ first + (length f.items + item_count rest)
    choose true later e = omega (arith, first_within first f.items n e)
    choose false later e = omega (arith, later e)

inside : (b : Bool) (m n : ℕ) → (if b then Some m else None) ≡ Some n → (b ≡ true) × (m ≡ n)
inside true m n e = (refl, some_is_some m n e)
inside false m n e = absurd (none_is_some n e)

pub number_within : (frags : Fragments) (k : ℕ) (s : Slot) → slice_get (slots frags) k ≡ Some s → (to : Label) (n : ℕ) → label_number frags s to ≡ Some n → n ≤ length (slots frags)
number_within frags k s is (label.Place a) n e = omega (arith, length-slots frags, fragment_within 0 frags.list a n e)
number_within frags k s is (label.Stub a) n e = absurd (none_is_some n e)
number_within frags k s is (label.Item j) n e =
    let t = inside (nat_le (s.first + j) s.stop) (s.first + j) n e in
    let stop = all_get (λ s. s.stop ≤ item_count frags.list + length frags.routine) (slots frags) k s (all_stop_within frags) is in
    let length_is = length-slots frags in
    let within = t.0 in
    let same = t.1 in
    grind (arith, nat_tests)
number_within frags k s is (label.Table a) n e = absurd (none_is_some n e)
number_within frags k s is label.Routine n e = omega (arith, length-slots frags, first_within (item_count frags.list) frags.routine n e)
