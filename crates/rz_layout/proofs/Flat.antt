-- Items as pieces: the same lengths and places.
use Rattle.std.proofs.Common.{◌≡◌, ℕ, zero, suc, ◌≤◌, Bool, true, false, List, length, map, get_or, replicate, Option, Some, None, refl, sym, ◌∙◌, ap, arith, inl, inr}
use Rattle.std.specs.Prelude.{slice_get}
use Rattle.std.specs.Option.{option_map, unwrap_or}
use Rattle.std.proofs.lemmas.Bool.{cases_lt}
use Rattle.std.proofs.lemmas.List.{length-map, length-replicate, get_or-replicate, get_or_past}
use Rattle.std.proofs.lemmas.Option.{slice_get-map, unwrap_or-slice_get}
use Rattle.rz_flags.specs.declared.Cond.{Cond}
use Rattle.rz_isa.specs.declared.rows.Row.{Row}
use Rattle.rz_isa.specs.declared.rows.Form.{Form}
use Rattle.rz_isa.specs.declared.rows.Form.TheVariants.{Near, Short}
use Rattle.rz_isa.specs.declared.item_list.Label.{Label}
use Rattle.rz_isa.specs.declared.item_list.Item.{Item}
use Rattle.rz_isa.specs.declared.item_list.Item.TheVariants as item
use Rattle.rz_isa.specs.declared.item_list.Slot.{Slot}
use Rattle.rz_isa.specs.declared.fragment_list.Fragments.{Fragments}
use Rattle.rz_isa.specs.Items.{slots, label_number}
use Rattle.rz_isa.specs.Plan.{is_inner, jump_len, item_len, form_at, len_or_none, offset}
use Rattle.rz_layout.specs.declared.piece.Piece.{Piece}
use Rattle.rz_layout.specs.declared.piece.Piece.TheVariants.{Fixed}
use Rattle.rz_layout.specs.Calls.Pieces.{len_of, piece_at, piece_offset, HasLabelWithin, HaveLabels}
use Rattle.rz_layout.specs.Calls.Ordered.{number_or_first, jump_piece, item_piece, slot_piece, pieces_of}
use Rattle.rz_layout.proofs.Labels.{number_within}

-- ---- lengths

jump_same : (cond : Option Cond) (inner : Bool) (to : ℕ) (form : Form) → len_of (jump_piece cond inner to) form ≡ jump_len cond inner form
jump_same None true to Near = refl
jump_same (Some c) true to Near = refl
jump_same cond true to Short = refl
jump_same cond false to form = refl

pub item_len_same : (rows : List Row) (number : Label → Option ℕ) (i : Item) (form : Form) → len_of (item_piece rows number i) form ≡ item_len rows i form
item_len_same rows number (item.Whole x) form = refl
item_len_same rows number (item.Jump cond to) form = jump_same cond (is_inner to) (number_or_first (number to)) form
item_len_same rows number (item.Jrcxz to) form = refl
item_len_same rows number (item.Store a to) form = refl

-- ---- the piece of a number

piece_or_none : (f : Slot → Piece) (list : List Slot) (k : ℕ) → get_or (map f list) k (Fixed 0) ≡ unwrap_or (option_map f (slice_get list k)) (Fixed 0)
piece_or_none f list k = sym (unwrap_or-slice_get (map f list) k (Fixed 0)) ∙ ap (λ o. unwrap_or o (Fixed 0)) (slice_get-map f list k)

pub piece_of_slot : (rows : List Row) (frags : Fragments) (k : ℕ) (s : Slot) → slice_get (slots frags) k ≡ Some s → piece_at (pieces_of rows frags) k ≡ slot_piece rows frags s
piece_of_slot rows frags k s is =
    piece_or_none (slot_piece rows frags) (slots frags) k ∙ ap (λ o. unwrap_or (option_map (slot_piece rows frags) o) (Fixed 0)) is

pub pieces_count : (rows : List Row) (frags : Fragments) → length (pieces_of rows frags) ≡ length (slots frags)
pieces_count rows frags = length-map _ _

-- ---- places

len_same : (rows : List Row) (frags : Fragments) (o : Option Slot) (form : Form) → len_of (unwrap_or (option_map (slot_piece rows frags) o) (Fixed 0)) form ≡ len_or_none rows o form
len_same rows frags None form = refl
len_same rows frags (Some s) form = item_len_same rows (label_number frags s) s.item form

piece_len_same : (rows : List Row) (frags : Fragments) (form : Form) (k : ℕ) → len_of (piece_at (pieces_of rows frags) k) form ≡ len_or_none rows (slice_get (slots frags) k) form
piece_len_same rows frags form k =
    ap (λ p. len_of p form) (piece_or_none (slot_piece rows frags) (slots frags) k) ∙ len_same rows frags (slice_get (slots frags) k) form

pub offset_same : (rows : List Row) (frags : Fragments) (forms : List Form) (k : ℕ) → piece_offset (pieces_of rows frags) forms k ≡ offset rows (slots frags) forms k
unfolding piece_offset offset
offset_same rows frags forms zero = refl
offset_same rows frags forms (suc k) = rw (offset_same rows frags forms k, piece_len_same rows frags (form_at forms k) k) refl

-- ---- labels

or_first : (n : ℕ) (o : Option ℕ) → ((m : ℕ) → o ≡ Some m → m ≤ n) → number_or_first o ≤ n
or_first n None h = omega arith
or_first n (Some m) h = h m refl

jump_within : (n : ℕ) (cond : Option Cond) (inner : Bool) (m : ℕ) → m ≤ n → HasLabelWithin n (jump_piece cond inner m)
jump_within n cond true m h = h
jump_within n cond false m h = tt

item_within : (rows : List Row) (n : ℕ) (number : Label → Option ℕ) → ((to : Label) (m : ℕ) → number to ≡ Some m → m ≤ n) → (i : Item) → HasLabelWithin n (item_piece rows number i)
item_within rows n number h (item.Whole x) = tt
item_within rows n number h (item.Jump cond to) = jump_within n cond (is_inner to) (number_or_first (number to)) (or_first n (number to) (h to))
item_within rows n number h (item.Jrcxz to) = tt
item_within rows n number h (item.Store a to) = tt

slot_within : (rows : List Row) (frags : Fragments) (k : ℕ) (o : Option Slot) → slice_get (slots frags) k ≡ o → HasLabelWithin (length (slots frags)) (unwrap_or (option_map (slot_piece rows frags) o) (Fixed 0))
slot_within rows frags k None e = tt
slot_within rows frags k (Some s) e = item_within rows (length (slots frags)) (label_number frags s) (number_within frags k s e) s.item

pub have_labels : (rows : List Row) (frags : Fragments) → HaveLabels (pieces_of rows frags)
have_labels rows frags k =
    rw (pieces_count rows frags, piece_or_none (slot_piece rows frags) (slots frags) k) (slot_within rows frags k (slice_get (slots frags) k) refl)

-- ---- each near

pub near_all : (n k : ℕ) → form_at (replicate n Near) k ≡ Near
near_all n k =
    elim (cases_lt k n) [
      | inl h ↦ get_or-replicate n k Near Near h
      | inr h ↦ get_or_past (replicate n Near) k Near (rw length-replicate h)
    ]
