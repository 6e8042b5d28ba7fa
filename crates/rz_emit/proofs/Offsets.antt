-- How many bytes the first items take.
use Rattle.std.proofs.Common.{◌≡◌, ℕ, zero, suc, ◌+◌, ◌<◌, ◌≤◌, List, length, get_or, Some, refl, sym, ◌∙◌, ap, arith, inl, inr}
use Rattle.std.specs.Prelude.{slice_get}
use Rattle.std.proofs.lemmas.Bool.{cases_lt}
use Rattle.std.proofs.lemmas.List.{get_or_past}
use Rattle.std.proofs.lemmas.Option.{slice_get_past, slice_get-get_or}
use Rattle.std.proofs.lemmas.List.{get_or_default}
use Rattle.rz_isa.specs.declared.rows.Row.{Row}
use Rattle.rz_isa.specs.declared.rows.Form.{Form}
use Rattle.rz_isa.specs.declared.item_list.Slot.{Slot}
use Rattle.rz_isa.specs.Plan.{form_at, item_len, len_or_none, offset}
use Rattle.rz_layout.specs.Layout.{AreFirst}
use Rattle.rz_emit.specs.Calls.Lookup.{place_in}
use Rattle.rz_emit.specs.Calls.Lengths.{slot_place}

-- none takes nothing
pub offset_zero : (rows : List Row) (list : List Slot) (forms : List Form) → offset rows list forms 0 ≡ 0
unfolding offset
offset_zero rows list forms = refl

-- without items nothing is taken
pub offset_none : (rows : List Row) (list : List Slot) (base : ℕ) (forms : List Form) → (1 ≤ length list → ⊥) → base ≡ slot_place rows list base forms (length list)
offset_none rows list base forms none =
    elim (cases_lt 0 (length list)) [
      | inl h ↦ absurd (none (omega arith))
      | inr h ↦
          let e : length list ≡ 0 = omega arith in
          omega (arith, ap (offset rows list forms) e, offset_zero rows list forms)
    ]

-- one item more
pub offset_suc : (rows : List Row) (list : List Slot) (forms : List Form) (k : ℕ) (s : Slot) → slice_get list k ≡ Some s → offset rows list forms (suc k) ≡ offset rows list forms k + item_len rows s.item (form_at forms k)
unfolding offset
offset_suc rows list forms k s is = ap (λ o. offset rows list forms k + len_or_none rows o (form_at forms k)) is

-- behind the last there are none
pub offset_past : (rows : List Row) (list : List Slot) (forms : List Form) (k : ℕ) → length list ≤ k → offset rows list forms k ≡ offset rows list forms (length list)
unfolding offset
offset_past rows list forms zero h = let e : zero ≡ length list = omega arith in ap (offset rows list forms) e
offset_past rows list forms (suc k) h =
    elim (cases_lt k (length list)) [
      | inl last ↦ let e : suc k ≡ length list = omega arith in ap (offset rows list forms) e
      | inr past ↦
          let none = ap (λ o. len_or_none rows o (form_at forms k)) (slice_get_past list k past) in
          omega (arith, none, offset_past rows list forms k past)
    ]

-- a place is read in a list of the places, and that behind the last is known
pub place_read : (rows : List Row) (list : List Slot) (base : ℕ) (forms : List Form) (places : List ℕ) → AreFirst (length list) (slot_place rows list base forms) places
    → (k : ℕ) → place_in places (slot_place rows list base forms (length list)) k ≡ slot_place rows list base forms k
place_read rows list base forms places are k =
    elim (cases_lt k (length list)) [
      | inl h ↦ get_or_default places k _ 0 (omega (arith, are.each, h)) ∙ are.at k h
      | inr h ↦ get_or_past places k _ (omega (arith, are.each, h)) ∙ ap (λ n. base + n) (sym (offset_past rows list forms k h))
    ]

-- the last item ends where all end
pub place_last : (rows : List Row) (list : List Slot) (base : ℕ) (forms : List Form) (places : List ℕ) → AreFirst (length list) (slot_place rows list base forms) places
    → (k n : ℕ) (d : Slot) (form : Form) → suc k ≡ length list → n ≡ item_len rows (get_or list k d).item form → form ≡ form_at forms k → get_or places k 0 + n ≡ slot_place rows list base forms (length list)
place_last rows list base forms places are k n d form last long is =
    let within : k < length list = omega arith in
    let step = offset_suc rows list forms k (get_or list k d) (slice_get-get_or list k d within) in
    omega (arith, step, are.at k within, ap (offset rows list forms) last, long, ap (item_len rows (get_or list k d).item) is)
