-- Forms of pieces are forms of items: what is a plan of the one is a plan of the other.
use Rattle.std.proofs.Common.{◌≡◌, ℕ, suc, ◌+◌, ◌^◌, ◌<◌, ◌≤◌, Bool, true, false, ◌==◌, if◌then◌else◌, List, [], ◌∷◌, length, get_or, Option, Some, None, refl, sym, ◌∙◌, ap, subst, arith, ◌⊎◌, inl, inr}
use Rattle.std.specs.Prelude.{nat_lt, slice_get, All, IsSome, IsSomeAnd, is_some}
use Rattle.std.specs.Option.{option_map}
use Rattle.std.proofs.lemmas.List.{get_or_past}
use Rattle.std.proofs.lemmas.Option.{slice_get_within, slice_get-get_or}
use Rattle.std.proofs.lemmas.Bool.{cases_lt}
use Rattle.rz_flags.specs.declared.Cond.{Cond}
use Rattle.rz_isa.specs.declared.rows.Row.{Row}
use Rattle.rz_isa.specs.declared.rows.Form.{Form}
use Rattle.rz_isa.specs.declared.rows.Form.TheVariants.{Near, Short}
use Rattle.rz_isa.specs.declared.instruction.Insn.{Insn}
use Rattle.rz_isa.specs.declared.instruction.Insn.TheVariants as insn
use Rattle.rz_isa.specs.declared.item_list.Label.{Label}
use Rattle.rz_isa.specs.declared.item_list.Label.TheVariants as label
use Rattle.rz_isa.specs.declared.item_list.Item.{Item}
use Rattle.rz_isa.specs.declared.item_list.Item.TheVariants as item
use Rattle.rz_isa.specs.declared.item_list.Slot.{Slot}
use Rattle.rz_isa.specs.declared.fragment_list.Fragments.{Fragments}
use Rattle.rz_isa.specs.Canonical.{chosen}
use Rattle.rz_isa.specs.Within.{SpelledWithin}
use Rattle.rz_isa.specs.Emitted.{Emits, HasSpelling}
use Rattle.rz_isa.specs.Items.{Places, Addresses, slots, label_number, label_address, beside, resolved, store}
use Rattle.rz_isa.specs.Plan.{is_inner, near_len, jump_len, item_len, spelled_len, form_at, place, code_end, Reaches, InReach, IsPlaced, IsPlan, IsLeastPlan}
use Rattle.rz_encode.specs.Length.{SameLengths}
use Rattle.rz_layout.specs.declared.piece.Piece.{Piece}
use Rattle.rz_layout.specs.declared.piece.Piece.TheVariants.{Fixed, Jump}
use Rattle.rz_isa.specs.Sizes.{is_code, CanMove}
use Rattle.rz_layout.specs.Layout.{all_near, AreLow, ArePlaces}
use Rattle.rz_layout.specs.Calls.Pieces.{piece_at, piece_offset, len_of, MayBeShortAt, IsPiecePlan, IsLeastForms, ArePlaces as ArePiecePlaces}
use Rattle.rz_layout.specs.Calls.Ordered.{number_or_first, jump_piece, item_piece, pieces_of, IsChosen, IsChosenItem}
use Rattle.rz_layout.proofs.Offsets.{offset_more, offset_up, offset_down, reaches_two, may_be_short, short_reaches, fixed_not_short}
use Rattle.rz_layout.proofs.Labels.{all_get, number_within, some_is_some}
use Rattle.rz_layout.proofs.Flat.{item_len_same, piece_of_slot, pieces_count, offset_same, near_all}
use Rattle.rz_layout.proofs.Spelled.{moved, has_chosen, jump, jump_near, jump_short, jrcxz_spelled, store_spelled, store_names_low}

-- ---- values that are there

and_some : {X : Type 0} (o : Option X) (x : X) (Q : X → Type 0) → o ≡ Some x → Q x → IsSomeAnd o Q
and_some o x Q e h = subst (λ p. IsSomeAnd p Q) (sym e) h

some_and : {X : Type 0} (o : Option X) (x : X) (Q : X → Type 0) → o ≡ Some x → IsSomeAnd o Q → Q x
some_and o x Q e h = subst (λ p. IsSomeAnd p Q) e h

some_under : {X : Type 0} (f : ℕ → X) (o : Option ℕ) (Q : X → Type 0) → IsSomeAnd (option_map f o) Q → IsSome o
some_under f None Q h = absurd h
some_under f (Some n) Q h = refl

value_of : (o : Option ℕ) → IsSome o → (n : ℕ) × (o ≡ Some n)
value_of None h = absurd (cc)
value_of (Some n) h = (n, refl)

beside_low : (pairs : List (ℕ × ℕ)) → AreLow pairs → (a t : ℕ) → beside pairs a ≡ Some t → t < 2 ^ 31
beside_low [] low a t e = absurd (cc)
beside_low (p ∷ rest) low a t e = choose (p.0 == a) (beside_low rest (λ k d h. low (suc k) d (omega arith)) a t) e
  where
    choose : (b : Bool) → (beside rest a ≡ Some t → t < 2 ^ 31) → (if b then Some p.1 else beside rest a) ≡ Some t → t < 2 ^ 31
    choose true later e = omega (arith, some_is_some p.1 t e, low 0 p (omega arith))
    choose false later e = later e

jump_resolved : (at : Addresses) (cond : Option Cond) (to : Label) → resolved at (item.Jump cond to) ≡ option_map (jump cond) (at to)
jump_resolved at None to = refl
jump_resolved at (Some c) to = refl

near_jump : (cond : Option Cond) (inner : Bool) → jump_len cond inner Near ≡ near_len cond
near_jump cond true = refl
near_jump cond false = refl

-- a label in the code has the place of its number
in_code : (frags : Fragments) (places : Places) (s : Slot) (to : Label) → is_code to ≡ true → is_inner to ≡ true → label_address frags places s to ≡ option_map places (label_number frags s to)
in_code frags places s (label.Place a) code inner = refl
in_code frags places s (label.Stub a) code inner = absurd (cc)
in_code frags places s (label.Item k) code inner = refl
in_code frags places s (label.Table a) code inner = absurd (cc)
in_code frags places s label.Routine code inner = refl

inner_or_stub : (to : Label) (b : Bool) → is_inner to ≡ b → (is_inner to ≡ true) ⊎ (is_inner to ≡ false)
inner_or_stub to true e = inl e
inner_or_stub to false e = inr e

module _ (rows : List Row) (frags : Fragments) (base : ℕ) where
  pieces : List Piece
  pieces = pieces_of rows frags

  count : ℕ
  count = length (slots frags)

  -- distances between places are those between pieces
  reaches_place : (forms : List Form) (k n : ℕ) → Reaches (piece_offset (pieces_of rows frags) forms k + 2) (piece_offset (pieces_of rows frags) forms n) → Reaches (place rows frags base forms k + 2) (place rows frags base forms n)
  reaches_place forms k n r =
      let e = offset_same rows frags forms k in
      let f = offset_same rows frags forms n in
      record { forward = omega (arith, e, f, r.forward); backward = omega (arith, e, f, r.backward) }

  reaches_piece : (forms : List Form) (k n : ℕ) → Reaches (place rows frags base forms k + 2) (place rows frags base forms n) → Reaches (piece_offset (pieces_of rows frags) forms k + 2) (piece_offset (pieces_of rows frags) forms n)
  reaches_piece forms k n r =
      let e = offset_same rows frags forms k in
      let f = offset_same rows frags forms n in
      record { forward = omega (arith, e, f, r.forward); backward = omega (arith, e, f, r.backward) }

  piece_is : (k : ℕ) (s : Slot) → slice_get (slots frags) k ≡ Some s → (i : Item) → s.item ≡ i → piece_at (pieces_of rows frags) k ≡ item_piece rows (label_number frags s) i
  piece_is k s is i e = piece_of_slot rows frags k s is ∙ ap (item_piece rows (label_number frags s)) e

  jump_is : (k : ℕ) (s : Slot) → slice_get (slots frags) k ≡ Some s → (cond : Option Cond) (to : Label) → s.item ≡ item.Jump cond to → (n : ℕ) → is_inner to ≡ true → label_number frags s to ≡ Some n → piece_at (pieces_of rows frags) k ≡ Jump (is_some cond) n
  jump_is k s is cond to e n inner numbered = piece_is k s is (item.Jump cond to) e ∙ (ap (λ b. jump_piece cond b (number_or_first (label_number frags s to))) inner ∙ ap (λ o. Jump (is_some cond) (number_or_first o)) numbered)

  -- the number of a label in the code that has an address
  inner_number : (places : Places) (k : ℕ) (s : Slot) → slice_get (slots frags) k ≡ Some s → (to : Label) → is_code to ≡ true → is_inner to ≡ true → IsSome (label_address frags places s to) → (n : ℕ) × (label_number frags s to ≡ Some n) × (n ≤ length (slots frags))
  inner_number places k s is to code inner some = by (label_number frags s to) refl (subst (λ o. IsSome o) (in_code frags places s to code inner) some)
    where
      by : (o : Option ℕ) → label_number frags s to ≡ o → IsSome (option_map places o) → (n : ℕ) × (label_number frags s to ≡ Some n) × (n ≤ length (slots frags))
      by None e h = absurd (cc)
      by (Some n) e h = (n, e, number_within frags k s is to n e)

  inner_address : (places : Places) (s : Slot) (to : Label) → is_code to ≡ true → is_inner to ≡ true → (n : ℕ) → label_number frags s to ≡ Some n → label_address frags places s to ≡ Some (places n)
  inner_address places s to code inner n e = in_code frags places s to code inner ∙ ap (option_map places) e

  -- ---- a plan of the items is one of the pieces
  module _ (can : All (λ s. CanMove s.item) (slots frags)) where
    can_move : (k : ℕ) (s : Slot) → slice_get (slots frags) k ≡ Some s → (i : Item) → s.item ≡ i → CanMove i
    can_move k s is i e = subst (λ i. CanMove i) e (all_get (λ s. CanMove s.item) (slots frags) k s can is)

    some_from : (o : Option ℕ) (Q : ℕ → Type 0) → IsSomeAnd o Q → IsSome o
    some_from None Q h = absurd h
    some_from (Some n) Q h = refl

    short_item : (forms : List Form) (k : ℕ) (s : Slot) → slice_get (slots frags) k ≡ Some s → (i : Item) → s.item ≡ i → InReach (label_address frags (place rows frags base forms) s) (place rows frags base forms k) i Short → MayBeShortAt (pieces_of rows frags) forms k
    short_item forms k s is (item.Whole x) e h = absurd h
    short_item forms k s is (item.Jump cond to) e h =
        let places = place rows frags base forms in
        let at = label_address frags places s in
        let code = can_move k s is (item.Jump cond to) e in
        let named = inner_number places k s is to code h.0 (some_from (at to) (Reaches (places k + 2)) h.1) in
        let r = some_and (at to) (places named.0) (Reaches (places k + 2)) (inner_address places s to code h.0 named.0 named.1) h.1 in
        may_be_short (pieces_of rows frags) forms k (is_some cond) named.0 (jump_is k s is cond to e named.0 h.0 named.1) (reaches_piece forms k named.0 r)
    short_item forms k s is (item.Jrcxz to) e h = absurd h
    short_item forms k s is (item.Store a to) e h = absurd h

    short_at : (forms : List Form) → IsPlan rows frags base forms → (k : ℕ) → form_at forms k ≡ Short → (o : Option Slot) → slice_get (slots frags) k ≡ o → MayBeShortAt (pieces_of rows frags) forms k
    short_at forms plan k short None e =
        elim (cases_lt k (length (slots frags))) [
          | inl h ↦ absurd (let some = slice_get-get_or (slots frags) k nowhere h in cc)
          | inr h ↦ let each = plan.each in let past = get_or_past forms k Near (omega arith) in absurd (cc)
        ]
      where
        nowhere : Slot
        nowhere = record { item = item.Whole insn.Nop; first = 0; stop = 0 }
    short_at forms plan k short (Some s) e =
        short_item forms k s e s.item refl (subst (λ f. InReach (label_address frags (place rows frags base forms) s) (place rows frags base forms k) s.item f) short (plan.placed k s e).reach)

    pub piece_plan : (forms : List Form) → IsPlan rows frags base forms → IsPiecePlan (pieces_of rows frags) forms
    piece_plan forms plan =
        record {
          each = plan.each ∙ sym (pieces_count rows frags);
          reached = λ k short. short_at forms plan k short (slice_get (slots frags) k) refl;
        }

    pub least_plan : (forms : List Form) → IsLeastForms (pieces_of rows frags) forms → IsLeastPlan rows frags base forms
    least_plan forms least other plan k near = least other (piece_plan other plan) k near

    -- ---- forms of the pieces are a plan of the items, where the choice of Near for each is one
    module _ (stubs : ℕ) (emits : Emits rows) (within : SpelledWithin rows) (same : SameLengths rows) (near : IsPlan rows frags base (all_near frags)) (ends : code_end rows frags base (all_near frags) ≤ stubs) (low : stubs < 2 ^ 31) (low_stubs : AreLow frags.stubs) where
      -- no item stands at or ends behind a higher place than where each is near
      pub below : (forms : List Form) (k : ℕ) → k ≤ length (slots frags) → place rows frags base forms k ≤ stubs
      below forms k h =
          let down = offset_down (pieces_of rows frags) forms (all_near frags) (λ k _. near_all (length (slots frags)) k) k in
          let up = offset_up (pieces_of rows frags) (all_near frags) k (length (slots frags)) h in
          let e = offset_same rows frags forms k in
          let f = offset_same rows frags (all_near frags) (length (slots frags)) in
          omega (arith, down, up, e, f, ends)

      item_end : (forms : List Form) (k : ℕ) (s : Slot) → slice_get (slots frags) k ≡ Some s → (i : Item) → s.item ≡ i → place rows frags base forms k + item_len rows i (form_at forms k) ≤ stubs
      item_end forms k s is i same_item =
          let more = offset_more (pieces_of rows frags) forms k in
          let len = ap (λ p. len_of p (form_at forms k)) (piece_is k s is i same_item) ∙ item_len_same rows (label_number frags s) i (form_at forms k) in
          let e = offset_same rows frags forms k in
          let f = offset_same rows frags forms (k + 1) in
          let inside = slice_get_within (slots frags) k s is in
          let next = below forms (k + 1) (omega arith) in
          omega (arith, more, len, e, f, next)

      near_item : (k : ℕ) (s : Slot) → slice_get (slots frags) k ≡ Some s → (i : Item) → s.item ≡ i → IsPlaced rows (label_address frags (place rows frags base (all_near frags)) s) (place rows frags base (all_near frags) k) i Near
      near_item k s is i e =
          subst (λ i. IsPlaced rows (label_address frags (place rows frags base (all_near frags)) s) (place rows frags base (all_near frags) k) i Near) e
          (subst (λ f. IsPlaced rows (label_address frags (place rows frags base (all_near frags)) s) (place rows frags base (all_near frags) k) s.item f) (near_all (length (slots frags)) k) (near.placed k s is))

      -- where a label in the code or of a stub leads
      target : (forms : List Form) (k : ℕ) (s : Slot) → slice_get (slots frags) k ≡ Some s → (to : Label) → is_code to ≡ true → (b : Bool) → is_inner to ≡ b → IsSome (label_address frags (place rows frags base (all_near frags)) s to) → (t : ℕ) × (label_address frags (place rows frags base forms) s to ≡ Some t) × (t < 2 ^ 31)
      target forms k s is to code true inner some =
          let named = inner_number (place rows frags base (all_near frags)) k s is to code inner some in
          (place rows frags base forms named.0, inner_address (place rows frags base forms) s to code inner named.0 named.1, omega (arith, below forms named.0 named.2, low))
      target forms k s is (label.Stub a) code false inner some =
          let t = value_of (beside frags.stubs a) some in
          (t.0, t.1, beside_low frags.stubs low_stubs a t.0 t.1)
      target forms k s is (label.Place a) code false inner some = absurd (cc)
      target forms k s is (label.Item j) code false inner some = absurd (cc)
      target forms k s is (label.Table a) code false inner some = absurd (cc)
      target forms k s is label.Routine code false inner some = absurd (cc)

      chosen_item : (k : ℕ) (s : Slot) → slice_get (slots frags) k ≡ Some s → (i : Item) → s.item ≡ i → IsChosenItem rows i
      chosen_item k s is (item.Whole x) e = has_chosen rows x (place rows frags base (all_near frags) k) (spelled_len (chosen rows Near x)) (near_item k s is (item.Whole x) e).spelled
      chosen_item k s is (item.Jump cond to) e = tt
      chosen_item k s is (item.Jrcxz to) e = tt
      chosen_item k s is (item.Store a to) e = tt

      pub all_chosen : All (IsChosen rows) (slots frags)
      all_chosen k d h = let s = get_or (slots frags) k d in chosen_item k s (slice_get-get_or (slots frags) k d h) s.item refl

      -- the end of the pieces, each near, is low
      pub low_end : base + piece_offset (pieces_of rows frags) [] (length (pieces_of rows frags)) < 2 ^ 31
      low_end =
          let down = offset_down (pieces_of rows frags) [] (all_near frags) (λ k _. near_all (length (slots frags)) k) (length (slots frags)) in
          let f = offset_same rows frags (all_near frags) (length (slots frags)) in
          rw (pieces_count rows frags) (omega (arith, down, f, ends, low))

      module _ (forms : List Form) (plan : IsPiecePlan (pieces_of rows frags) forms) where
        not_short : (k len : ℕ) → piece_at (pieces_of rows frags) k ≡ Fixed len → form_at forms k ≡ Short → ⊥
        not_short k len e short = fixed_not_short (pieces_of rows frags) forms k len e (plan.reached k short)

        whole : (k : ℕ) (s : Slot) → slice_get (slots frags) k ≡ Some s → (x : Insn) → s.item ≡ item.Whole x → HasSpelling rows x (place rows frags base forms k) Near (spelled_len (chosen rows Near x))
        whole k s is x e =
            let can = can_move k s is (item.Whole x) e in
            let end = item_end forms k s is (item.Whole x) e in
            let some = has_chosen rows x (place rows frags base (all_near frags) k) (spelled_len (chosen rows Near x)) (near_item k s is (item.Whole x) e).spelled in
            within x (place rows frags base forms k) some can.0 can.1 (omega (arith, end, low))

        jump_target : (k : ℕ) (s : Slot) → slice_get (slots frags) k ≡ Some s → (cond : Option Cond) (to : Label) → s.item ≡ item.Jump cond to → (t : ℕ) × (label_address frags (place rows frags base forms) s to ≡ Some t) × (t < 2 ^ 31)
        jump_target k s is cond to e =
            let at = label_address frags (place rows frags base (all_near frags)) s in
            let from = place rows frags base (all_near frags) k in
            let Q : Insn → Type 0 = λ x. HasSpelling rows x from Near (item_len rows (item.Jump cond to) Near) in
            let some = some_under (jump cond) (at to) Q (subst (λ o. IsSomeAnd o Q) (jump_resolved at cond to) (near_item k s is (item.Jump cond to) e).spelled) in
            target forms k s is to (can_move k s is (item.Jump cond to) e) (is_inner to) refl some

        jump_resolves : (k : ℕ) (s : Slot) (cond : Option Cond) (to : Label) (t : ℕ) → label_address frags (place rows frags base forms) s to ≡ Some t → resolved (label_address frags (place rows frags base forms) s) (item.Jump cond to) ≡ Some (jump cond t)
        jump_resolves k s cond to t e = jump_resolved (label_address frags (place rows frags base forms) s) cond to ∙ ap (option_map (jump cond)) e

        near_jump_placed : (k : ℕ) (s : Slot) → slice_get (slots frags) k ≡ Some s → (cond : Option Cond) (to : Label) → s.item ≡ item.Jump cond to → form_at forms k ≡ Near → IsPlaced rows (label_address frags (place rows frags base forms) s) (place rows frags base forms k) (item.Jump cond to) Near
        near_jump_placed k s is cond to e f =
            let from = place rows frags base forms k in
            let t = jump_target k s is cond to e in
            let long : jump_len cond (is_inner to) Near ≡ near_len cond = near_jump cond (is_inner to) in
            let end : from + item_len rows (item.Jump cond to) Near ≤ stubs = subst (λ f. from + item_len rows (item.Jump cond to) f ≤ stubs) f (item_end forms k s is (item.Jump cond to) e) in
            record {
              reach = tt;
              spelled =
                  and_some _ (jump cond t.0) (λ x. HasSpelling rows x from Near (item_len rows (item.Jump cond to) Near)) (jump_resolves k s cond to t.0 t.1)
                  (subst (λ n. HasSpelling rows (jump cond t.0) from Near n) (sym long) (jump_near rows emits cond t.0 from t.2 (omega (arith, end, long, low))));
            }

        short_jump_placed : (k : ℕ) (s : Slot) → slice_get (slots frags) k ≡ Some s → (cond : Option Cond) (to : Label) → s.item ≡ item.Jump cond to → form_at forms k ≡ Short → (b : Bool) → is_inner to ≡ b → IsPlaced rows (label_address frags (place rows frags base forms) s) (place rows frags base forms k) (item.Jump cond to) Short
        short_jump_placed k s is cond to e f false inner =
            absurd (not_short k (near_len cond) (piece_is k s is (item.Jump cond to) e ∙ ap (λ b. jump_piece cond b (number_or_first (label_number frags s to))) inner) f)
        short_jump_placed k s is cond to e f true inner =
            let places = place rows frags base forms in
            let at = label_address frags places s in
            let from = places k in
            let code = can_move k s is (item.Jump cond to) e in
            let found = jump_target k s is cond to e in
            let named = inner_number places k s is to code inner (subst (λ o. IsSome o) (sym found.1) refl) in
            let addressed = inner_address places s to code inner named.0 named.1 in
            let r = reaches_place forms k named.0 (short_reaches (pieces_of rows frags) forms k (is_some cond) named.0 (jump_is k s is cond to e named.0 inner named.1) (plan.reached k f)) in
            let long : jump_len cond (is_inner to) Short ≡ 2 = ap (λ b. jump_len cond b Short) inner in
            let end : from + item_len rows (item.Jump cond to) Short ≤ stubs = subst (λ f. from + item_len rows (item.Jump cond to) f ≤ stubs) f (item_end forms k s is (item.Jump cond to) e) in
            record {
              reach = (inner, and_some (at to) (places named.0) (Reaches (from + 2)) addressed r);
              spelled =
                  and_some _ (jump cond (places named.0)) (λ x. HasSpelling rows x from Short (item_len rows (item.Jump cond to) Short)) (jump_resolves k s cond to (places named.0) addressed)
                  (subst (λ n. HasSpelling rows (jump cond (places named.0)) from Short n) (sym long) (jump_short rows emits cond (places named.0) from (omega (arith, below forms named.0 named.2, low)) (omega (arith, end, long, low)) r));
            }

        jrcxz_placed : (k : ℕ) (s : Slot) → slice_get (slots frags) k ≡ Some s → (to : Label) → s.item ≡ item.Jrcxz to → IsPlaced rows (label_address frags (place rows frags base forms) s) (place rows frags base forms k) (item.Jrcxz to) Near
        jrcxz_placed k s is to e =
            let places = place rows frags base forms in
            let far = place rows frags base (all_near frags) in
            let at = label_address frags places s in
            let far_at = label_address frags far s in
            let from = places k in
            let can = can_move k s is (item.Jrcxz to) e in
            let was = near_item k s is (item.Jrcxz to) e in
            let named = inner_number far k s is to can.0 can.1 (some_from (far_at to) (Reaches (far k + 2)) was.reach) in
            let addressed = inner_address places s to can.0 can.1 named.0 named.1 in
            let far_reach = some_and (far_at to) (far named.0) (Reaches (far k + 2)) (inner_address far s to can.0 can.1 named.0 named.1) was.reach in
            let two : (f : List Form) → piece_offset (pieces_of rows frags) f (k + 1) ≡ piece_offset (pieces_of rows frags) f k + 2 = λ f. offset_more (pieces_of rows frags) f k ∙ ap (λ p. piece_offset (pieces_of rows frags) f k + len_of p (form_at f k)) (piece_is k s is (item.Jrcxz to) e) in
            let r = reaches_place forms k named.0 (reaches_two (pieces_of rows frags) forms (all_near frags) (λ k _. near_all (length (slots frags)) k) k named.0 (two forms) (two (all_near frags)) (reaches_piece (all_near frags) k named.0 far_reach)) in
            let end = item_end forms k s is (item.Jrcxz to) e in
            record {
              reach = and_some (at to) (places named.0) (Reaches (from + 2)) addressed r;
              spelled =
                  and_some _ (insn.Jrcxz (places named.0)) (λ x. HasSpelling rows x from Near 2) (ap (option_map (λ t. insn.Jrcxz t)) addressed)
                  (jrcxz_spelled rows emits (places named.0) from (omega (arith, below forms named.0 named.2, low)) (omega (arith, end, low)) r);
            }

        abbrev store_at : ℕ → Option ℕ → Option Insn
        store_at a o = option_map (store a) o

        store_placed : (k : ℕ) (s : Slot) → slice_get (slots frags) k ≡ Some s → (a : ℕ) (to : Label) → s.item ≡ item.Store a to → IsSomeAnd (resolved (label_address frags (place rows frags base forms) s) (item.Store a to)) (λ x. HasSpelling rows x (place rows frags base forms k) Near 12)
        store_placed k s is a to e = by (nat_lt a (2 ^ 31)) refl (near_item k s is (item.Store a to) e).spelled
          where
            at : Addresses
            at = label_address frags (place rows frags base forms) s

            far_at : Addresses
            far_at = label_address frags (place rows frags base (all_near frags)) s

            from : ℕ
            from = place rows frags base forms k

            far : ℕ
            far = place rows frags base (all_near frags) k

            in_or_out : (to : Label) (b : Bool) → is_code to ≡ b → nat_lt a (2 ^ 31) ≡ true → at to ≡ far_at to ⊎ (is_code to ≡ true)
            in_or_out to true c h = inr c
            in_or_out (label.Table b) false c h = inl refl
            in_or_out (label.Place b) false c h = absurd (cc)
            in_or_out (label.Stub b) false c h = absurd (cc)
            in_or_out (label.Item j) false c h = absurd (cc)
            in_or_out label.Routine false c h = absurd (cc)

            end : from + 12 ≤ stubs
            end = item_end forms k s is (item.Store a to) e

            by : (b : Bool) → nat_lt a (2 ^ 31) ≡ b → IsSomeAnd (if b then store_at a (far_at to) else None) (λ x. HasSpelling rows x far Near 12) → IsSomeAnd (if b then store_at a (at to) else None) (λ x. HasSpelling rows x from Near 12)
            by false h was = absurd was
            by true h was =
                let some = some_under (store a) (far_at to) (λ x. HasSpelling rows x far Near 12) was in
                let v = value_of (far_at to) some in
                elim (in_or_out to (is_code to) refl h) [
                  | inl still ↦
                      let spelled = some_and (store_at a (far_at to)) (store a v.0) (λ x. HasSpelling rows x far Near 12) (ap (store_at a) v.1) was in
                      and_some (store_at a (at to)) (store a v.0) (λ x. HasSpelling rows x from Near 12) (ap (store_at a) (still ∙ v.1))
                      (moved rows within same (store a v.0) far from 12 spelled refl (store_names_low a v.0) (omega (arith, end, low)))
                  | inr code ↦
                      let t = target forms k s is to code (is_inner to) refl some in
                      and_some (store_at a (at to)) (store a t.0) (λ x. HasSpelling rows x from Near 12) (ap (store_at a) t.1)
                      (store_spelled rows emits a t.0 from h t.2)
                ]

        item_placed : (k : ℕ) (s : Slot) → slice_get (slots frags) k ≡ Some s → (i : Item) → s.item ≡ i → (f : Form) → form_at forms k ≡ f → IsPlaced rows (label_address frags (place rows frags base forms) s) (place rows frags base forms k) i f
        item_placed k s is (item.Whole x) e Near h = record { reach = tt; spelled = whole k s is x e }
        item_placed k s is (item.Whole x) e Short h = absurd (not_short k _ (piece_is k s is (item.Whole x) e) h)
        item_placed k s is (item.Jump cond to) e Near h = near_jump_placed k s is cond to e h
        item_placed k s is (item.Jump cond to) e Short h = short_jump_placed k s is cond to e h (is_inner to) refl
        item_placed k s is (item.Jrcxz to) e Near h = jrcxz_placed k s is to e
        item_placed k s is (item.Jrcxz to) e Short h = absurd (not_short k _ (piece_is k s is (item.Jrcxz to) e) h)
        item_placed k s is (item.Store a to) e Near h = record { reach = tt; spelled = store_placed k s is a to e }
        item_placed k s is (item.Store a to) e Short h = absurd (not_short k _ (piece_is k s is (item.Store a to) e) h)

        pub item_plan : IsPlan rows frags base forms
        item_plan =
            record {
              each = plan.each ∙ pieces_count rows frags;
              placed = λ k s is. item_placed k s is s.item refl (form_at forms k) refl;
            }

-- ---- places

pub item_places : (rows : List Row) (frags : Fragments) (base : ℕ) (forms : List Form) (places : List ℕ) → ArePiecePlaces (pieces_of rows frags) base forms places → ArePlaces rows frags base forms places
item_places rows frags base forms places are =
    let count = pieces_count rows frags in
    record {
      each = are.each ∙ count;
      at = λ k h. are.at k (rw count h) ∙ ap (λ n. base + n) (offset_same rows frags forms k);
    }
