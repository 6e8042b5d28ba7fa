-- Sized fragments can be laid out with each item near.
use Rattle.std.proofs.Common.{◌≡◌, ℕ, zero, suc, ◌+◌, ◌-◌, ◌^◌, ◌<◌, ◌≤◌, Bool, true, false, if◌then◌else◌, List, [], ◌∷◌, ◌++◌, length, take, get_or, Option, Some, None, refl, sym, ◌∙◌, ap, subst, arith, length-append, append-nil, inl, inr}
use Rattle.std.specs.Prelude.{nat_le, nat_lt, map, slice_get, IsSome, IsSomeAnd}
use Rattle.std.specs.List.{AllByRecursion}
use Rattle.std.specs.Option.{option_map}
use Rattle.std.proofs.lemmas.Bool.{cases_lt}
use Rattle.std.proofs.lemmas.Bool.Decides.{nat_tests}
use Rattle.std.proofs.lemmas.List.{length-replicate, take-append-le, length-take-le}
use Rattle.std.proofs.lemmas.Option.{slice_get_within, slice_get-get_or, slice_get_past, slice_get-map}
use Rattle.rz_isa.specs.declared.rows.Row.{Row}
use Rattle.rz_isa.specs.declared.rows.Form.{Form}
use Rattle.rz_isa.specs.declared.rows.Form.TheVariants.{Near}
use Rattle.rz_isa.specs.declared.instruction.Insn.TheVariants as insn
use Rattle.rz_isa.specs.declared.item_list.Label.{Label}
use Rattle.rz_isa.specs.declared.item_list.Label.TheVariants as label
use Rattle.rz_isa.specs.declared.item_list.Item.{Item}
use Rattle.rz_isa.specs.declared.item_list.Item.TheVariants as item
use Rattle.rz_isa.specs.declared.item_list.Slot.{Slot}
use Rattle.rz_isa.specs.declared.fragment_list.Fragment.{Fragment}
use Rattle.rz_isa.specs.declared.fragment_list.Fragments.{Fragments}
use Rattle.rz_isa.specs.Emitted.{HasSpelling}
use Rattle.rz_isa.specs.Items.{Addresses, list_slots, slots_from, slots, item_count, first_number, fragment_number, label_address, resolved, store}
use Rattle.rz_isa.specs.Plan.{form_at, item_len, len_or_none, offset, place, code_end, Reaches, InReach, IsPlaced, IsPlacedAt}
use Rattle.rz_isa.specs.Sizes.{IsSized, CanMove, near_len, near_address, AllPlaced, OfLabel, IsLow, IsOneOf}
use Rattle.rz_layout.specs.Layout.{all_near}
use Rattle.rz_layout.specs.NearPlan.{IsKnown, IsSizedFragment, most_total, CanStand, StandsNear}
use Rattle.rz_layout.proofs.Flat.{near_all}
use Rattle.rz_layout.proofs.Labels.{some_is_some}
use Rattle.rz_layout.proofs.Ordered.{length-list_slots, length-slots_from}

-- ---- items are placed alike where their labels have the same addresses

resolved_same : (f g : Addresses) (i : Item) → OfLabel (λ to. f to ≡ g to) i → resolved f i ≡ resolved g i
resolved_same f g (item.Whole x) same = refl
resolved_same f g (item.Jump None to) same = ap (option_map (λ t. insn.Jmp t)) same
resolved_same f g (item.Jump (Some cond) to) same = ap (option_map (λ t. insn.Jcc cond t)) same
resolved_same f g (item.Jrcxz to) same = ap (option_map (λ t. insn.Jrcxz t)) same
resolved_same f g (item.Store a to) same = ap (λ o. if nat_lt a (2 ^ 31) then option_map (store a) o else None) same

reach_same : (f g : Addresses) (from : ℕ) (i : Item) → OfLabel (λ to. f to ≡ g to) i → InReach f from i Near → InReach g from i Near
reach_same f g from (item.Whole x) same r = tt
reach_same f g from (item.Jump cond to) same r = tt
reach_same f g from (item.Jrcxz to) same r = subst (λ o. IsSomeAnd o (Reaches (from + 2))) same r
reach_same f g from (item.Store a to) same r = tt

placed_same : (rows : List Row) (f g : Addresses) (from : ℕ) (i : Item) → OfLabel (λ to. f to ≡ g to) i → IsPlaced rows f from i Near → IsPlaced rows g from i Near
placed_same rows f g from i same p = record {
  reach = reach_same f g from i same p.reach;
  spelled = subst (λ o. IsSomeAnd o (λ x. HasSpelling rows x from Near (item_len rows i Near))) (resolved_same f g i same) p.spelled;
}

of_label : (P Q : Label → Type 0) (i : Item) → ((to : Label) → P to → Q to) → OfLabel P i → OfLabel Q i
of_label P Q (item.Whole x) f h = tt
of_label P Q (item.Jump cond to) f h = f to h
of_label P Q (item.Jrcxz to) f h = f to h
of_label P Q (item.Store a to) f h = f to h

-- ---- lists

all_of : {X : Type 0} (P : X → Type 0) (l : List X) → AllByRecursion P l → (i : ℕ) (x : X) → slice_get l i ≡ Some x → P x
all_of P [] h i x e = absurd (omega (arith, slice_get_within [] i x e))
all_of P (y ∷ l) h zero x e = let same : y ≡ x = cc in subst P same h.0
all_of P (y ∷ l) h (suc i) x e = all_of P l h.1 i x e

all_map : {X : Type 0} (P Q : X → Type 0) (l : List X) → ((x : X) → P x → Q x) → AllByRecursion P l → AllByRecursion Q l
all_map P Q [] f h = tt
all_map P Q (x ∷ l) f h = (f x h.0, all_map P Q l f h.1)

get_front : {X : Type 0} (a b : List X) (i : ℕ) (x : X) → slice_get a i ≡ Some x → slice_get (a ++ b) i ≡ Some x
get_front [] b i x e = absurd (omega (arith, slice_get_within [] i x e))
get_front (y ∷ a) b zero x e = e
get_front (y ∷ a) b (suc i) x e = get_front a b i x e

get_back : {X : Type 0} (a b : List X) (i : ℕ) → slice_get (a ++ b) (length a + i) ≡ slice_get b i
get_back [] b i = let e : 0 + i ≡ i = omega arith in ap (slice_get b) e
get_back (y ∷ a) b i = let e : length (y ∷ a) + i ≡ suc (length a + i) = omega arith in ap (slice_get (y ∷ (a ++ b))) e ∙ get_back a b i

get_taken : {X : Type 0} (l : List X) (k i : ℕ) (x : X) → slice_get (take k l) i ≡ Some x → slice_get l i ≡ Some x
get_taken [] zero i x e = e
get_taken [] (suc k) i x e = e
get_taken (y ∷ l) zero i x e = absurd (omega (arith, slice_get_within [] i x e))
get_taken (y ∷ l) (suc k) zero x e = e
get_taken (y ∷ l) (suc k) (suc i) x e = get_taken l k i x e

-- an item of a list, as one of all
abbrev as_slot : ℕ → ℕ → Item → Slot
as_slot first stop i = record { item = i; first = first; stop = stop }

get_slot : (first stop : ℕ) (items : List Item) (i : ℕ) (t : Item) → slice_get items i ≡ Some t → slice_get (map (as_slot first stop) items) i ≡ Some (as_slot first stop t)
get_slot first stop items i t e = slice_get-map (as_slot first stop) items i ∙ ap (option_map (as_slot first stop)) e

slot_get : (first stop : ℕ) (items : List Item) (i : ℕ) (s : Slot) → slice_get (map (as_slot first stop) items) i ≡ Some s → (t : Item) × (slice_get items i ≡ Some t) × (s ≡ as_slot first stop t)
slot_get first stop [] i s e = absurd (omega (arith, slice_get_within [] i s e))
slot_get first stop (t ∷ items) zero s e = (t, refl, cc)
slot_get first stop (t ∷ items) (suc i) s e = slot_get first stop items i s e

placed_at : (rows : List Row) (at : Addresses) (from : ℕ) (items : List Item) → AllPlaced rows at from items → (i : ℕ) (t : Item) → slice_get items i ≡ Some t → IsPlaced rows at (from + near_len rows (take i items)) t Near
placed_at rows at from [] h i t e = absurd (omega (arith, slice_get_within [] i t e))
placed_at rows at from (y ∷ items) h zero t e =
    let same : y ≡ t = cc in
    let f : from ≡ from + 0 = omega arith in
    subst (λ n. IsPlaced rows at n t Near) f (subst (λ i. IsPlaced rows at from i Near) same h.0)
placed_at rows at from (y ∷ items) h (suc i) t e =
    let f : from + item_len rows y Near + near_len rows (take i items) ≡ from + (item_len rows y Near + near_len rows (take i items)) = omega arith in
    subst (λ n. IsPlaced rows at n t Near) f (placed_at rows at (from + item_len rows y Near) items h.1 i t e)

near_append : (rows : List Row) (a b : List Item) → near_len rows (a ++ b) ≡ near_len rows a + near_len rows b
near_append rows [] b = omega arith
near_append rows (i ∷ a) b = omega (arith, near_append rows a b)

le_true : (k n : ℕ) → k ≤ n → nat_le k n ≡ true
le_true k n h = grind (arith, nat_tests)

both_named : (f : ℕ → ℕ) (b c : Bool) (x y : ℕ) → b ≡ true → c ≡ true → x ≡ f y → (if b then Some x else None) ≡ option_map f (if c then Some y else None)
both_named f true true x y p q e = ap Some e
both_named f false c x y p q e = absurd (cc)
both_named f true false x y p q e = absurd (cc)

map_some : (f : ℕ → ℕ) (Q : ℕ → Type 0) → ((n : ℕ) → Q (f n)) → (o : Option ℕ) → IsSome o → IsSomeAnd (option_map f o) Q
map_some f Q h (Some n) is = h n
map_some f Q h None is = absurd (cc)

module _ (rows : List Row) (frags : Fragments) (base : ℕ) where
  abbrev forms : List Form
  forms = all_near frags

  abbrev P : ℕ → ℕ
  P = place rows frags base forms

  -- ---- places

  start : P 0 ≡ base
  unfolding offset
  start = omega arith

  step : (k : ℕ) (s : Slot) → slice_get (slots frags) k ≡ Some s → P (suc k) ≡ P k + item_len rows s.item Near
  unfolding offset
  step k s is =
      let l = ap (λ o. len_or_none rows o (form_at forms k)) is ∙ ap (item_len rows s.item) (near_all (length (slots frags)) k) in
      omega (arith, l)

  up : (k d : ℕ) → P k ≤ P (k + d)
  unfolding offset
  up k zero = let e : k + 0 ≡ k = omega arith in omega (arith, ap (offset rows (slots frags) forms) e)
  up k (suc d) = let e : k + suc d ≡ suc (k + d) = omega arith in omega (arith, up k d, ap (offset rows (slots frags) forms) e)

  past : (k : ℕ) → length (slots frags) ≤ k → P k ≡ P (length (slots frags))
  unfolding offset
  past zero h = let e : zero ≡ length (slots frags) = omega arith in ap P e
  past (suc k) h =
      elim (cases_lt k (length (slots frags))) [
        | inl last ↦ let e : suc k ≡ length (slots frags) = omega arith in ap P e
        | inr over ↦
            let none = ap (λ o. len_or_none rows o (form_at forms k)) (slice_get_past (slots frags) k over) in
            omega (arith, none, past k over)
      ]

  ends : (k : ℕ) → P k ≤ P (length (slots frags))
  ends k =
      elim (cases_lt k (length (slots frags))) [
        | inl h ↦ let e : k + (length (slots frags) - k) ≡ length (slots frags) = omega arith in omega (arith, up k (length (slots frags) - k), ap P e)
        | inr h ↦ omega (arith, past k h)
      ]

  -- items of one list that stand in the order from a number on
  abbrev AreFrom : ℕ → ℕ → List Item → Type 0
  AreFrom k stop items = (i : ℕ) (t : Item) → slice_get items i ≡ Some t → slice_get (slots frags) (k + i) ≡ Some (as_slot k stop t)

  run : (first stop k : ℕ) (items : List Item) → ((i : ℕ) (t : Item) → slice_get items i ≡ Some t → slice_get (slots frags) (k + i) ≡ Some (as_slot first stop t)) → P (k + length items) ≡ P k + near_len rows items
  run first stop k [] there = let e : k + 0 ≡ k = omega arith in omega (arith, ap P e)
  run first stop k (t ∷ items) there =
      let here : slice_get (slots frags) k ≡ Some (as_slot first stop t) = let e : k + 0 ≡ k = omega arith in subst (λ n. slice_get (slots frags) n ≡ Some (as_slot first stop t)) e (there 0 t refl) in
      let later = run first stop (suc k) items (λ i u is. let e : k + suc i ≡ suc k + i = omega arith in subst (λ n. slice_get (slots frags) n ≡ Some (as_slot first stop u)) e (there (suc i) u is)) in
      let e : suc k + length items ≡ k + length (t ∷ items) = omega arith in
      omega (arith, later, step k (as_slot first stop t) here, ap P e)

  run_front : (n stop : ℕ) (items : List Item) → AreFrom n stop items → (i : ℕ) → i ≤ length items → P (n + i) ≡ P n + near_len rows (take i items)
  run_front n stop items there i h =
      let e : n + length (take i items) ≡ n + i = omega (arith, length-take-le i items h) in
      omega (arith, run n stop n (take i items) (λ j t is. there j t (get_taken items i j t is)), ap P e)

  -- ---- one fragment

  module _ (most : ℕ → ℕ) (low : P (length (slots frags)) < 2 ^ 31) (f : Fragment) (is : IsSizedFragment rows frags most f) (n : ℕ) (there : AreFrom n (n + length f.items) f.items) (room : P n + most f.at < 2 ^ 31) where
    abbrev whole : List Item
    whole = f.items ++ is.rest

    shorter : near_len rows f.items ≤ most f.at
    shorter = omega (arith, near_append rows f.items is.rest, is.sized.few)

    module _ (t : Item) where
      abbrev at : Addresses
      at = label_address frags P (as_slot n (n + length f.items) t)

      known_low : (to : Label) → IsKnown frags to → IsLow at to
      known_low (label.Place a) h = map_some P (λ p. p < 2 ^ 31) (λ m. omega (arith, ends m, low)) (fragment_number 0 frags.list a) h
      known_low (label.Stub a) h = h
      known_low (label.Item k) h = tt
      known_low (label.Table a) h = h
      known_low label.Routine h = map_some P (λ p. p < 2 ^ 31) (λ m. omega (arith, ends m, low)) (first_number (item_count frags.list) frags.routine) h

      label_same : (to : Label) → IsOneOf (length whole) to → near_address rows whole (P n) at to ≡ at to
      label_same (label.Place a) h = refl
      label_same (label.Stub a) h = refl
      label_same (label.Table a) h = refl
      label_same label.Routine h = refl
      label_same (label.Item k) h =
          let within : k ≤ length f.items = omega (arith, h, length-append f.items is.rest, is.few) in
          let taken : take k whole ≡ take k f.items = take-append-le k f.items is.rest within in
          both_named P (nat_le k (length whole)) (nat_le (n + k) (n + length f.items)) (P n + near_len rows (take k whole)) (n + k)
          (le_true k (length whole) (omega (arith, h))) (le_true (n + k) (n + length f.items) (omega (arith, within)))
          (ap (λ l. P n + near_len rows l) taken ∙ sym (run_front n (n + length f.items) f.items there k within))

      item_placed : (i : ℕ) → slice_get f.items i ≡ Some t → IsPlacedAt rows frags base forms (n + i) (as_slot n (n + length f.items) t)
      item_placed i e =
          let inside : i ≤ length f.items = omega (arith, slice_get_within f.items i t e) in
          let lows = all_map (OfLabel (IsKnown frags)) (OfLabel (IsLow at)) whole (λ u. of_label (IsKnown frags) (IsLow at) u known_low) is.known in
          let all = is.sized.placed at (P n) lows (omega (arith, is.sized.few, room)) in
          let placed = placed_at rows (near_address rows whole (P n) at) (P n) whole all i t (get_front f.items is.rest i t e) in
          let one = all_of (OfLabel (IsOneOf (length whole))) whole is.sized.own i t (get_front f.items is.rest i t e) in
          let moved = placed_same rows (near_address rows whole (P n) at) at (P n + near_len rows (take i whole)) t (of_label (IsOneOf (length whole)) (λ to. near_address rows whole (P n) at to ≡ at to) t label_same one) placed in
          let here : P n + near_len rows (take i whole) ≡ P (n + i) = ap (λ l. P n + near_len rows l) (take-append-le i f.items is.rest inside) ∙ sym (run_front n (n + length f.items) f.items there i inside) in
          subst (λ form. IsPlaced rows at (P (n + i)) t form) (sym (near_all (length (slots frags)) (n + i))) (subst (λ p. IsPlaced rows at p t Near) here moved)

      item_moves : (i : ℕ) → slice_get f.items i ≡ Some t → CanMove t
      item_moves i e = all_of CanMove whole is.sized.can_move i t (get_front f.items is.rest i t e)

  -- ---- all fragments

  abbrev Good : ℕ → Slot → Type 0
  Good k s = CanMove s.item × IsPlacedAt rows frags base forms k s

  -- the items of some fragments stand in the order from a number on
  abbrev AreSlots : ℕ → List Fragment → Type 0
  AreSlots first list = (i : ℕ) (s : Slot) → slice_get (slots_from first list) i ≡ Some s → slice_get (slots frags) (first + i) ≡ Some s

  first_there : (first : ℕ) (f : Fragment) (list : List Fragment) → AreSlots first (f ∷ list) → AreFrom first (first + length f.items) f.items
  first_there first f list there i t e =
      there i (as_slot first (first + length f.items) t) (get_front (list_slots first f.items) (slots_from (first + length f.items) list) i (as_slot first (first + length f.items) t) (get_slot first (first + length f.items) f.items i t e))

  rest_there : (first : ℕ) (f : Fragment) (list : List Fragment) → AreSlots first (f ∷ list) → AreSlots (first + length f.items) list
  rest_there first f list there i s e =
      let len = length-list_slots first f.items in
      let n : first + (length (list_slots first f.items) + i) ≡ first + length f.items + i = omega (arith, len) in
      subst (λ k. slice_get (slots frags) k ≡ Some s) n (there (length (list_slots first f.items) + i) s (get_back (list_slots first f.items) (slots_from (first + length f.items) list) i ∙ e))

  total : (most : ℕ → ℕ) (first : ℕ) (list : List Fragment) → AllByRecursion (IsSizedFragment rows frags most) list → AreSlots first list → P (first + item_count list) ≤ P first + most_total most list
  total most first [] all there = let e : first + 0 ≡ first = omega arith in omega (arith, ap P e)
  total most first (f ∷ list) all there =
      let long = run first (first + length f.items) first f.items (first_there first f list there) in
      let more = near_append rows f.items all.0.rest in
      let e : first + length f.items + item_count list ≡ first + (length f.items + item_count list) = omega arith in
      omega (arith, total most (first + length f.items) list all.1 (rest_there first f list there), long, more, all.0.sized.few, ap P e)

  good : (most : ℕ → ℕ) → P (length (slots frags)) < 2 ^ 31 → (first : ℕ) (list : List Fragment) → AllByRecursion (IsSizedFragment rows frags most) list → AreSlots first list → P first + most_total most list < 2 ^ 31
      → (i : ℕ) (s : Slot) → slice_get (slots_from first list) i ≡ Some s → Good (first + i) s
  good most low first [] all there room i s e = absurd (omega (arith, slice_get_within [] i s e))
  good most low first (f ∷ list) all there room i s e =
      elim (cases_lt i (length f.items)) [
        | inl h ↦
            let t = get_or f.items i (s.item) in
            let stop = first + length f.items in
            let is = slice_get-get_or f.items i (s.item) h in
            let got = get_front (list_slots first f.items) (slots_from stop list) i (as_slot first stop t) (get_slot first stop f.items i t is) in
            let same : as_slot first stop t ≡ s = some_is_some _ _ (sym got ∙ e) in
            let from = first_there first f list there in
            let fits : P first + most f.at < 2 ^ 31 = omega (arith, room) in
            subst (Good (first + i)) same (item_moves most low f all.0 first from fits t i is, item_placed most low f all.0 first from fits t i is)
        | inr h ↦
            let len = length-list_slots first f.items in
            let j = i - length f.items in
            let n : length (list_slots first f.items) + j ≡ i = omega (arith, len, h) in
            let later = sym (get_back (list_slots first f.items) (slots_from (first + length f.items) list) j) ∙ (ap (slice_get (slots_from first (f ∷ list))) n ∙ e) in
            let long = run first (first + length f.items) first f.items (first_there first f list there) in
            let more = near_append rows f.items all.0.rest in
            let m : first + length f.items + j ≡ first + i = omega (arith, h) in
            subst (λ k. Good k s) m (good most low (first + length f.items) list all.1 (rest_there first f list there) (omega (arith, room, long, more, all.0.sized.few)) j s later)
      ]

pub stands_near : (rows : List Row) (frags : Fragments) (base : ℕ) (most : ℕ → ℕ) (routine : ℕ) → CanStand rows frags base most routine → StandsNear rows frags base most routine
stands_near rows frags base most routine can =
    record {
      items = λ k d h. (each k (get_or (slots frags) k d) (slice_get-get_or (slots frags) k d h)).0;
      plan = record { each = length-replicate (length (slots frags)) Near; placed = λ k s e. (each k s e).1 };
      ends = last;
    }
  where
    -- the routine as a fragment
    own_sized : IsSizedFragment rows frags (λ a. routine) (record { at = 0; items = frags.routine })
    own_sized =
        let e = append-nil frags.routine in
        record {
          rest = [];
          few = omega arith;
          sized = subst (λ l. IsSized rows l routine) (sym e) can.routine_sized;
          known = subst (AllByRecursion (OfLabel (IsKnown frags))) (sym e) can.routine_known;
        }

    long : length (slots_from 0 frags.list) ≡ item_count frags.list
    long = length-slots_from 0 frags.list

    there : AreSlots rows frags base 0 frags.list
    there i s e = let n : i ≡ 0 + i = omega arith in subst (λ k. slice_get (slots frags) k ≡ Some s) n (get_front (slots_from 0 frags.list) (list_slots (item_count frags.list) frags.routine) i s e)

    behind : AreFrom rows frags base (item_count frags.list) (item_count frags.list + length frags.routine) frags.routine
    behind i t e =
        let n : length (slots_from 0 frags.list) + i ≡ item_count frags.list + i = omega (arith, long) in
        subst (λ k. slice_get (slots frags) k ≡ Some (as_slot (item_count frags.list) (item_count frags.list + length frags.routine) t)) n
        (get_back (slots_from 0 frags.list) (list_slots (item_count frags.list) frags.routine) i ∙ get_slot (item_count frags.list) (item_count frags.list + length frags.routine) frags.routine i t e)

    all : length (slots frags) ≡ item_count frags.list + length frags.routine
    all = omega (arith, length-append (slots_from 0 frags.list) (list_slots (item_count frags.list) frags.routine), long, length-list_slots (item_count frags.list) frags.routine)

    -- where the routine begins, and where it ends
    begin : place rows frags base (all_near frags) (item_count frags.list) ≤ base + most_total most frags.list
    begin = let e : 0 + item_count frags.list ≡ item_count frags.list = omega arith in omega (arith, total rows frags base most 0 frags.list can.fragments there, start rows frags base, ap (place rows frags base (all_near frags)) e)

    last : code_end rows frags base (all_near frags) ≤ base + most_total most frags.list + routine
    last =
        let r = run rows frags base (item_count frags.list) (item_count frags.list + length frags.routine) (item_count frags.list) frags.routine behind in
        omega (arith, r, begin, can.routine_sized.few, ap (place rows frags base (all_near frags)) all)

    low : code_end rows frags base (all_near frags) < 2 ^ 31
    low = omega (arith, last, can.low)

    each : (k : ℕ) (s : Slot) → slice_get (slots frags) k ≡ Some s → Good rows frags base k s
    each k s e =
        elim (cases_lt k (item_count frags.list)) [
          | inl h ↦
              let t = get_or (slots_from 0 frags.list) k s in
              let is = slice_get-get_or (slots_from 0 frags.list) k s (omega (arith, h, long)) in
              let same : t ≡ s = some_is_some _ _ (sym (get_front (slots_from 0 frags.list) (list_slots (item_count frags.list) frags.routine) k t is) ∙ e) in
              let n : 0 + k ≡ k = omega arith in
              subst (λ k. Good rows frags base k s) n
              (good rows frags base most low 0 frags.list can.fragments there (omega (arith, start rows frags base, can.low)) k s (is ∙ ap Some same))
          | inr h ↦
              let i = k - item_count frags.list in
              let n : length (slots_from 0 frags.list) + i ≡ k = omega (arith, long, h) in
              let m : item_count frags.list + i ≡ k = omega (arith, h) in
              let got = slot_get (item_count frags.list) (item_count frags.list + length frags.routine) frags.routine i s
              (sym (get_back (slots_from 0 frags.list) (list_slots (item_count frags.list) frags.routine) i) ∙ (ap (slice_get (slots frags)) n ∙ e)) in
              let fits : place rows frags base (all_near frags) (item_count frags.list) + routine < 2 ^ 31 = omega (arith, begin, can.low) in
              let f : Fragment = record { at = 0; items = frags.routine } in
              subst (λ k. Good rows frags base k s) m
              (subst (Good rows frags base (item_count frags.list + i)) (sym got.2) (
                item_moves rows frags base (λ a. routine) low f own_sized (item_count frags.list) behind fits got.0 i got.1,
                item_placed rows frags base (λ a. routine) low f own_sized (item_count frags.list) behind fits got.0 i got.1,
              ))
        ]
