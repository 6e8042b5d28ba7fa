-- The bytes of items, one after the other.
use Rattle.std.proofs.Common.{◌≡◌, ℕ, zero, suc, ◌+◌, ◌≤◌, List, [], ◌∷◌, ◌++◌, length, take, drop, Option, Some, None, refl, sym, ◌∙◌, ap, subst, arith, length-append}
use Rattle.std.specs.Prelude.{slice_get, IsSomeAnd}
use Rattle.std.proofs.Math.Seq.{drop-cons, drop-append_seam, take-append_seam}
use Rattle.std.proofs.lemmas.List.{append_assoc, drop_all, append-nil, length-take-le}
use Rattle.std.proofs.lemmas.Option.{slice_get_within, get_or_from_slice_get}
use Rattle.rz_isa.specs.declared.rows.Row.{Row}
use Rattle.rz_isa.specs.declared.rows.Form.{Form}
use Rattle.rz_isa.specs.declared.instruction.Insn.{Insn}
use Rattle.rz_isa.specs.declared.item_list.Slot.{Slot}
use Rattle.rz_isa.specs.declared.fragment_list.Fragments.{Fragments}
use Rattle.rz_isa.specs.Canonical.{canonical}
use Rattle.rz_isa.specs.Emitted.{HasSpelling}
use Rattle.rz_isa.specs.Items.{slots}
use Rattle.rz_isa.specs.Plan.{form_at, item_len, offset, place, code_end, IsPlan}
use Rattle.rz_encode.specs.Laws.{DecodesBack}
use Rattle.rz_emit.specs.Emitted.{insn_of, bytes_or_none, spelling, item_bytes, bytes_from, code_bytes, HoldsInsn, HoldsItems}
use Rattle.rz_emit.proofs.Offsets.{offset_zero, offset_suc}

-- ---- the bytes of one item

long_bytes : (o : Option (List ℕ)) (n : ℕ) → IsSomeAnd o (λ s. length s ≡ n) → (o ≡ Some (bytes_or_none o)) × (length (bytes_or_none o) ≡ n)
long_bytes (Some s) n h = (refl, h)
long_bytes None n h = absurd h

-- an instruction with a spelling of a length is spelled by bytes of that length
spelled : (rows : List Row) (at n : ℕ) (form : Form) (o : Option Insn) → IsSomeAnd o (λ x. HasSpelling rows x at form n)
    → IsSomeAnd o (λ x. canonical rows x at form ≡ Some (spelling rows at form o)) × (length (spelling rows at form o) ≡ n)
spelled rows at n form (Some x) h = long_bytes (canonical rows x at form) n h
spelled rows at n form None h = absurd h

some_and : {X : Type 0} (P : X → Type 0) (o : Option X) (x : X) → o ≡ Some x → IsSomeAnd o P → P x
some_and P o x e h = subst (λ o. IsSomeAnd o P) e h

and_same : {X : Type 0} (P Q : X → Type 0) (o : Option X) → ((x : X) → P x → Q x) → IsSomeAnd o P → IsSomeAnd o Q
and_same P Q (Some x) f h = f x h
and_same P Q None f h = absurd h

-- the middle one of three lists
middle : (front item rest : List ℕ) (n len : ℕ) → length front ≡ n → length item ≡ len → take len (drop n (front ++ (item ++ rest))) ≡ item
middle front item rest n len e f =
    ap (λ m. take len (drop m (front ++ (item ++ rest)))) (sym e)
    ∙ (ap (take len) (drop-append_seam front (item ++ rest))
    ∙ (ap (λ m. take m (item ++ rest)) (sym f) ∙ take-append_seam item rest))

-- what some first ones have at a number, all have
slice_get_taken : {X : Type 0} (l : List X) (k i : ℕ) (x : X) → slice_get (take k l) i ≡ Some x → slice_get l i ≡ Some x
slice_get_taken [] zero i x e = e
slice_get_taken [] (suc k) i x e = e
slice_get_taken (y ∷ l) zero i x e = absurd (omega (arith, slice_get_within [] i x e))
slice_get_taken (y ∷ l) (suc k) zero x e = e
slice_get_taken (y ∷ l) (suc k) (suc i) x e = slice_get_taken l k i x e

module _ (rows : List Row) (frags : Fragments) (base : ℕ) (forms : List Form) where
  -- ---- all bytes, in parts

  bytes_split : (l : List Slot) (j k : ℕ) → bytes_from rows frags base forms j l ≡ bytes_from rows frags base forms j (take k l) ++ bytes_from rows frags base forms (j + k) (drop k l)
  unfolding bytes_from
  bytes_split l j zero = let e : j ≡ j + 0 = omega arith in ap (λ n. bytes_from rows frags base forms n l) e
  bytes_split [] j (suc k) = refl
  bytes_split (s ∷ l) j (suc k) =
      let e : suc j + k ≡ j + suc k = omega arith in
      let first = item_bytes rows frags base forms j s in
      let front = bytes_from rows frags base forms (suc j) (take k l) in
      ap (λ bs. first ++ bs) (bytes_split l (suc j) k)
      ∙ (sym (append_assoc first front (bytes_from rows frags base forms (suc j + k) (drop k l)))
      ∙ ap (λ n. (first ++ front) ++ bytes_from rows frags base forms n (drop k l)) e)

  drop_slot : (k : ℕ) (s : Slot) → slice_get (slots frags) k ≡ Some s → drop k (slots frags) ≡ s ∷ drop (suc k) (slots frags)
  drop_slot k s is =
      drop-cons (slots frags) k s (slice_get_within (slots frags) k s is)
      ∙ ap (λ d. d ∷ drop (suc k) (slots frags)) (get_or_from_slice_get (slots frags) k s s is)

  from_slot : (k : ℕ) (s : Slot) → slice_get (slots frags) k ≡ Some s
      → bytes_from rows frags base forms k (drop k (slots frags)) ≡ item_bytes rows frags base forms k s ++ bytes_from rows frags base forms (suc k) (drop (suc k) (slots frags))
  unfolding bytes_from
  from_slot k s is = ap (bytes_from rows frags base forms k) (drop_slot k s is)

  -- one item more
  pub one_more : (k : ℕ) (s : Slot) → slice_get (slots frags) k ≡ Some s → (out all : List ℕ) → out ++ bytes_from rows frags base forms k (drop k (slots frags)) ≡ all
      → (out ++ item_bytes rows frags base forms k s) ++ bytes_from rows frags base forms (suc k) (drop (suc k) (slots frags)) ≡ all
  one_more k s is out all e =
      append_assoc out (item_bytes rows frags base forms k s) (bytes_from rows frags base forms (suc k) (drop (suc k) (slots frags)))
      ∙ (ap (λ bs. out ++ bs) (sym (from_slot k s is)) ∙ e)

  -- behind the last all is there
  pub all_there : (k : ℕ) (out all : List ℕ) → length (slots frags) ≤ k → out ++ bytes_from rows frags base forms k (drop k (slots frags)) ≡ all → out ≡ all
  unfolding bytes_from
  all_there k out all h e = sym (ap (λ l. out ++ bytes_from rows frags base forms k l) (drop_all k (slots frags) h) ∙ append-nil out) ∙ e

  module _ (plan : IsPlan rows frags base forms) where
    item_spelled : (k : ℕ) (s : Slot) → slice_get (slots frags) k ≡ Some s
        → IsSomeAnd (insn_of rows frags base forms s) (λ x. canonical rows x (place rows frags base forms k) (form_at forms k) ≡ Some (item_bytes rows frags base forms k s)) × (length (item_bytes rows frags base forms k s) ≡ item_len rows s.item (form_at forms k))
    item_spelled k s is = spelled rows (place rows frags base forms k) (item_len rows s.item (form_at forms k)) (form_at forms k) (insn_of rows frags base forms s) (plan.placed k s is).spelled

    pub canonical_item : (k : ℕ) (s : Slot) → slice_get (slots frags) k ≡ Some s → (x : Insn) → insn_of rows frags base forms s ≡ Some x
        → canonical rows x (place rows frags base forms k) (form_at forms k) ≡ Some (item_bytes rows frags base forms k s)
    canonical_item k s is x e = some_and (λ x. canonical rows x (place rows frags base forms k) (form_at forms k) ≡ Some (item_bytes rows frags base forms k s)) (insn_of rows frags base forms s) x e (item_spelled k s is).0

    -- the bytes of some items that stand one after the other in the order, from a number on
    bytes_long : (l : List Slot) (j : ℕ) → ((i : ℕ) (s : Slot) → slice_get l i ≡ Some s → slice_get (slots frags) (j + i) ≡ Some s)
        → offset rows (slots frags) forms j + length (bytes_from rows frags base forms j l) ≡ offset rows (slots frags) forms (j + length l)
    unfolding bytes_from
    bytes_long [] j there = let e : j + 0 ≡ j = omega arith in omega (arith, ap (offset rows (slots frags) forms) e)
    bytes_long (s ∷ l) j there =
        let here : slice_get (slots frags) j ≡ Some s = let e : j + 0 ≡ j = omega arith in subst (λ n. slice_get (slots frags) n ≡ Some s) e (there 0 s refl) in
        let later = bytes_long l (suc j) (λ i t is. let e : j + suc i ≡ suc j + i = omega arith in subst (λ n. slice_get (slots frags) n ≡ Some t) e (there (suc i) t is)) in
        let e : suc j + length l ≡ j + length (s ∷ l) = omega arith in
        omega (arith, later, length-append (item_bytes rows frags base forms j s) (bytes_from rows frags base forms (suc j) l), (item_spelled j s here).1, offset_suc rows (slots frags) forms j s here, ap (offset rows (slots frags) forms) e)

    at_zero : (i : ℕ) (s : Slot) → slice_get (slots frags) i ≡ Some s → slice_get (slots frags) (0 + i) ≡ Some s
    at_zero i s is = let e : i ≡ 0 + i = omega arith in subst (λ n. slice_get (slots frags) n ≡ Some s) e is

    -- the code is as long as its items
    pub code_long : base + length (code_bytes rows frags base forms) ≡ code_end rows frags base forms
    code_long =
        let e : 0 + length (slots frags) ≡ length (slots frags) = omega arith in
        omega (arith, bytes_long (slots frags) 0 (λ i s is. at_zero i s is), offset_zero rows (slots frags) forms, ap (offset rows (slots frags) forms) e)

    front_long : (k : ℕ) → k ≤ length (slots frags) → length (bytes_from rows frags base forms 0 (take k (slots frags))) ≡ offset rows (slots frags) forms k
    front_long k h =
        let long = bytes_long (take k (slots frags)) 0 (λ i s is. at_zero i s (slice_get_taken (slots frags) k i s is)) in
        let e : 0 + length (take k (slots frags)) ≡ k = omega (arith, length-take-le k (slots frags) h) in
        omega (arith, long, offset_zero rows (slots frags) forms, ap (offset rows (slots frags) forms) e)

    -- what the code holds, whatever stands behind it
    pub holds : DecodesBack rows → (rest : List ℕ) → HoldsItems rows frags base forms (code_bytes rows frags base forms ++ rest)
    holds back rest k s is =
        let item = item_bytes rows frags base forms k s in
        let at = place rows frags base forms k in
        let form = form_at forms k in
        let len = item_len rows s.item form in
        let front = bytes_from rows frags base forms 0 (take k (slots frags)) in
        let behind = bytes_from rows frags base forms (suc k) (drop (suc k) (slots frags)) in
        let within = slice_get_within (slots frags) k s is in
        let zero_k : 0 + k ≡ k = omega arith in
        let spelled = item_spelled k s is in
        let whole : code_bytes rows frags base forms ≡ front ++ (item ++ behind) = bytes_split (slots frags) 0 k ∙ ap (λ bs. front ++ bs) (ap (λ n. bytes_from rows frags base forms n (drop k (slots frags))) zero_k ∙ from_slot k s is) in
        let parts : code_bytes rows frags base forms ++ rest ≡ front ++ (item ++ (behind ++ rest)) =
        ap (λ bs. bs ++ rest) whole ∙ (append_assoc front (item ++ behind) rest ∙ ap (λ bs. front ++ bs) (append_assoc item behind rest)) in
        let taken : take len (drop (offset rows (slots frags) forms k) (code_bytes rows frags base forms ++ rest)) ≡ item =
        ap (λ bs. take len (drop (offset rows (slots frags) forms k) bs)) parts ∙ middle front item (behind ++ rest) (offset rows (slots frags) forms k) len (front_long k (omega (arith, within))) spelled.1 in
        and_same (λ x. canonical rows x at form ≡ Some item) (HoldsInsn rows (code_bytes rows frags base forms ++ rest) (offset rows (slots frags) forms k) len at) (insn_of rows frags base forms s)
        (λ x is. record { each = ap length taken ∙ spelled.1; decodes = back x at form _ (is ∙ ap Some (sym taken)) }) spelled.0
