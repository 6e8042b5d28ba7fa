-- From emitted bytes to items that stand: each item's instruction at its place.
use Rattle.std.proofs.Common.{◌≡◌, ℕ, zero, suc, ◌+◌, ◌-◌, ◌^◌, ◌<◌, ◌≤◌, List, [], ◌∷◌, ◌++◌, length, Option, Some, None, IsTrue, IsSomeAnd, refl, sym, ap, ◌∙◌, subst, arith, append_assoc, length-append}
use Rattle.std.specs.Prelude.{slice_get}
use Rattle.std.proofs.lemmas.Option.{slice_get_within}
use Rattle.rz_num.specs.Bytes.{are_bytes}
use Rattle.rz_isa.specs.declared.rows.Row.{Row}
use Rattle.rz_isa.specs.declared.rows.Form.{Form}
use Rattle.rz_isa.specs.declared.instruction.Insn.{Insn}
use Rattle.rz_isa.specs.declared.item_list.Slot.{Slot}
use Rattle.rz_isa.specs.declared.fragment_list.Fragments.{Fragments}
use Rattle.rz_isa.specs.Canonical.{canonical}
use Rattle.rz_isa.specs.Decoded.{decoded}
use Rattle.rz_isa.specs.Emitted.{HasSpelling}
use Rattle.rz_isa.specs.Items.{slots}
use Rattle.rz_isa.specs.Nodes.{Decoder}
use Rattle.rz_isa.specs.Plan.{form_at, item_len, len_or_none, offset, place, code_end, IsPlan}
use Rattle.rz_encode.specs.Laws.{DecodesBack}
use Rattle.rz_encode.specs.Length.{CanonicalLengths}
use Rattle.rz_image.specs.Memory.{Regions, fetch}
use Rattle.rz_machine.specs.Simulates.{InsnAt}
use Rattle.rz_machine.specs.Laws.Placed.{BytesAt, bytes_front, bytes_back, insn_of_bytes}
use Rattle.rz_emit.specs.Emitted.{insn_of, item_bytes, bytes_or_none, spelling, bytes_from, code_bytes}

-- what holds of each slot of a list, the first of which has the number k
abbrev pub AllFrom : (ℕ → Slot → Type 0) → ℕ → List Slot → Type 0
AllFrom P k [] = Unit {0}
AllFrom P k (s ∷ rest) = P k s × AllFrom P (suc k) rest

pub all_from : (P : ℕ → Slot → Type 0) (k : ℕ) (list : List Slot) → ((i : ℕ) (s : Slot) → slice_get list i ≡ Some s → P (k + i) s) → AllFrom P k list
all_from P k [] h = tt
all_from P k (s ∷ rest) h =
    let e : k + 0 ≡ k = omega arith in (
      subst (λ n. P n s) e (h 0 s refl),
      all_from P (suc k) rest (λ i t is. let f : k + suc i ≡ suc k + i = omega arith in subst (λ n. P n t) f (h (suc i) t is)),
    )

pub all_append : (P : ℕ → Slot → Type 0) (k : ℕ) (a b : List Slot) → AllFrom P k (a ++ b) → AllFrom P k a × AllFrom P (k + length a) b
all_append P k [] b h = let e : k ≡ k + 0 = omega arith in (tt, subst (λ n. AllFrom P n b) e h)
all_append P k (s ∷ a) b h =
    let t = all_append P (suc k) a b h.1 in
    let e : suc k + length a ≡ k + suc (length a) = omega arith in
    ((h.0, t.0), subst (λ n. AllFrom P n b) e t.1)

-- ---- places

module _ (rows : List Row) (frags : Fragments) (base : ℕ) (forms : List Form) where
  abbrev pub at : ℕ → ℕ
  at = place rows frags base forms

  -- places ascend
  pub ascends : (k d : ℕ) → offset rows (slots frags) forms k ≤ offset rows (slots frags) forms (k + d)
  unfolding offset
  ascends k zero = let e : k + 0 ≡ k = omega arith in subst (λ n. offset rows (slots frags) forms k ≤ offset rows (slots frags) forms n) (sym e) (omega arith)
  ascends k (suc d) =
      let e : k + suc d ≡ suc (k + d) = omega arith in
      let h = ascends k d in
      subst (λ n. offset rows (slots frags) forms k ≤ offset rows (slots frags) forms n) (sym e) (more (offset rows (slots frags) forms k) (offset rows (slots frags) forms (k + d)) _ h)
    where
      more : (a b c : ℕ) → a ≤ b → a ≤ b + c
      more a b c h = omega arith

  next_place : (k : ℕ) (s : Slot) → slice_get (slots frags) k ≡ Some s → at (suc k) ≡ at k + item_len rows s.item (form_at forms k)
  unfolding offset
  next_place k s is =
      let l : len_or_none rows (slice_get (slots frags) k) (form_at forms k) ≡ item_len rows s.item (form_at forms k) = ap (λ o. len_or_none rows o (form_at forms k)) is in
      sum base (offset rows (slots frags) forms k) _ _ l
    where
      sum : (b o u v : ℕ) → u ≡ v → b + (o + u) ≡ b + o + v
      sum b o u v e = omega (arith, e)

  -- what is placed is spelled by its bytes
  module _ (plan : IsPlan rows frags base forms) (low : code_end rows frags base forms < 2 ^ 64) where
    below_end : (k : ℕ) → k < length (slots frags) → at (suc k) < 2 ^ 64
    below_end k lt =
        let d : ℕ = length (slots frags) - suc k in
        let e : suc k + d ≡ length (slots frags) = omega (arith, lt) in
        let h : offset rows (slots frags) forms (suc k) ≤ offset rows (slots frags) forms (length (slots frags)) = subst (λ n. offset rows (slots frags) forms (suc k) ≤ offset rows (slots frags) forms n) e (ascends (suc k) d) in
        omega (arith, h, low)

    record Spelled (k : ℕ) (s : Slot) : Type 0 where
      insn : Insn
      is : insn_of rows frags base forms s ≡ Some insn
      bytes : List ℕ
      spells : canonical rows insn (at k) (form_at forms k) ≡ Some bytes
      long : at k + length bytes ≡ at (suc k)
      fits : at (suc k) < 2 ^ 64

    spelled : (k : ℕ) (s : Slot) → slice_get (slots frags) k ≡ Some s → Spelled k s
    spelled k s is = go (insn_of rows frags base forms s) refl (plan.placed k s is).spelled
      where
        go : (o : Option Insn) → insn_of rows frags base forms s ≡ o → IsSomeAnd o (λ x. HasSpelling rows x (at k) (form_at forms k) (item_len rows s.item (form_at forms k))) → Spelled k s
        go None e h = absurd h
        go (Some x) e h = here (canonical rows x (at k) (form_at forms k)) refl h
          where
            here : (c : Option (List ℕ)) → canonical rows x (at k) (form_at forms k) ≡ c → IsSomeAnd c (λ l. length l ≡ item_len rows s.item (form_at forms k)) → Spelled k s
            here None f h = absurd h
            here (Some bytes) f h = record {
              insn = x;
              is = e;
              bytes = bytes;
              spells = f;
              long = ap (λ n. at k + n) h ∙ sym (next_place k s is);
              fits = below_end k (slice_get_within (slots frags) k s is);
            }

    -- its bytes
    bytes_are : (k : ℕ) (s : Slot) (p : Spelled k s) → item_bytes rows frags base forms k s ≡ p.bytes
    bytes_are k s p = ap (spelling rows (at k) (form_at forms k)) p.is ∙ ap bytes_or_none p.spells

    each_spelled : AllFrom Spelled 0 (slots frags)
    each_spelled = all_from Spelled 0 (slots frags) (λ i s is. let e : i ≡ 0 + i = omega arith in subst (λ n. Spelled n s) e (spelled i s is))

    -- so the bytes end where the items do
    bytes_end : (k : ℕ) (rest : List Slot) → AllFrom Spelled k rest → at k + length (bytes_from rows frags base forms k rest) ≡ at (k + length rest)
    unfolding bytes_from
    bytes_end k [] all = let e : k ≡ k + 0 = omega arith in let f : at k + 0 ≡ at k = omega arith in f ∙ ap at e
    bytes_end k (s ∷ rest) all =
        let mine : List ℕ = item_bytes rows frags base forms k s in
        let others : List ℕ = bytes_from rows frags base forms (suc k) rest in
        let long : at k + length mine ≡ at (suc k) = ap (λ (l : List ℕ). at k + length l) (bytes_are k s all.0) ∙ all.0.long in
        let e : suc k + length rest ≡ k + suc (length rest) = omega arith in
        sum (at k) _ (length mine) (length others) (at (suc k)) (length-append mine others) long ∙ bytes_end (suc k) rest all.1 ∙ ap at e
      where
        sum : (p l u v q : ℕ) → l ≡ u + v → p + u ≡ q → p + l ≡ q + v
        sum p l u v q e f = omega (arith, e, f)

    pub code_long : length (code_bytes rows frags base forms) + base ≡ code_end rows frags base forms
    unfolding offset
    code_long =
        let start : at 0 ≡ base = omega arith in
        let e : 0 + length (slots frags) ≡ length (slots frags) = omega arith in
        turn base (length (code_bytes rows frags base forms)) (at 0) _ start (bytes_end 0 (slots frags) each_spelled ∙ ap at e)
      where
        turn : (b l p q : ℕ) → p ≡ b → p + l ≡ q → l + b ≡ q
        turn b l p q e f = omega (arith, e, f)

-- ---- in memory

module _ (rows : List Row) (back : DecodesBack rows) (short : CanonicalLengths rows) (frags : Fragments) (base : ℕ) (forms : List Form) (m : Regions)
    (executed : (p : ℕ) → IsTrue (are_bytes (fetch m p 15))) (plan : IsPlan rows frags base forms) (low : code_end rows frags base forms < 2 ^ 64) where
  abbrev dec : Decoder
  dec = decoded rows

  abbrev spot : ℕ → ℕ
  spot = place rows frags base forms

  abbrev IsSpelled : ℕ → Slot → Type 0
  IsSpelled = Spelled rows frags base forms plan low

  -- the item of a number stands at its place, up to the next one
  abbrev pub Stands : ℕ → Slot → Type 0
  Stands k s = IsSomeAnd (insn_of rows frags base forms s) (λ x. InsnAt dec m (spot k) x (spot (suc k)))

  one_stands : (k : ℕ) (s : Slot) (p : IsSpelled k s) → BytesAt m (spot k) p.bytes → Stands k s
  one_stands k s p h =
      let few = short p.insn (spot k) (form_at forms k) p.bytes p.spells in
      let top : spot k + length p.bytes < 2 ^ 64 = subst (λ n. n < 2 ^ 64) (sym p.long) p.fits in
      let stands : InsnAt dec m (spot k) p.insn (spot k + length p.bytes) =
      insn_of_bytes dec m (spot k) p.insn p.bytes h few top (executed (spot k)) (back p.insn (spot k) (form_at forms k) p.bytes p.spells) in
      subst (λ o. IsSomeAnd o (λ x. InsnAt dec m (spot k) x (spot (suc k)))) (sym p.is) (subst (InsnAt dec m (spot k) p.insn) p.long stands)

  -- so all items do that are spelled one after the other
  all_stand : (k : ℕ) (rest : List Slot) (fill : List ℕ) → AllFrom IsSpelled k rest → BytesAt m (spot k) (bytes_from rows frags base forms k rest ++ fill) → AllFrom Stands k rest
  unfolding bytes_from
  all_stand k [] fill all h = tt
  all_stand k (s ∷ rest) fill all h =
      let mine : List ℕ = item_bytes rows frags base forms k s in
      let others : List ℕ = bytes_from rows frags base forms (suc k) rest in
      let split : BytesAt m (spot k) (mine ++ (others ++ fill)) = subst (BytesAt m (spot k)) (append_assoc mine others fill) h in
      let first : BytesAt m (spot k) all.0.bytes = subst (BytesAt m (spot k)) (bytes_are rows frags base forms plan low k s all.0) (bytes_front m (spot k) mine (others ++ fill) split) in
      let size : spot k + length mine ≡ spot (suc k) = ap (λ (l : List ℕ). spot k + length l) (bytes_are rows frags base forms plan low k s all.0) ∙ all.0.long in
      let behind : BytesAt m (spot (suc k)) (others ++ fill) = subst (λ p. BytesAt m p (others ++ fill)) size (bytes_back m (spot k) mine (others ++ fill) split) in
      (one_stands k s all.0 first, all_stand (suc k) rest fill all.1 behind)

  pub items_stand : (fill : List ℕ) → BytesAt m base (code_bytes rows frags base forms ++ fill) → AllFrom Stands 0 (slots frags)
  unfolding offset
  items_stand fill h =
      let start : base ≡ spot 0 = omega arith in
      all_stand 0 (slots frags) fill (each_spelled rows frags base forms plan low) (subst (λ p. BytesAt m p (code_bytes rows frags base forms ++ fill)) start h)
