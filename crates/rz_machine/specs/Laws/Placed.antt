-- Instructions at places in memory: from bytes that may be executed to what they spell.
use Rattle.std.proofs.Common.{◌≡◌, ℕ, suc, ◌+◌, ◌-◌, ◌^◌, ◌<◌, ◌≤◌, nat_lt, IsTrue, List, [], ◌∷◌, ◌++◌, length, get_or, Some, refl, sym, ap, ◌∙◌, subst, arith, mod-eq_of_lt}
use Rattle.std.proofs.lemmas.Bool.{and_parts}
use Rattle.rz_num.specs.Bytes.{are_bytes}
use Rattle.rz_isa.specs.declared.instruction.Insn.{Insn}
use Rattle.rz_isa.specs.declared.decoding.Decoded.TheVariants as decoded
use Rattle.rz_image.specs.Memory.{Regions, cell_at, code_of, fetched, fetch}
use Rattle.rz_isa.specs.Nodes.{Decoder}
use Rattle.rz_machine.specs.Simulates.{InsnAt}

-- these bytes may be executed at this place
abbrev pub BytesAt : Regions → ℕ → List ℕ → Type 0
BytesAt m p [] = Unit {0}
BytesAt m p (b ∷ bs) = (code_of (cell_at m p) ≡ Some b) × BytesAt m (p + 1) bs

-- the first of two lists
pub bytes_front : (m : Regions) (p : ℕ) (a b : List ℕ) → BytesAt m p (a ++ b) → BytesAt m p a
bytes_front m p [] b h = tt
bytes_front m p (x ∷ a) b h = (h.0, bytes_front m (p + 1) a b h.1)

-- and the second
pub bytes_back : (m : Regions) (p : ℕ) (a b : List ℕ) → BytesAt m p (a ++ b) → BytesAt m (p + length a) b
bytes_back m p [] b h = let e : p ≡ p + 0 = omega arith in subst (λ n. BytesAt m n b) e h
bytes_back m p (x ∷ a) b h =
    let e : p + 1 + length a ≡ p + length (x ∷ a) = omega arith in
    subst (λ n. BytesAt m n b) e (bytes_back m (p + 1) a b h.1)

-- from the bytes one by one
pub bytes_from : (m : Regions) (p : ℕ) (bs : List ℕ) → ((i : ℕ) → i < length bs → code_of (cell_at m (p + i)) ≡ Some (get_or bs i 0)) → BytesAt m p bs
bytes_from m p [] h = tt
bytes_from m p (b ∷ bs) h =
    let e : p + 0 ≡ p = omega arith in (
      subst (λ a. code_of (cell_at m a) ≡ Some b) e (h 0 (omega arith)),
      bytes_from m (p + 1) bs (λ i lt. let f : p + suc i ≡ p + 1 + i = omega arith in subst (λ a. code_of (cell_at m a) ≡ Some (get_or bs i 0)) f (h (suc i) (omega arith))),
    )

-- what follows bytes in a list of bytes
bytes_behind : (bs rest : List ℕ) → IsTrue (are_bytes (bs ++ rest)) → IsTrue (are_bytes rest)
bytes_behind [] rest h = h
bytes_behind (b ∷ bs) rest h = bytes_behind bs rest (and_parts (nat_lt b 256) _ h).1

-- the bytes at a place are fetched there
fetch_front : (m : Regions) (p : ℕ) (bs : List ℕ) (n : ℕ) → BytesAt m p bs → (rest : List ℕ) × (fetch m p (length bs + n) ≡ bs ++ rest)
unfolding fetch
fetch_front m p [] n h = (fetch m p (0 + n), refl)
fetch_front m p (b ∷ bs) n h =
    let more = fetch_front m (p + 1) bs n h.1 in
    let e : length (b ∷ bs) + n ≡ suc (length bs + n) = omega arith in
    (more.0, ap (fetch m p) e ∙ ap (λ o. fetched o (fetch m (p + 1) (length bs + n))) h.0 ∙ ap (λ l. b ∷ l) more.1)

-- bytes that are decoded, whatever bytes follow
pub insn_of_bytes : (dec : Decoder) (m : Regions) (p : ℕ) (x : Insn) (bs : List ℕ) → BytesAt m p bs → length bs ≤ 15 → p + length bs < 2 ^ 64 → IsTrue (are_bytes (fetch m p 15))
    → ((rest : List ℕ) → IsTrue (are_bytes rest) → dec (bs ++ rest) p ≡ decoded.Insn x (length bs)) → InsnAt dec m p x (p + length bs)
insn_of_bytes dec m p x bs h short low all spells =
    let e : length bs + (15 - length bs) ≡ 15 = omega arith in
    let f = fetch_front m p bs (15 - length bs) h in
    let whole : fetch m p 15 ≡ bs ++ f.0 = ap (fetch m p) (sym e) ∙ f.1 in
    let P : List ℕ → Type 0 = λ l. IsTrue (are_bytes l) in
    record { len = length bs; spelled = ap (λ l. dec l p) whole ∙ spells f.0 (bytes_behind bs f.0 (subst P whole all)); ends = mod-eq_of_lt low }
