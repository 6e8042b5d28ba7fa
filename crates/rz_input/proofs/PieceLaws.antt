-- Bytes in pieces of 32.
use Rattle.std.proofs.Common.{◌≡◌, ℕ, zero, suc, ◌+◌, ◌<◌, ◌≤◌, min, List, [], ◌∷◌, ◌++◌, length, take, drop, length-append, length-drop, map, append-nil, append_assoc, inl, inr, refl, sym, ap, ◌∙◌, arith}
use Rattle.std.specs.Prelude.{flat_map}
use Rattle.std.proofs.lemmas.List.{take_all, drop_all, take_at, drop_at, nil_from_length}
use Rattle.std.proofs.lemmas.Bool.{cases_lt}
use Rattle.std.proofs.lemmas.List.Concat.{flat_map-append}
use Rattle.rz_sys.specs.declared.input.Input.{Input}
use Rattle.rz_sys.specs.declared.input.Reply.{Reply as ReplyOf}
use Rattle.rz_input.specs.declared.entry.Entry.TheVariants.{Arg, Stdin, Reply}
use Rattle.rz_input.specs.Printed.{ended_line, pieces, pieces_within, printed}

-- more pieces than there are bytes change nothing
pieces_within-enough : (n m : ℕ) (bytes : List ℕ) → length bytes ≤ n → length bytes ≤ m → pieces_within n bytes ≡ pieces_within m bytes
pieces_within-enough zero zero bytes h k = refl
pieces_within-enough zero (suc m) [] h k = refl
pieces_within-enough zero (suc m) (b ∷ bs) h k = absurd (omega arith)
pieces_within-enough (suc n) zero [] h k = refl
pieces_within-enough (suc n) zero (b ∷ bs) h k = absurd (omega arith)
pieces_within-enough (suc n) (suc m) [] h k = refl
pieces_within-enough (suc n) (suc m) (b ∷ bs) h k =
    let len = length-drop 32 (b ∷ bs) in
    ap (λ (ps : List (List ℕ)). take 32 (b ∷ bs) ∷ ps) (pieces_within-enough n m (drop 32 (b ∷ bs)) (omega (arith, len)) (omega (arith, len)))

pub pieces-nil : pieces [] ≡ []
unfolding pieces
pieces-nil = refl

pieces-cons : (b : ℕ) (bs : List ℕ) → pieces (b ∷ bs) ≡ take 32 (b ∷ bs) ∷ pieces (drop 32 (b ∷ bs))
unfolding pieces
pieces-cons b bs =
    let len = length-drop 32 (b ∷ bs) in
    ap (λ (ps : List (List ℕ)). take 32 (b ∷ bs) ∷ ps)
    (pieces_within-enough (length bs) (length (drop 32 (b ∷ bs))) (drop 32 (b ∷ bs)) (omega (arith, len)) (omega arith))

front_is : (all piece rest : List ℕ) → all ≡ piece ++ rest → length piece ≡ min 32 (length all) → (take 32 all ≡ piece) × (drop 32 all ≡ rest)
front_is all piece rest e len =
    let joined : length all ≡ length piece + length rest = ap length e ∙ length-append piece rest in
    elim (cases_lt (length all) 32) [
      | inl short ↦
          let none : rest ≡ [] = nil_from_length rest (omega arith) in
          let whole : all ≡ piece = e ∙ ap (λ (r : List ℕ). piece ++ r) none ∙ append-nil piece in
          (take_all 32 all (omega arith) ∙ whole, drop_all 32 all (omega arith) ∙ sym none)
      | inr long ↦
          let full : length piece ≡ 32 = omega arith in
          (ap (take 32) e ∙ take_at piece rest 32 full, ap (drop 32) e ∙ drop_at piece rest 32 full)
    ]

cons_same : (p q bs cs : List ℕ) → p ≡ q → bs ≡ cs → p ∷ pieces bs ≡ q ∷ pieces cs
cons_same p q bs cs e f = rw (e, f) refl

-- the first piece of bytes
pub pieces-front : (all piece rest : List ℕ) → all ≡ piece ++ rest → length piece ≡ min 32 (length all) → 0 < length all
    → pieces all ≡ piece ∷ pieces rest
pieces-front [] piece rest e len some = absurd (omega arith)
pieces-front (b ∷ bs) piece rest e len some =
    let parts = front_is (b ∷ bs) piece rest e len in
    pieces-cons b bs ∙ cons_same (take 32 (b ∷ bs)) piece (drop 32 (b ∷ bs)) rest parts.0 parts.1

-- ---- printing one after another

-- one more is printed
pub printed_more : {X : Type 0} (f : X → List ℕ) (text new whole : List ℕ) (x : X) (xs all : List X)
    → new ≡ text ++ f x → all ≡ x ∷ xs → text ++ flat_map f all ≡ whole → new ++ flat_map f xs ≡ whole
printed_more f text new whole x xs all e split h =
    rw e (append_assoc text (f x) (flat_map f xs)) ∙ (rw split at h)

-- all are printed
pub printed_all : {X : Type 0} (f : X → List ℕ) (text whole : List ℕ) (all : List X) → all ≡ [] → text ++ flat_map f all ≡ whole → text ≡ whole
printed_all f text whole all none h = sym (append-nil text) ∙ (rw none at h)

pub flat_map-map : {X Y : Type 0} (f : Y → List ℕ) (g : X → Y) (xs : List X) → flat_map f (map g xs) ≡ flat_map (λ x. f (g x)) xs
flat_map-map f g [] = refl
flat_map-map f g (x ∷ xs) = ap (λ (ys : List ℕ). f (g x) ++ ys) (flat_map-map f g xs)

abbrev pub arg_lines : List (List ℕ) → List ℕ
arg_lines args = flat_map (λ arg. ended_line (Arg arg)) args

abbrev pub stdin_lines : List ℕ → List ℕ
stdin_lines bytes = flat_map (λ piece. ended_line (Stdin piece)) (pieces bytes)

abbrev pub reply_lines : List ReplyOf → List ℕ
reply_lines replies = flat_map (λ reply. ended_line (Reply reply)) replies

-- the text of an input by its parts
pub printed-parts : (input : Input) → printed input ≡ (arg_lines input.args ++ stdin_lines input.stdin) ++ reply_lines input.replies
printed-parts input =
    let args = map (λ (arg : List ℕ). Arg arg) input.args in
    let stdin = map (λ (bytes : List ℕ). Stdin bytes) (pieces input.stdin) in
    let replies = map (λ (reply : ReplyOf). Reply reply) input.replies in
    let first = flat_map-append ended_line args (stdin ++ replies) in
    let second = flat_map-append ended_line stdin replies in
    let a = flat_map-map ended_line (λ (arg : List ℕ). Arg arg) input.args in
    let b = flat_map-map ended_line (λ (bytes : List ℕ). Stdin bytes) (pieces input.stdin) in
    let c = flat_map-map ended_line (λ (reply : ReplyOf). Reply reply) input.replies in
    rw (first, second, a, b, c) (sym (append_assoc (arg_lines input.args) (stdin_lines input.stdin) (reply_lines input.replies)))
