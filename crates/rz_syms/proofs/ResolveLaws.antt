-- Class texts line by line.
use Rattle.std.proofs.Common.{◌≡◌, ◌≢◌, ℕ, ◌+◌, ◌<◌, ◌≤◌, ◌==◌, Bool, true, false, cond, if◌then◌else◌, nat_lt, List, [], ◌∷◌, ◌++◌, length, take, drop, map, get_or, Some, None, refl, sym, ap, ap₂, ◌∙◌, arith, append_assoc}
use Rattle.std.specs.Prelude.{position, bytes_eq}
use Rattle.std.proofs.lemmas.Bool.{lt-ltb}
use Rattle.std.proofs.lemmas.Bool.Decides.{nat_tests}
use Rattle.std.specs.List.{AllByRecursion, slice_split, join_with_byte, position_or_len}
use Rattle.std.proofs.lemmas.List.{drop_more}
use Rattle.std.proofs.lemmas.List.Elements.{All-from_get_or}
use Rattle.std.proofs.lemmas.List.Splits.{slice_split_first, slice_split_none, length-slice_split, join_with_byte-slice_split}
use Rattle.rz_text.specs.Lines.{words}
use Rattle.rz_text.specs.Laws.Places.{position-some, position-none}
use Rattle.rz_syms.specs.declared.function.Function.{Function}
use Rattle.rz_syms.specs.Resolved.{NamesNone, bad_line, begins_with_fs, behind_first, first_named, named_line, resolved, resolved_line, resolved_lines}

-- ---- the first function of a name

pub named_here : (fs : List Function) (i : ℕ) (name : List ℕ) (d f : Function) → i < length fs → f ≡ get_or fs i d → bytes_eq f.name name ≡ true → first_named (drop i fs) name ≡ first_named fs name → Some f ≡ first_named fs name
named_here fs i name d f lt is same held =
    let found : first_named (f ∷ drop (i + 1) fs) name ≡ Some f = ap (λ b. cond b (Some f) (first_named (drop (i + 1) fs) name)) same in
    sym found ∙ ap (λ (g : Function). first_named (g ∷ drop (i + 1) fs) name) is ∙ ap (λ l. first_named l name) (sym (drop_more fs i d lt)) ∙ held

pub named_later : (fs : List Function) (i : ℕ) (name : List ℕ) (d f : Function) → i < length fs → f ≡ get_or fs i d → bytes_eq f.name name ≡ false → first_named (drop i fs) name ≡ first_named fs name → first_named (drop (i + 1) fs) name ≡ first_named fs name
named_later fs i name d f lt is other held =
    let passed : first_named (f ∷ drop (i + 1) fs) name ≡ first_named (drop (i + 1) fs) name = ap (λ b. cond b (Some f) (first_named (drop (i + 1) fs) name)) other in
    sym passed ∙ ap (λ (g : Function). first_named (g ∷ drop (i + 1) fs) name) is ∙ ap (λ l. first_named l name) (sym (drop_more fs i d lt)) ∙ held

-- ---- lines

joined : (piece : List ℕ) (pieces : List (List ℕ)) → 0 < length pieces → join_with_byte 10 (piece ∷ pieces) ≡ piece ++ 10 ∷ join_with_byte 10 pieces
joined piece [] some = absurd (omega arith)
joined piece (next ∷ more) some = refl

length_map : (f : List ℕ → List ℕ) (pieces : List (List ℕ)) → length (map f pieces) ≡ length pieces
length_map f [] = refl
length_map f (p ∷ pieces) = let ih = length_map f pieces in omega (arith, ih)

-- a text with a line end: its first line, and the others
pub lines_first : (fs : List Function) (text : List ℕ) (i : ℕ) → position (λ b. b == 10) text ≡ Some i → resolved_lines fs text ≡ resolved_line fs (take i text) ++ 10 ∷ resolved_lines fs (drop (i + 1) text)
unfolding resolved_lines
lines_first fs text i h =
    let at = position-some (λ (b : ℕ). b == 10) text i h in
    let below : position_or_len (λ (b : ℕ). b == 10) text < length text = omega (arith, at.0, at.1) in
    let rest : List (List ℕ) = slice_split (λ b. b == 10) (drop (i + 1) text) in
    let split : slice_split (λ (b : ℕ). b == 10) text ≡ take i text ∷ rest = rw (← at.0) (slice_split_first (λ (b : ℕ). b == 10) text 0 below) in
    let count = length-slice_split (λ (b : ℕ). b == 10) (drop (i + 1) text) in
    let len = length_map (resolved_line fs) rest in
    ap (λ pieces. join_with_byte 10 (map (resolved_line fs) pieces)) split
    ∙ joined (resolved_line fs (take i text)) (map (resolved_line fs) rest) (omega (arith, count, len))

-- a text without one
lines_one : (fs : List Function) (text : List ℕ) → position (λ b. b == 10) text ≡ None → resolved_lines fs text ≡ resolved_line fs text
unfolding resolved_lines
lines_one fs text h =
    ap (λ pieces. join_with_byte 10 (map (resolved_line fs) pieces))
    (slice_split_none (λ (b : ℕ). b == 10) text (All-from_get_or (λ (b : ℕ). (b == 10) ≡ false) text 0 (position-none (λ (b : ℕ). b == 10) text 0 h)))

pub lines_turn : (fs : List Function) (text : List ℕ) (i : ℕ) (out line ended whole : List ℕ) → position (λ b. b == 10) text ≡ Some i → line ≡ out ++ resolved_line fs (take i text) → ended ≡ line ++ 10 ∷ []
    → out ++ resolved_lines fs text ≡ whole → ended ++ resolved_lines fs (drop (i + 1) text) ≡ whole
lines_turn fs text i out line ended whole h pushed end held =
    let rest = resolved_lines fs (drop (i + 1) text) in
    ap (λ l. l ++ rest) (end ∙ ap (λ l. l ++ 10 ∷ []) pushed)
    ∙ append_assoc (out ++ resolved_line fs (take i text)) (10 ∷ []) rest
    ∙ append_assoc out (resolved_line fs (take i text)) (10 ∷ rest)
    ∙ ap (λ l. out ++ l) (sym (lines_first fs text i h))
    ∙ held

pub lines_last : (fs : List Function) (text out now whole : List ℕ) → position (λ b. b == 10) text ≡ None → now ≡ out ++ resolved_line fs text → out ++ resolved_lines fs text ≡ whole → now ≡ whole
lines_last fs text out now whole h pushed held =
    pushed ∙ ap (λ l. out ++ l) (sym (lines_one fs text h)) ∙ held

-- a line of another number of words says nothing
pub not_three : (fs : List Function) (ws : List (List ℕ)) → length ws ≢ 3 → named_line fs (behind_first ws) ≡ bad_line
not_three fs [] other = refl
not_three fs (a ∷ []) other = refl
not_three fs (a ∷ b ∷ []) other = refl
not_three fs (a ∷ b ∷ d ∷ []) other = absurd (other refl)
not_three fs (a ∷ b ∷ d ∷ e ∷ ws) other = refl

-- a line that begins with another word stays
pub line_stays : (fs : List Function) (line : List ℕ) → begins_with_fs (words line) ≡ false → resolved_line fs line ≡ line
unfolding resolved_line
line_stays fs line h = ap (λ b. if b then named_line fs (behind_first (words line)) else line) h

pub line_named : (fs : List Function) (line : List ℕ) → begins_with_fs (words line) ≡ true → resolved_line fs line ≡ named_line fs (behind_first (words line))
unfolding resolved_line
line_named fs line h = ap (λ b. if b then named_line fs (behind_first (words line)) else line) h

-- a text by its length
pub resolved_long : (fs : List Function) (text : List ℕ) → 16777216 < length text → resolved fs text ≡ text
unfolding resolved
resolved_long fs text h =
    let long : nat_lt 16777216 (length text) ≡ true = lt-ltb 16777216 (length text) h in
    ap (λ b. if b then text else resolved_lines fs text) long

pub resolved_short : (fs : List Function) (text : List ℕ) → length text ≤ 16777216 → resolved fs text ≡ resolved_lines fs text
unfolding resolved
resolved_short fs text h =
    let short : nat_lt 16777216 (length text) ≡ false = grind (arith, nat_tests, h) in
    ap (λ b. if b then text else resolved_lines fs text) short

-- a text in which no line begins with `fs` stays
stay : (fs : List Function) (pieces : List (List ℕ)) → AllByRecursion (λ line. begins_with_fs (words line) ≡ false) pieces → map (resolved_line fs) pieces ≡ pieces
stay fs [] h = refl
stay fs (line ∷ pieces) h = ap₂ (λ l ls. l ∷ ls) (line_stays fs line h.0) (stay fs pieces h.1)

pub resolved_without_fs : (fs : List Function) (text : List ℕ) → NamesNone text → resolved fs text ≡ text
unfolding resolved resolved_lines
resolved_without_fs fs text h = go (nat_lt 16777216 (length text))
  where
    same : join_with_byte 10 (map (resolved_line fs) (slice_split (λ b. b == 10) text)) ≡ text
    same = ap (join_with_byte 10) (stay fs (slice_split (λ b. b == 10) text) h) ∙ join_with_byte-slice_split 10 text

    go : (b : Bool) → (if b then text else join_with_byte 10 (map (resolved_line fs) (slice_split (λ b. b == 10) text))) ≡ text
    go true = refl
    go false = same
