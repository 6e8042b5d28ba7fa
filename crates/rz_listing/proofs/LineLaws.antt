-- Listings line by line.
use Rattle.std.proofs.Common.{◌≡◌, ℕ, suc, ◌+◌, ◌-◌, ◌<◌, List, ◌++◌, Option, Some, None, sym, ap, ◌∙◌, arith, append_assoc, append-nil}
use Rattle.rz_isa.specs.Nodes.{Decoder, Code, spelled_at}
use Rattle.rz_listing.specs.Listing.{line_of, next_of, behind, listing}

-- the line of an address
abbrev pub line_at : Decoder → Code → ℕ → List ℕ
line_at decoder code at = line_of (spelled_at decoder code at) (code at) at

-- and the address behind it
abbrev pub next_at : Decoder → Code → ℕ → Option ℕ
next_at decoder code at = next_of (spelled_at decoder code at) at

-- a listing of one line or more
pub first_line : (decoder : Decoder) (code : Code) (n i at : ℕ) → i < n → listing decoder code (n - i) at ≡ line_at decoder code at ++ behind (listing decoder code (n - (i + 1))) (next_at decoder code at)
unfolding listing
first_line decoder code n i at lt =
    let one : n - i ≡ suc (n - (i + 1)) = omega arith in ap (λ k. listing decoder code k at) one

-- a line that another follows
pub line_turn : (decoder : Decoder) (code : Code) (n i at next : ℕ) (before now whole : List ℕ) → i < n → before ++ listing decoder code (n - i) at ≡ whole → now ≡ before ++ line_at decoder code at → Some next ≡ next_at decoder code at → now ++ listing decoder code (n - (i + 1)) next ≡ whole
line_turn decoder code n i at next before now whole lt held added there =
    let rest = listing decoder code (n - (i + 1)) in
    ap (λ t. t ++ rest next) added
    ∙ append_assoc before (line_at decoder code at) (rest next)
    ∙ ap (λ o. before ++ (line_at decoder code at ++ behind rest o)) there
    ∙ ap (λ t. before ++ t) (sym (first_line decoder code n i at lt))
    ∙ held

-- the last line
pub last_line : (decoder : Decoder) (code : Code) (n i at : ℕ) (before now whole : List ℕ) → i < n → before ++ listing decoder code (n - i) at ≡ whole → now ≡ before ++ line_at decoder code at → None ≡ next_at decoder code at → now ≡ whole
last_line decoder code n i at before now whole lt held added there =
    let rest = listing decoder code (n - (i + 1)) in
    added
    ∙ ap (λ t. before ++ t) (sym (append-nil (line_at decoder code at)))
    ∙ ap (λ o. before ++ (line_at decoder code at ++ behind rest o)) there
    ∙ ap (λ t. before ++ t) (sym (first_line decoder code n i at lt))
    ∙ held

-- no line is left
pub no_line : (decoder : Decoder) (code : Code) (n i at : ℕ) (now whole : List ℕ) → n - i ≡ 0 → now ++ listing decoder code (n - i) at ≡ whole → now ≡ whole
unfolding listing
no_line decoder code n i at now whole none held =
    sym (append-nil now) ∙ ap (λ k. now ++ listing decoder code k at) (sym none) ∙ held
