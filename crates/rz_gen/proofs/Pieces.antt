-- Pieces appended one after the other.
use Rattle.std.proofs.Common.{◌≡◌, ℕ, suc, ◌+◌, List, ◌++◌, sym, ap, ◌∙◌, arith, append_assoc, append-nil}
use Rattle.rz_gen.specs.Code.{each_below}

pub pieces_none : (piece : ℕ → List ℕ) (start : List ℕ) → start ≡ start ++ each_below piece 0
unfolding each_below
pieces_none piece start = sym (append-nil start)

pub pieces_more : (piece : ℕ → List ℕ) (i : ℕ) (start before now : List ℕ) → before ≡ start ++ each_below piece i → now ≡ before ++ piece i → now ≡ start ++ each_below piece (i + 1)
unfolding each_below
pieces_more piece i start before now held added =
    let one : suc i ≡ i + 1 = omega arith in
    added
    ∙ ap (λ t. t ++ piece i) held
    ∙ append_assoc start (each_below piece i) (piece i)
    ∙ ap (λ k. start ++ each_below piece k) one
