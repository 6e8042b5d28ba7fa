-- Lists of zeros.
use Rattle.std.proofs.Common.{◌≡◌, ℕ, zero, suc, ◌+◌, true, ◌==◌, List, [], ◌∷◌, ◌++◌, length, refl, ap₂, eqb-true}
use Rattle.std.specs.List.{list_all}
use Rattle.std.proofs.lemmas.Bool.{and_parts}
use Rattle.std.proofs.lemmas.List.{length-replicate, replicate-append-replicate}
use Rattle.rz_image.specs.Memory.{zeros}

pub length-zeros : (n : ℕ) → length (zeros n) ≡ n
unfolding zeros
length-zeros n = length-replicate n 0

pub zeros-append-zeros : (n m : ℕ) → zeros n ++ zeros m ≡ zeros (n + m)
unfolding zeros
zeros-append-zeros n m = replicate-append-replicate n m 0

pub zeros-pass : (n : ℕ) → list_all (λ b. b == 0) (zeros n) ≡ true
unfolding zeros
zeros-pass zero = refl
zeros-pass (suc n) = zeros-pass n

pub zeros-where_pass : (l : List ℕ) → list_all (λ b. b == 0) l ≡ true → l ≡ zeros (length l)
unfolding zeros
zeros-where_pass [] h = refl
zeros-where_pass (b ∷ bs) h =
    let p = and_parts (b == 0) (list_all (λ b. b == 0) bs) h in
    ap₂ ◌∷◌ (eqb-true b 0 p.0) (zeros-where_pass bs p.1)
