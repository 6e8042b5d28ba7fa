-- What lies in a load ends below 2^63.
use Rattle.std.proofs.Common.{◌≡◌, ℕ, ◌+◌, ◌<◌, ◌≤◌, ◌^◌, Bool, true, false, ◌&&◌, ◌||◌, nat_le, List, [], ◌∷◌, refl, arith}
use Rattle.std.specs.List.{AllByRecursion}
use Rattle.std.proofs.lemmas.Bool.{and_parts, false≢true}
use Rattle.std.proofs.lemmas.Bool.Decides.{nat_tests}
use Rattle.rz_image.specs.Perm.{executes}
use Rattle.rz_elf.specs.declared.elf.Load.{Load}
use Rattle.rz_elf.specs.Loaded.{IsLoad}
use Rattle.rz_syms.specs.Symbols.{is_in_code}

abbrev holds : ℕ → ℕ → Load → Bool
holds lo hi l = executes l.perm && (nat_le l.at lo && nat_le hi (l.at + l.size))

low : (len lo hi : ℕ) (l : Load) → IsLoad len l → holds lo hi l ≡ true → hi < 2 ^ 63
low len lo hi l is h =
    let inside = (and_parts (nat_le l.at lo) (nat_le hi (l.at + l.size)) (and_parts (executes l.perm) _ h).1).1 in
    let below : hi ≤ l.at + l.size = grind (arith, nat_tests, inside) in
    let small = is.low in
    omega (arith, below, small)

pub in_code_low : (len lo hi : ℕ) (loads : List Load) → AllByRecursion (IsLoad len) loads → is_in_code loads lo hi ≡ true → hi < 2 ^ 63
in_code_low len lo hi [] is h = absurd (false≢true h)
in_code_low len lo hi (l ∷ loads) is h = go (holds lo hi l) (is_in_code loads lo hi) (low len lo hi l is.0) (in_code_low len lo hi loads is.1) h
  where
    go : (a b : Bool) → (a ≡ true → hi < 2 ^ 63) → (b ≡ true → hi < 2 ^ 63) → (a || b) ≡ true → hi < 2 ^ 63
    go true b f g e = f refl
    go false b f g e = g e
