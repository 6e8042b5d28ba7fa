use Rattle.std.specs.Prelude.{ℕ, ◌/◌, ◌%◌, Bool, false, ◌||◌, ◌==◌, List, [], ◌∷◌, slice_get, unwrap_or}
use Rattle.rz_num.specs.Signs.{differ}
use Rattle.rz_flags.specs.declared.Flags.{Flags}
use Rattle.rz_flags.specs.declared.Cond.{Cond}
use Rattle.rz_flags.specs.declared.Cond.TheVariants.{O, NO, B, AE, E, NE, BE, A, S, NS, P, NP, L, GE, LE, G}

-- the conditions in the order of their numbers (Intel SDM, volume 2, appendix B.1)
abbrev pub conditions : List Cond
conditions = O ∷ NO ∷ B ∷ AE ∷ E ∷ NE ∷ BE ∷ A ∷ S ∷ NS ∷ P ∷ NP ∷ L ∷ GE ∷ LE ∷ G ∷ []

-- the condition of a number below 16
abbrev pub cond_of : ℕ → Cond
cond_of n = unwrap_or (slice_get conditions n) O

abbrev pub number_of : Cond → ℕ
number_of O = 0
number_of NO = 1
number_of B = 2
number_of AE = 3
number_of E = 4
number_of NE = 5
number_of BE = 6
number_of A = 7
number_of S = 8
number_of NS = 9
number_of P = 10
number_of NP = 11
number_of L = 12
number_of GE = 13
number_of LE = 14
number_of G = 15

-- the eight tests, in the order of the numbers halved: the condition of an even number is one of them, and that of the
-- odd number after it is its negation
abbrev pub tests : Flags → List Bool
tests f = f.of ∷ f.cf ∷ f.zf ∷ (f.cf || f.zf) ∷ f.sf ∷ f.pf ∷ differ f.sf f.of ∷ (f.zf || differ f.sf f.of) ∷ []

-- whether a condition holds of the flags
abbrev pub holds : Cond → Flags → Bool
holds c f = differ (number_of c % 2 == 1) (unwrap_or (slice_get (tests f) (number_of c / 2)) false)
