-- Conditions and their numbers are one to one.
use Rattle.std.proofs.Common.{◌≡◌, ◌<◌, refl}
use Rattle.std.proofs.Math.Dec.{lit<}
use Rattle.rz_flags.specs.declared.Cond.{Cond}
use Rattle.rz_flags.specs.declared.Cond.TheVariants.{O, NO, B, AE, E, NE, BE, A, S, NS, P, NP, L, GE, LE, G}
use Rattle.rz_flags.specs.Cond.{cond_of, number_of}

-- the condition of a condition's number
pub cond_of-number_of : (c : Cond) → cond_of (number_of c) ≡ c
cond_of-number_of O = refl
cond_of-number_of NO = refl
cond_of-number_of B = refl
cond_of-number_of AE = refl
cond_of-number_of E = refl
cond_of-number_of NE = refl
cond_of-number_of BE = refl
cond_of-number_of A = refl
cond_of-number_of S = refl
cond_of-number_of NS = refl
cond_of-number_of P = refl
cond_of-number_of NP = refl
cond_of-number_of L = refl
cond_of-number_of GE = refl
cond_of-number_of LE = refl
cond_of-number_of G = refl

-- which is below 16
pub number_of-low : (c : Cond) → number_of c < 16
number_of-low O = lit< tt
number_of-low NO = lit< tt
number_of-low B = lit< tt
number_of-low AE = lit< tt
number_of-low E = lit< tt
number_of-low NE = lit< tt
number_of-low BE = lit< tt
number_of-low A = lit< tt
number_of-low S = lit< tt
number_of-low NS = lit< tt
number_of-low P = lit< tt
number_of-low NP = lit< tt
number_of-low L = lit< tt
number_of-low GE = lit< tt
number_of-low LE = lit< tt
number_of-low G = lit< tt
