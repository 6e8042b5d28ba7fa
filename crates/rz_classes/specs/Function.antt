-- Listed functions and their ranges.
use Rattle.std.specs.Prelude.{◌≡◌, ℕ, ◌^◌, ◌<◌, ◌&&◌, ◌==◌, Bool, false, nat_lt, List, length, position, All, AllPairs}
use Rattle.std.specs.BTreeMap.{BTreeMap, get}
use Rattle.std.specs.Ordering.{nat_cmp}
use Rattle.rz_classes.specs.declared.listed.Function.{Function}

-- whether two ranges have an address in common
abbrev pub meets : Function → Function → Bool
meets f g = nat_lt f.lo g.hi && nat_lt g.lo f.hi

-- no two ranges have an address in common, and none is empty
pub record AreApart (functions : List Function) : Type 0 where
  pub apart : AllPairs (λ f g. meets f g ≡ false) functions
  pub ordered : All (λ f. f.lo < f.hi) functions

-- the places of the functions by their starts
pub record IsIndexed (functions : List Function) (starts : BTreeMap ℕ ℕ) : Type 0 where
  pub ranges : AreApart functions
  pub few : length functions < 2 ^ 32
  pub places : (a : ℕ) → get nat_cmp starts a ≡ position (λ f. f.lo == a) functions
