-- Fragments that can be laid out with each item in the form Near.
use Rattle.std.specs.Prelude.{ℕ, ◌+◌, ◌^◌, ◌<◌, ◌≤◌, List, [], ◌∷◌, ◌++◌, length, IsSome, IsSomeAnd, All}
use Rattle.std.specs.List.{AllByRecursion}
use Rattle.rz_isa.specs.declared.rows.Row.{Row}
use Rattle.rz_isa.specs.declared.item_list.Label.{Label}
use Rattle.rz_isa.specs.declared.item_list.Label.TheVariants as label
use Rattle.rz_isa.specs.declared.item_list.Item.{Item}
use Rattle.rz_isa.specs.declared.fragment_list.Fragment.{Fragment}
use Rattle.rz_isa.specs.declared.fragment_list.Fragments.{Fragments}
use Rattle.rz_isa.specs.Items.{slots, item_count, first_number, fragment_number, beside}
use Rattle.rz_isa.specs.Plan.{code_end, IsPlan}
use Rattle.rz_isa.specs.Sizes.{CanMove, OfLabel, IsSized}
use Rattle.rz_layout.specs.Layout.{all_near}

-- a label of a fragment or of the routine, of a stub or a table at a low address, or of the own list
abbrev pub IsKnown : Fragments → Label → Type 0
IsKnown frags (label.Place a) = IsSome (fragment_number 0 frags.list a)
IsKnown frags (label.Stub a) = IsSomeAnd (beside frags.stubs a) (λ p. p < 2 ^ 31)
IsKnown frags (label.Item k) = Unit {0}
IsKnown frags (label.Table a) = IsSomeAnd (beside frags.tables a) (λ p. p < 2 ^ 31)
IsKnown frags label.Routine = IsSome (first_number (item_count frags.list) frags.routine)

-- the items of a fragment, or they and one more behind them, are sized, and their labels are known
pub record IsSizedFragment (rows : List Row) (frags : Fragments) (most : ℕ → ℕ) (f : Fragment) : Type 0 where
  pub rest : List Item
  pub few : length rest ≤ 1
  pub sized : IsSized rows (f.items ++ rest) (most f.at)
  pub known : AllByRecursion (OfLabel (IsKnown frags)) (f.items ++ rest)

-- what fragments take at most, by their addresses
abbrev pub most_total : (ℕ → ℕ) → List Fragment → ℕ
most_total most [] = 0
most_total most (f ∷ rest) = most f.at + most_total most rest

-- sized fragments and a routine that takes at most so many bytes, which end at a low address
pub record CanStand (rows : List Row) (frags : Fragments) (base : ℕ) (most : ℕ → ℕ) (routine : ℕ) : Type 0 where
  pub fragments : AllByRecursion (IsSizedFragment rows frags most) frags.list
  pub routine_sized : IsSized rows frags.routine routine
  pub routine_known : AllByRecursion (OfLabel (IsKnown frags)) frags.routine
  pub low : base + most_total most frags.list + routine < 2 ^ 31

-- they can be laid out with each item near
pub record StandsNear (rows : List Row) (frags : Fragments) (base : ℕ) (most : ℕ → ℕ) (routine : ℕ) : Type 0 where
  pub items : All (λ s. CanMove s.item) (slots frags)
  pub plan : IsPlan rows frags base (all_near frags)
  pub ends : code_end rows frags base (all_near frags) ≤ base + most_total most frags.list + routine
