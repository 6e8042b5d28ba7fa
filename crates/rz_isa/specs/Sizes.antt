-- The size of items: what can be laid out, and what items take that stand one after the other with every jump near.
use Rattle.std.specs.Prelude.{◌≡◌, ℕ, ◌+◌, ◌^◌, ◌<◌, ◌≤◌, nat_le, Bool, true, false, List, [], ◌∷◌, length, take, Some, None, IsTrue, IsSomeAnd, if◌then◌else◌}
use Rattle.std.specs.List.{AllByRecursion}
use Rattle.rz_isa.specs.declared.rows.Row.{Row}
use Rattle.rz_isa.specs.declared.rows.Form.TheVariants.{Near}
use Rattle.rz_isa.specs.declared.item_list.Label.{Label}
use Rattle.rz_isa.specs.declared.item_list.Label.TheVariants as label
use Rattle.rz_isa.specs.declared.item_list.Item.{Item}
use Rattle.rz_isa.specs.declared.item_list.Item.TheVariants as item
use Rattle.rz_isa.specs.Insn.{target_of}
use Rattle.rz_isa.specs.Targets.{NamesLow}
use Rattle.rz_isa.specs.Items.{Addresses}
use Rattle.rz_isa.specs.Plan.{item_len, is_inner, IsPlaced}

-- ---- what can be laid out

-- a label in the code or of a stub
abbrev pub is_code : Label → Bool
is_code (label.Table a) = false
is_code to = true

-- an instruction has no direct target, and what it names relative to RIP is low;
-- a jump leads into the code or to a stub, JRCXZ into the code
abbrev pub CanMove : Item → Type 0
CanMove (item.Whole x) = (target_of x ≡ None) × NamesLow x
CanMove (item.Jump cond to) = IsTrue (is_code to)
CanMove (item.Jrcxz to) = IsTrue (is_code to) × IsTrue (is_inner to)
CanMove (item.Store a to) = Unit {0}

-- ---- items one after the other, every jump near

-- how many bytes they take
abbrev pub near_len : List Row → List Item → ℕ
near_len rows [] = 0
near_len rows (i ∷ rest) = item_len rows i Near + near_len rows rest

-- what labels name in items that stand from an address on; `at` says what those name that aren't of the list
abbrev pub near_address : List Row → List Item → ℕ → Addresses → Addresses
near_address rows items from at (label.Item k) =
    if nat_le k (length items) then Some (from + near_len rows (take k items)) else None
near_address rows items from at to = at to

-- each item is placed
abbrev pub AllPlaced : List Row → Addresses → ℕ → List Item → Type 0
AllPlaced rows at from [] = Unit {0}
AllPlaced rows at from (i ∷ rest) = IsPlaced rows at from i Near × AllPlaced rows at (from + item_len rows i Near) rest

-- ---- labels of items

-- what holds of an item's label, if it has one
abbrev pub OfLabel : (Label → Type 0) → Item → Type 0
OfLabel P (item.Whole x) = Unit {0}
OfLabel P (item.Jump cond to) = P to
OfLabel P (item.Jrcxz to) = P to
OfLabel P (item.Store a to) = P to

-- a label that names no item of its own list names a low address
abbrev pub IsLow : Addresses → Label → Type 0
IsLow at (label.Item k) = Unit {0}
IsLow at to = IsSomeAnd (at to) (λ p. p < 2 ^ 31)

-- a label that names an item of its own list names one of so many
abbrev pub IsOneOf : ℕ → Label → Type 0
IsOneOf count (label.Item k) = k < count
IsOneOf count to = Unit {0}

-- ---- the size

-- items that take at most so many bytes, can be laid out, and stand at every address from which they end
-- below 2^31, where their labels name low addresses
pub record IsSized (rows : List Row) (items : List Item) (most : ℕ) : Type 0 where
  pub can_move : AllByRecursion CanMove items
  pub own : AllByRecursion (OfLabel (IsOneOf (length items))) items
  pub few : near_len rows items ≤ most
  pub placed : (at : Addresses) (from : ℕ) → AllByRecursion (OfLabel (IsLow at)) items → from + near_len rows items < 2 ^ 31
      → AllPlaced rows (near_address rows items from at) from items
