-- Laws of plans and of the order of items.
use Rattle.std.specs.Prelude.{◌≡◌, ℕ, ◌≤◌, List}
use Rattle.rz_isa.specs.declared.rows.Row.{Row}
use Rattle.rz_isa.specs.declared.rows.Form.{Form}
use Rattle.rz_isa.specs.declared.item_list.Item.{Item}
use Rattle.rz_isa.specs.declared.item_list.Label.{Label}
use Rattle.rz_isa.specs.declared.item_list.Slot.{Slot}
use Rattle.rz_isa.specs.declared.fragment_list.Fragments.{Fragments}
use Rattle.rz_isa.specs.Items.{label_number}
use Rattle.rz_isa.specs.Plan.{form_at, item_len, place, IsPlan, IsLeastPlan}
use Rattle.rz_layout.specs.declared.order.Order.{Order}
use Rattle.rz_layout.specs.Order.{IsOrderOf, number_in}
use Rattle.rz_layout.specs.NearPlan.{CanStand, StandsNear}

-- two least plans are the same
abbrev pub LeastPlansAreOne : Type 0
LeastPlansAreOne =
    (rows : List Row) (frags : Fragments) (base : ℕ) (a b : List Form)
    → IsPlan rows frags base a → IsLeastPlan rows frags base a
    → IsPlan rows frags base b → IsLeastPlan rows frags base b → a ≡ b

-- no item is at a lower place in the second than in the first, or shorter
pub record IsNoShorter (rows : List Row) (frags : Fragments) (base : ℕ) (a b : List Form) : Type 0 where
  pub places : (k : ℕ) → place rows frags base a k ≤ place rows frags base b k
  pub items : (k : ℕ) (i : Item) → item_len rows i (form_at a k) ≤ item_len rows i (form_at b k)

abbrev pub LeastIsShortest : Type 0
LeastIsShortest =
    (rows : List Row) (frags : Fragments) (base : ℕ) (forms other : List Form)
    → IsLeastPlan rows frags base forms → IsPlan rows frags base other
    → IsNoShorter rows frags base forms other

-- in the order of fragments' items a label has the number that it has in the fragments
abbrev pub OrderNumbers : Type 0
OrderNumbers =
    (frags : Fragments) (order : Order) (s : Slot) (to : Label)
    → IsOrderOf frags order → number_in order s to ≡ label_number frags s to

-- sized fragments can be laid out with each item near
abbrev pub SizedStandNear : Type 0
SizedStandNear =
    (rows : List Row) (frags : Fragments) (base : ℕ) (most : ℕ → ℕ) (routine : ℕ)
    → CanStand rows frags base most routine → StandsNear rows frags base most routine
