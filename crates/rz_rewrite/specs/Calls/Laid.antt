-- What is asked of fragments that are laid out, and what is made of them.
use Rattle.std.specs.Prelude.{◌≡◌, ℕ, ◌^◌, ◌<◌, ◌≤◌, List, All}
use Rattle.rz_isa.specs.declared.rows.Row.{Row}
use Rattle.rz_isa.specs.declared.fragment_list.Fragments.{Fragments}
use Rattle.rz_isa.specs.Items.{slots}
use Rattle.rz_isa.specs.Plan.{code_end, IsPlan, IsLeastPlan}
use Rattle.rz_isa.specs.Sizes.{CanMove}
use Rattle.rz_layout.specs.declared.plan.Layout.{Layout}
use Rattle.rz_layout.specs.Layout.{nodes_of, all_near, AreLow, ArePlaces, IsAscending}
use Rattle.rz_emit.specs.Emitted.{emitted, IsOrdered}
use Rattle.rz_rewrite.specs.declared.added.AddedRange.{AddedRange}
use Rattle.rz_rewrite.specs.declared.code.LaidCode.{LaidCode}
use Rattle.rz_rewrite.specs.Calls.Places.{places_from, routine_in}

-- what the layout and the emission of fragments ask, whose code lies between these addresses
pub record MayLay (rows : List Row) (code stubs : ℕ) (f : Fragments) : Type 0 where
  pub ascending : IsAscending (nodes_of f.list)
  pub near : IsPlan rows f code (all_near f)
  pub ends : code_end rows f code (all_near f) ≤ stubs
  pub low : stubs < 2 ^ 31
  pub items : All (λ s. CanMove s.item) (slots f)
  pub low_stubs : AreLow f.stubs
  pub ordered : IsOrdered f

-- fragments were laid out in such a range and emitted
pub record IsLaid (rows : List Row) (range : AddedRange) (f : Fragments) (code : LaidCode) : Type 0 where
  pub laid : Layout
  pub base : laid.base ≡ range.code
  pub stop : laid.stubs ≡ range.stubs
  pub plan : IsPlan rows f range.code laid.forms
  pub places : ArePlaces rows f range.code laid.forms laid.places
  pub least : IsLeastPlan rows f range.code laid.forms
  pub bytes : code.bytes ≡ emitted rows f laid
  pub spots : code.places ≡ places_from laid.places 0 f.list
  pub routine : code.routine ≡ routine_in laid.places f.routine
