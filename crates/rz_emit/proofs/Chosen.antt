-- Rows are chosen for the instructions of a plan.
use Rattle.std.proofs.Common.{ℕ, List, get_or, Option, Some, None, refl}
use Rattle.std.specs.Prelude.{IsSome, IsSomeAnd, All}
use Rattle.std.proofs.lemmas.Option.{slice_get-get_or}
use Rattle.rz_isa.specs.declared.rows.Row.{Row}
use Rattle.rz_isa.specs.declared.rows.Form.{Form}
use Rattle.rz_isa.specs.declared.rows.Form.TheVariants.{Near, Short}
use Rattle.rz_isa.specs.declared.item_list.Item.{Item}
use Rattle.rz_isa.specs.declared.item_list.Item.TheVariants as item
use Rattle.rz_isa.specs.declared.fragment_list.Fragments.{Fragments}
use Rattle.rz_isa.specs.Canonical.{Chosen, chosen, spelled_at}
use Rattle.rz_isa.specs.Items.{Addresses, slots, label_address}
use Rattle.rz_isa.specs.Plan.{form_at, place, IsPlaced, IsPlan}
use Rattle.rz_emit.specs.Calls.Lengths.{IsChosen}

some_chosen : (at : ℕ) (o : Option Chosen) (P : List ℕ → Type 0) → IsSomeAnd (spelled_at at o) P → IsSome o
some_chosen at None P h = absurd h
some_chosen at (Some c) P h = refl

placed_chosen : (rows : List Row) (at : Addresses) (from : ℕ) (i : Item) (form : Form) → IsPlaced rows at from i form → IsChosen rows i
placed_chosen rows at from (item.Whole x) Near h = some_chosen from (chosen rows Near x) _ h.spelled
placed_chosen rows at from (item.Whole x) Short h = absurd h.reach
placed_chosen rows at from (item.Jump cond to) form h = tt
placed_chosen rows at from (item.Jrcxz to) form h = tt
placed_chosen rows at from (item.Store a to) form h = tt

pub all_chosen : (rows : List Row) (frags : Fragments) (base : ℕ) (forms : List Form) → IsPlan rows frags base forms → All (λ s. IsChosen rows s.item) (slots frags)
all_chosen rows frags base forms plan k d h =
    let s = get_or (slots frags) k d in
    placed_chosen rows (label_address frags (place rows frags base forms) s) (place rows frags base forms k) s.item (form_at forms k) (plan.placed k s (slice_get-get_or (slots frags) k d h))
