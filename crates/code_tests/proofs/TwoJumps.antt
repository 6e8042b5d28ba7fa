-- What is asked of fragments and a layout holds of the two worked fragments.
use Rattle.std.proofs.Common.{◌≡◌, ℕ, zero, suc, ◌<◌, ◌≤◌, List, Some, None, refl, subst, arith}
use Rattle.std.specs.Prelude.{slice_get, slice_index}
use Rattle.rz_flags.specs.declared.Cond.TheVariants as cond
use Rattle.rz_isa.specs.declared.rows.Row.{Row}
use Rattle.rz_isa.specs.declared.item_list.Label.TheVariants as label
use Rattle.rz_isa.specs.declared.item_list.Item.TheVariants as item
use Rattle.rz_isa.specs.declared.item_list.Slot.{Slot}
use Rattle.rz_isa.specs.Emitted.{Emits}
use Rattle.rz_isa.specs.Items.{slots}
use Rattle.rz_isa.specs.Plan.{offset, code_end, place, IsPlan, IsPlacedAt}
use Rattle.rz_isa.specs.Laws.NearItems.{near_low}
use Rattle.rz_layout.specs.Layout.{all_near, ArePlaces}
use Rattle.rz_emit.specs.Emitted.{IsOrdered, IsLayoutOf}
use Rattle.code_tests.specs.Calls.TwoJumps.{two_jumps, two_short}

none_is_some : {X : Type 0} (a : X) → None ≡ Some a → ⊥
none_is_some a e = cc

some_is_some : {X : Type 0} (a b : X) → Some a ≡ Some b → a ≡ b
some_is_some a b e = cc

first : Slot
first = record { item = item.Jump None (label.Place 2); first = 0; stop = 1 }

second : Slot
second = record { item = item.Jump (Some cond.E) (label.Place 1); first = 1; stop = 3 }

third : Slot
third = record { item = item.Jump None (label.Stub 2); first = 1; stop = 3 }

-- ---- each item near

near : (rows : List Row) → Emits rows → (k : ℕ) (s : Slot) → slice_get (slots two_jumps) k ≡ Some s → IsPlacedAt rows two_jumps 65536 (all_near two_jumps) k s
unfolding first second third offset
near rows emits zero s is =
    subst (λ s. IsPlacedAt rows two_jumps 65536 (all_near two_jumps) 0 s) (some_is_some first s is)
    (record { reach = tt; spelled = emits.jmp 65541 65536 (omega arith) (near_low 65536 5 65541 (omega arith) (omega arith)) })
near rows emits (suc zero) s is =
    subst (λ s. IsPlacedAt rows two_jumps 65536 (all_near two_jumps) 1 s) (some_is_some second s is)
    (record { reach = tt; spelled = emits.jcc cond.E 65536 65541 (omega arith) (near_low 65541 6 65536 (omega arith) (omega arith)) })
near rows emits (suc (suc zero)) s is =
    subst (λ s. IsPlacedAt rows two_jumps 65536 (all_near two_jumps) 2 s) (some_is_some third s is)
    (record { reach = tt; spelled = emits.jmp 0x10028 65547 (omega arith) (near_low 65547 5 0x10028 (omega arith) (omega arith)) })
near rows emits (suc (suc (suc k))) s is = absurd (none_is_some s is)

pub two_near : (rows : List Row) → Emits rows → IsPlan rows two_jumps 65536 (all_near two_jumps)
two_near rows emits = record { each = refl; placed = near rows emits }

pub two_end : (rows : List Row) → code_end rows two_jumps 65536 (all_near two_jumps) ≤ 69632
unfolding offset
two_end rows = omega arith

-- ---- the jumps to each other short

placed : (rows : List Row) → Emits rows → (k : ℕ) (s : Slot) → slice_get (slots two_jumps) k ≡ Some s → IsPlacedAt rows two_jumps 65536 two_short.forms k s
unfolding first second third offset
placed rows emits zero s is =
    subst (λ s. IsPlacedAt rows two_jumps 65536 two_short.forms 0 s) (some_is_some first s is)
    (record { reach = (refl, record { forward = omega arith; backward = omega arith }); spelled = emits.jmp_short 65538 65536 (omega arith) refl })
placed rows emits (suc zero) s is =
    subst (λ s. IsPlacedAt rows two_jumps 65536 two_short.forms 1 s) (some_is_some second s is)
    (record { reach = (refl, record { forward = omega arith; backward = omega arith }); spelled = emits.jcc_short cond.E 65536 65538 (omega arith) refl })
placed rows emits (suc (suc zero)) s is =
    subst (λ s. IsPlacedAt rows two_jumps 65536 two_short.forms 2 s) (some_is_some third s is)
    (record { reach = tt; spelled = emits.jmp 0x10028 65540 (omega arith) refl })
placed rows emits (suc (suc (suc k))) s is = absurd (none_is_some s is)

place_at : (rows : List Row) (k : ℕ) → k < 3 → slice_index two_short.places k ≡ place rows two_jumps 65536 two_short.forms k
unfolding offset
place_at rows zero h = refl
place_at rows (suc zero) h = refl
place_at rows (suc (suc zero)) h = refl
place_at rows (suc (suc (suc k))) h = absurd (omega arith)

places : (rows : List Row) → ArePlaces rows two_jumps 65536 two_short.forms two_short.places
places rows = record { each = refl; at = place_at rows }

pub two_laid : (rows : List Row) → Emits rows → IsLayoutOf rows two_jumps two_short
unfolding offset
two_laid rows emits = record { plan = record { each = refl; placed = placed rows emits }; places = places rows; ends = omega arith }

pub two_ordered : IsOrdered two_jumps
two_ordered = record { fragments = ((omega arith, tt), (tt, tt)); stubs = ((omega arith, tt), (tt, tt)); tables = tt }
