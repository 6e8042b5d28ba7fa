-- How many steps a run makes, up to a state that passes a test.
use Rattle.std.specs.Prelude.{ℕ, zero, suc, Bool, if◌then◌else◌, is_some}
use Rattle.rz_isa.specs.Nodes.{Decoder}
use Rattle.rz_machine.specs.declared.machine.Machine.{Machine}
use Rattle.rz_machine.specs.State.{after}

-- the least number below n that passes a test; n where none does
abbrev pub least : (ℕ → Bool) → ℕ → ℕ
least test zero = 0
least test (suc n) = if test 0 then 0 else suc (least (λ k. test (suc k)) n)

-- the steps after which a run comes to the first state that passes a test; the limit, where it comes to none before
unfoldable pub steps_until : (Machine → Bool) → Decoder → (limit : ℕ) → Machine → ℕ
steps_until test dec limit s = least (λ k. test (after dec k s)) limit

abbrev pub has_ended : Machine → Bool
has_ended s = is_some s.end

-- those after which it has ended; the limit, where it runs on until then
abbrev pub steps_made : Decoder → (limit : ℕ) → Machine → ℕ
steps_made = steps_until has_ended
