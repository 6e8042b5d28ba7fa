-- The verdict on a new file: whether its run does what the old file's run does, on the same input.
use Rattle.std.specs.Prelude.{ℕ, ◌+◌, ◌*◌, Bool, true, false, ◌&&◌, ◌||◌, if◌then◌else◌, nat_eq, nat_lt, ◌==◌, List, [], ◌∷◌, length, Option, Some, None, is_some}
use Rattle.std.specs.List.{starts_with}
use Rattle.std.specs.Cmp.Lexicographic.{pointwise}
use Rattle.rz_elf.specs.Executable.{executable_size}
use Rattle.rz_elf.specs.Loaded.{ElfFile}
use Rattle.rz_isa.specs.Nodes.{Decoder}
use Rattle.rz_sys.specs.declared.event.Event.{Event}
use Rattle.rz_sys.specs.declared.input.Input.{Input}
use Rattle.rz_machine.specs.declared.machine.End.{End}
use Rattle.rz_machine.specs.declared.machine.End.TheVariants as end
use Rattle.rz_machine.specs.declared.machine.Machine.{Machine}
use Rattle.rz_machine.specs.Start.{first_state}
use Rattle.rz_machine.specs.State.{after}
use Rattle.rz_machine.specs.Stub.{stub_word_of}
use Rattle.rz_machine.specs.Until.{steps_until}
use Rattle.rz_replay.specs.declared.compare.Ran.{Ran}
use Rattle.rz_replay.specs.declared.compare.Verdict.{Verdict}
use Rattle.rz_replay.specs.declared.compare.Verdict.TheVariants as verdict

-- ---- what two runs came to

-- the same system call: its number, its arguments, its answer, and the bytes that it moved
abbrev pub same_event : Event → Event → Bool
same_event a b =
    a.number == b.number && pointwise nat_eq a.args b.args && a.answer == b.answer && pointwise nat_eq a.bytes b.bytes

-- the same end; the addresses in Fetch, Unknown and Illegal are aside, since the files have their code at different places
abbrev pub same_end : End → End → Bool
same_end (end.Exit a) (end.Exit b) = a == b
same_end (end.Memory a) (end.Memory b) = a == b
same_end (end.Fetch a) (end.Fetch b) = true
same_end (end.Unknown a) (end.Unknown b) = true
same_end (end.Illegal a) (end.Illegal b) = true
same_end end.Divide end.Divide = true
same_end end.Halted end.Halted = true
same_end end.Break end.Break = true
same_end end.Popped end.Popped = true
same_end _ _ = false

-- both run on, the new one with a prefix of the old one's events; or both ended, with the same events and the same end
abbrev pub agree : (old new : Ran) → Bool
agree old new = go old.end new.end
  where
    go : Option End → Option End → Bool
    go None None = starts_with same_event old.events new.events
    go (Some why) (Some why') = pointwise same_event old.events new.events && same_end why why'
    go _ _ = false

-- the first place, from 1, where two lists of events differ: one past the shorter, or one past both, where none does before
abbrev pub first_difference : List Event → List Event → ℕ
first_difference [] ys = 1
first_difference (x ∷ xs) [] = 1
first_difference (x ∷ xs) (y ∷ ys) = if same_event x y then 1 + first_difference xs ys else 1

-- an end of the new run at a stub outranks all else
abbrev pub verdict_at : (stub : Option ℕ) (old new : Ran) → Verdict
verdict_at (Some word) old new = verdict.Stub word
verdict_at None old new =
    if agree old new then verdict.Same (length old.events) else verdict.Differ (first_difference old.events new.events)

-- ---- how far the new file is run

-- a run has ended, or has made more than so many system calls
abbrev pub is_decided : ℕ → Machine → Bool
is_decided calls s = is_some s.end || nat_lt calls (length s.world.events)

-- a run until then, of n steps at most
unfoldable pub until_decided : Decoder → (calls n : ℕ) → Machine → Machine
until_decided dec calls n s = after dec (steps_until (is_decided calls) dec n s) s

-- the new run: where the old one still runs, after as many steps; where it ended, until the new one has ended too or has
-- made more system calls, for 64 steps, and one more for each byte of its code, in place of each step of the limit
abbrev pub new_run : Decoder → (limit : ℕ) → (new : ElfFile) → (old : Ran) → Machine → Machine
new_run dec limit new old s = go old.end
  where
    go : Option End → Machine
    go None = after dec limit s
    go (Some why) = until_decided dec (length old.events) (limit * (64 + executable_size new)) s

-- ---- the verdict

abbrev pub ran_of : Machine → Ran
ran_of s = record { events = s.world.events; end = s.end }

-- the old file is run for `limit` steps at most
unfoldable pub verdict_of : Decoder → (old new : ElfFile) → (limit : ℕ) → Input → Verdict
verdict_of dec old new limit input =
    let o = ran_of (after dec limit (first_state old input)) in
    let n = new_run dec limit new o (first_state new input) in
    verdict_at (stub_word_of new n) o (ran_of n)
