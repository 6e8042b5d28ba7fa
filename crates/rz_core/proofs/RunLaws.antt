-- The run of a file on an input, from its opening state to its text.
use Rattle.std.proofs.Common.{◌≡◌, ℕ, List, Option, Some, None, length, refl, sym, ap, ap₂, subst, ◌∙◌}
use Rattle.rz_sys.specs.declared.input.Input.{Input}
use Rattle.rz_elf.specs.Loaded.{ElfFile, IsRead, loaded}
use Rattle.rz_machine.specs.declared.machine.Machine.{Machine}
use Rattle.rz_machine.specs.Start.{start}
use Rattle.rz_machine.specs.State.{after}
use Rattle.rz_machine.specs.Stub.{stub_word_of}
use Rattle.rz_replay.specs.RunText.{run_text_of}
use Rattle.rz_core.specs.Decoding.{decode_profile}
use Rattle.rz_core.specs.Command.{IsDoneBy}
use Rattle.rz_core.specs.Ran.{ran, stop_of, RunEnds, ran_text, run_work}
use Rattle.rz_core.specs.Reading.{Read, exe_of, input_in}
use Rattle.rz_core.specs.Calls.Running.{IsRan, status_at}
use Rattle.rz_core.specs.declared.outcome.Outcome.{Outcome}
use Rattle.rz_core.specs.declared.status.Status.{Status}
use Rattle.rz_core.specs.Statuses.{Done, kind_of}
use Rattle.rz_core.specs.Calls.Outcomes.{IsSaid}
use Rattle.rz_core.proofs.MadeLaws.{traced_is}

-- a machine that came from the opening state of what was read of a file
module _ (elf : ElfFile) (is : IsRead elf) (limit : ℕ) (input : Input) (opened came : Machine) (open_is : opened ≡ start (loaded elf) input) (after_is : came ≡ after decode_profile limit opened) where
  pub came_is : came ≡ ran limit elf.bytes input
  came_is = after_is ∙ ap (λ (s : Machine). after decode_profile limit s) (open_is ∙ traced_is elf is input)

  stop_is : (stop : Option ℕ) → stop ≡ stub_word_of elf came → stop_of limit elf.bytes input ≡ stop
  stop_is stop e = ap₂ (λ (f : ElfFile) (s : Machine). stub_word_of f s) (sym is.read) (sym came_is) ∙ sym e

  text_is : (text : List ℕ) → text ≡ run_text_of elf came → text ≡ ran_text limit elf.bytes input
  text_is text e = e ∙ ap₂ (λ (f : ElfFile) (s : Machine). run_text_of f s) is.read came_is

  abbrev stop_of_run : Option ℕ
  stop_of_run = stop_of limit elf.bytes input

  pub is_ran : (stop : Option ℕ) (text : List ℕ) (o : Outcome) → stop ≡ stub_word_of elf came → text ≡ run_text_of elf came → IsSaid (status_at stop) text o
      → IsRan limit elf.bytes input o
  is_ran stop text o stop_of text_of said = by stop (stop_is stop stop_of) said
    where
      ends : (stop : Option ℕ) → stop_of_run ≡ stop → RunEnds limit elf.bytes input (status_at stop)
      ends None e = e
      ends (Some source) e = e

      kinds : (stop : Option ℕ) → kind_of (status_at stop) ≡ Done
      kinds None = refl
      kinds (Some source) = refl

      by : (stop : Option ℕ) → stop_of_run ≡ stop → IsSaid (status_at stop) text o → IsRan limit elf.bytes input o
      by stop e said = record {
        ends = subst (λ (st : Status). RunEnds limit elf.bytes input st) (sym said.status_is) (ends stop e);
        kind = ap (λ (st : Status). kind_of st) said.status_is ∙ kinds stop;
        text_is = said.text_is ∙ text_is text text_of;
        writes_are = said.writes_are;
      }

-- what a run of the file and the input that were read answers is an outcome of the work
pub ran_done : (limit : ℕ) (r : Read) (x : List ℕ) (input : Input) (o : Outcome) → x ≡ exe_of r → input ≡ input_in r → IsRan limit x input o → IsDoneBy (run_work limit) 0 r o
ran_done limit r x input o exe given is =
    let ran : IsRan limit (exe_of r) (input_in r) o = subst (λ (i : Input). IsRan limit (exe_of r) i o) given (subst (λ (y : List ℕ). IsRan limit y input o) exe is) in
    record {
      ends = ran.ends;
      kind = ran.kind;
      new = ran.writes_are;
      many = ap (λ (ws : List (List ℕ)). length ws) ran.writes_are;
      text_is = ran.text_is;
    }
