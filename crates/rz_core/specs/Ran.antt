-- The command `run`: how a file runs on an input.
use Rattle.std.specs.Prelude.{◌≡◌, ℕ, List, [], Option, Some, None}
use Rattle.rz_sys.specs.declared.input.Input.{Input}
use Rattle.rz_elf.specs.Loaded.{elf_of}
use Rattle.rz_machine.specs.declared.machine.Machine.{Machine}
use Rattle.rz_machine.specs.State.{after}
use Rattle.rz_machine.specs.Stub.{stub_word_of}
use Rattle.rz_replay.specs.RunText.{run_text_of}
use Rattle.rz_core.specs.declared.status.Status.{Status}
use Rattle.rz_core.specs.declared.status.Status.TheVariants as status
use Rattle.rz_core.specs.Decoding.{decode_profile}
use Rattle.rz_core.specs.Reading.{exe_of, input_in}
use Rattle.rz_core.specs.Debloated.{traced}
use Rattle.rz_core.specs.Command.{Work}

-- the state that a file comes to on an input, after at most `limit` steps
abbrev pub ran : ℕ → List ℕ → Input → Machine
ran limit x input = after decode_profile limit (traced x input)

-- the word of the stub where the run ended, if it ended at one
abbrev pub stop_of : ℕ → List ℕ → Input → Option ℕ
stop_of limit x input = stub_word_of (elf_of x) (ran limit x input)

-- how `run` ends: at a stub, or not
abbrev pub RunEnds : ℕ → List ℕ → Input → Status → Type 0
RunEnds limit x input status.Ok = stop_of limit x input ≡ None
RunEnds limit x input (status.StubStop source) = stop_of limit x input ≡ Some source
RunEnds limit x input _ = ⊥

-- its text
abbrev pub ran_text : ℕ → List ℕ → Input → List ℕ
ran_text limit x input = run_text_of (elf_of x) (ran limit x input)

abbrev pub run_work : ℕ → Work
run_work limit =
    record {
      Ends = λ r answer. RunEnds limit (exe_of r) (input_in r) answer;
      New = λ r ws. ws ≡ [];
      Text = λ r ws text. text ≡ ran_text limit (exe_of r) (input_in r);
    }
