-- The command `replay`: whether a new file does what an old one does, on an input.
use Rattle.std.specs.Prelude.{◌≡◌, ℕ, List, []}
use Rattle.rz_sys.specs.declared.input.Input.{Input}
use Rattle.rz_elf.specs.Loaded.{elf_of}
use Rattle.rz_replay.specs.declared.compare.Verdict.{Verdict}
use Rattle.rz_replay.specs.declared.compare.Verdict.TheVariants as verdict
use Rattle.rz_replay.specs.Verdict.{verdict_of}
use Rattle.rz_core.specs.declared.status.Status.{Status}
use Rattle.rz_core.specs.declared.status.Status.TheVariants as status
use Rattle.rz_core.specs.Decoding.{decode_profile}
use Rattle.rz_core.specs.Texts.{verdict_text}
use Rattle.rz_core.specs.Reading.{exe_of, new_file_of, input_in}
use Rattle.rz_core.specs.Command.{Work}

-- the verdict on w beside x, which is run for at most `limit` steps
abbrev pub replayed : ℕ → List ℕ → List ℕ → Input → Verdict
replayed limit x w input = verdict_of decode_profile (elf_of x) (elf_of w) limit input

-- the status that it gives
abbrev pub status_by : Verdict → Status
status_by (verdict.Same events) = status.Ok
status_by (verdict.Differ event) = status.Differ event
status_by (verdict.Stub source) = status.StubStop source

abbrev pub replay_work : ℕ → Work
replay_work limit =
    record {
      Ends = λ r answer. answer ≡ status_by (replayed limit (exe_of r) (new_file_of r) (input_in r));
      New = λ r ws. ws ≡ [];
      Text = λ r ws text. text ≡ verdict_text (replayed limit (exe_of r) (new_file_of r) (input_in r));
    }
