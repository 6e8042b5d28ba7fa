-- From what is said of two files as they were read to what is said of their bytes.
use Rattle.std.proofs.Common.{◌≡◌, ℕ, List, refl, ap, ap₂, ◌∙◌}
use Rattle.rz_sys.specs.declared.input.Input.{Input}
use Rattle.rz_elf.specs.Loaded.{ElfFile, IsRead}
use Rattle.rz_replay.specs.declared.compare.Verdict.{Verdict}
use Rattle.rz_replay.specs.declared.compare.Verdict.TheVariants as verdict
use Rattle.rz_replay.specs.Verdict.{verdict_of}
use Rattle.rz_report.specs.Report.{pair_report_of}
use Rattle.rz_core.specs.declared.status.Status.{Status}
use Rattle.rz_core.specs.Decoding.{decode_profile}
use Rattle.rz_core.specs.Statuses.{Done, kind_of}
use Rattle.rz_core.specs.Texts.{verdict_text}
use Rattle.rz_core.specs.Replayed.{replayed, status_by}
use Rattle.rz_core.specs.declared.outcome.Outcome.{Outcome}
use Rattle.rz_core.specs.Paired.{paired_text}
use Rattle.rz_core.specs.Calls.Outcomes.{IsSaid}
use Rattle.rz_core.specs.Calls.Replaying.{IsReplayed}

-- a verdict is an answer of a command that is done
done_by : (v : Verdict) → kind_of (status_by v) ≡ Done
done_by (verdict.Same events) = refl
done_by (verdict.Differ event) = refl
done_by (verdict.Stub source) = refl

pub is_done : (st : Status) (v : Verdict) → st ≡ status_by v → kind_of st ≡ Done
is_done st v e = ap (λ (s : Status). kind_of s) e ∙ done_by v

-- the verdict on what was read is that on the bytes
pub verdict_is : (old new : ElfFile) → IsRead old → IsRead new → (limit : ℕ) (input : Input) (v : Verdict) → v ≡ verdict_of decode_profile old new limit input → v ≡ replayed limit old.bytes new.bytes input
verdict_is old new is new_is limit input v e = e ∙ ap₂ (λ (o n : ElfFile). verdict_of decode_profile o n limit input) is.read new_is.read

pub is_replayed : (limit : ℕ) (x w : List ℕ) (input : Input) (v : Verdict) (st : Status) (text : List ℕ) (o : Outcome) → v ≡ replayed limit x w input → st ≡ status_by v → text ≡ verdict_text v → IsSaid st text o
    → IsReplayed limit x w input o
is_replayed limit x w input v st text o is status text_is said = record {
  status_is = said.status_is ∙ status ∙ ap status_by is;
  text_is = said.text_is ∙ text_is ∙ ap verdict_text is;
  writes_are = said.writes_are;
}

pub report_is : (old new : ElfFile) → IsRead old → IsRead new → (text : List ℕ) → text ≡ pair_report_of old new → text ≡ paired_text old.bytes new.bytes
report_is old new is new_is text e = e ∙ ap₂ (λ (o n : ElfFile). pair_report_of o n) is.read new_is.read
