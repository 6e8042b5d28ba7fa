-- What is said of a generated program and its new file.
use Rattle.std.proofs.Common.{◌≡◌, ℕ, zero, suc, List, [], ◌∷◌, ◌++◌, sym, ap, ap₂, ◌∙◌, subst, append_assoc, arith}
use Rattle.std.specs.List.{All}
use Rattle.rz_sys.specs.Input.{empty_input, IsValid}
use Rattle.rz_sys.specs.declared.input.Input.{Input}
use Rattle.rz_gen.specs.declared.file.TheConstants.{GEN_STEPS_LIMIT}
use Rattle.rz_elf.specs.Loaded.{ElfFile, IsRead, elf_of, loaded}
use Rattle.rz_machine.specs.declared.machine.Machine.{Machine}
use Rattle.rz_gen.specs.Generated.{generated}
use Rattle.rz_machine.specs.Start.{start}
use Rattle.rz_machine.specs.State.{after}
use Rattle.rz_machine.specs.Until.{steps_made}
use Rattle.rz_replay.specs.RunText.{last_line}
use Rattle.rz_paths.specs.declared.level.Level.TheVariants as level
use Rattle.rz_core.specs.Decoding.{decode_profile}
use Rattle.rz_core.specs.Debloated.{sources, traced, IsReport}
use Rattle.rz_core.specs.Ran.{ran}
use Rattle.rz_core.specs.Replayed.{replayed}
use Rattle.rz_core.specs.Texts.{counted_text, compared_text}
use Rattle.rz_core.specs.Demonstrated.{lines_of, said_of, IsDemoText}
use Rattle.rz_core.proofs.MadeLaws.{traced_is}
use Rattle.rz_core.proofs.RunLaws.{came_is}

-- of the program that was made for it
pub demo_text : (n : ℕ) (elf : ElfFile) (report w text bytes : List ℕ) → elf ≡ elf_of (generated n) → IsReport level.Exact GEN_STEPS_LIMIT (sources elf.bytes [] (empty_input ∷ [])) report → bytes ≡ w
    → text ≡ said_of n elf.bytes report w → IsDemoText n bytes text
demo_text n elf report w text bytes is reported same e = record {
  report = report;
  report_is = subst (λ (f : ElfFile). IsReport level.Exact GEN_STEPS_LIMIT (sources f.bytes [] (empty_input ∷ [])) report) is reported;
  text_is = e ∙ ap₂ (λ (f : ElfFile) (b : List ℕ). said_of n f.bytes report b) is (sym same);
}

-- the empty input is valid
pub empty_valid : IsValid empty_input
empty_valid = record { no_zeros = tt; few = omega arith; replies = tt; stdin = tt }

pub all_valid : All IsValid (empty_input ∷ [])
all_valid zero d lt = empty_valid
all_valid (suc k) d lt = absurd (omega arith)

-- the run of what was read of a program on the empty input
module _ (elf : ElfFile) (is : IsRead elf) (input : Input) (opened came : Machine) (open_is : opened ≡ start (loaded elf) input) (after_is : came ≡ after decode_profile GEN_STEPS_LIMIT opened) (empty : input ≡ empty_input) where
  pub steps_are : (steps : ℕ) → steps ≡ steps_made decode_profile GEN_STEPS_LIMIT opened → steps ≡ steps_made decode_profile GEN_STEPS_LIMIT (traced elf.bytes empty_input)
  steps_are steps e = e ∙ ap (λ (s : Machine). steps_made decode_profile GEN_STEPS_LIMIT s) (open_is ∙ traced_is elf is input ∙ ap (traced elf.bytes) empty)

  pub comes_to : came ≡ ran GEN_STEPS_LIMIT elf.bytes empty_input
  comes_to = came_is elf is GEN_STEPS_LIMIT input opened came open_is after_is ∙ ap (λ (i : Input). ran GEN_STEPS_LIMIT elf.bytes i) empty

-- its lines
pub lines_are : (elf : ElfFile) → IsRead elf → (n steps : ℕ) (came : Machine) (text : List ℕ) → steps ≡ steps_made decode_profile GEN_STEPS_LIMIT (traced elf.bytes empty_input)
    → came ≡ ran GEN_STEPS_LIMIT elf.bytes empty_input → text ≡ counted_text n steps ++ last_line elf came → text ≡ lines_of n elf.bytes
lines_are elf is n steps came text steps_are came_is e =
    e ∙ ap₂ (λ (a b : List ℕ). a ++ b) (ap (counted_text n) steps_are) (ap₂ (λ (f : ElfFile) (s : Machine). last_line f s) is.read came_is)

-- all that is said, from its parts
pub said_is : (n : ℕ) (x w report lines compared text : List ℕ) → lines ≡ lines_of n x → compared ≡ compared_text (replayed GEN_STEPS_LIMIT x w empty_input) → text ≡ (lines ++ report) ++ compared → text ≡ said_of n x report w
said_is n x w report lines compared text lines_are compared_is e =
    e
    ∙ ap₂ (λ (a b : List ℕ). (a ++ report) ++ b) lines_are compared_is
    ∙ append_assoc (lines_of n x) report (compared_text (replayed GEN_STEPS_LIMIT x w empty_input))
