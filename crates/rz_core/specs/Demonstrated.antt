-- The command `demo`: a generated program is debloated, and what is written is compared with it.
use Rattle.std.specs.Prelude.{◌≡◌, ℕ, List, [], ◌∷◌, ◌++◌}
use Rattle.rz_sys.specs.Input.{empty_input}
use Rattle.rz_elf.specs.Loaded.{elf_of}
use Rattle.rz_gen.specs.declared.file.TheConstants.{GEN_STEPS_LIMIT}
use Rattle.rz_gen.specs.Generated.{generated}
use Rattle.rz_machine.specs.Until.{steps_made}
use Rattle.rz_replay.specs.RunText.{last_line}
use Rattle.rz_paths.specs.declared.level.Level.TheVariants as level
use Rattle.rz_core.specs.Decoding.{decode_profile}
use Rattle.rz_core.specs.Texts.{counted_text, compared_text}
use Rattle.rz_core.specs.Debloated.{Sources, sources, traced, IsDebloated, IsReport, DebloatEnds}
use Rattle.rz_core.specs.Ran.{ran}
use Rattle.rz_core.specs.Replayed.{replayed}
use Rattle.rz_core.specs.Command.{Work, IsOne}

-- the program of so many functions, with no listed ones and one empty input
abbrev pub demonstrated : ℕ → Sources
demonstrated n = sources (generated n) [] (empty_input ∷ [])

-- what is said of a program x: how many functions and steps, and the last line of its run
abbrev pub lines_of : ℕ → List ℕ → List ℕ
lines_of n x =
    counted_text n (steps_made decode_profile GEN_STEPS_LIMIT (traced x empty_input))
    ++ last_line (elf_of x) (ran GEN_STEPS_LIMIT x empty_input)

-- and of the new file w of it: the report, and the verdict on w
abbrev pub said_of : ℕ → List ℕ → List ℕ → List ℕ → List ℕ
said_of n x report w = lines_of n x ++ (report ++ compared_text (replayed GEN_STEPS_LIMIT x w empty_input))

-- what is said where w is written
pub record IsDemoText (n : ℕ) (w text : List ℕ) : Type 0 where
  pub report : List ℕ
  pub report_is : IsReport level.Exact GEN_STEPS_LIMIT (demonstrated n) report
  pub text_is : text ≡ said_of n (generated n) report w

abbrev pub demo_work : ℕ → Work
demo_work count =
    record {
      Ends = λ r answer. DebloatEnds level.Exact GEN_STEPS_LIMIT (demonstrated count) answer;
      New = λ r ws. IsOne (IsDebloated level.Exact GEN_STEPS_LIMIT (demonstrated count)) ws;
      Text = λ r ws text. IsOne (λ w. IsDemoText count w text) ws;
    }
