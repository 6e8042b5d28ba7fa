-- The command `gen`.
use Rattle.std.specs.Prelude.{◌≡◌, ℕ, [], ◌∷◌, length}
use Rattle.rz_gen.specs.Generated.{generated}
use Rattle.rz_core.specs.Texts.{generated_text}
use Rattle.rz_core.specs.Command.{Work, EndsWell}

abbrev pub generate_work : ℕ → Work
generate_work count =
    record {
      Ends = λ r answer. EndsWell answer;
      New = λ r ws. ws ≡ generated count ∷ [];
      Text = λ r ws text. text ≡ generated_text (length (generated count));
    }
