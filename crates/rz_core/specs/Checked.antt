-- The command `check`.
use Rattle.std.specs.Prelude.{◌≡◌, ℕ, List, [], length}
use Rattle.rz_elf.specs.Elf.{image_of}
use Rattle.rz_core.specs.Texts.{check_text}
use Rattle.rz_core.specs.Reading.{exe_of}
use Rattle.rz_core.specs.Command.{Work, EndsWell}

-- what is said of an accepted file
abbrev pub checked_text : List ℕ → List ℕ
checked_text x = let i = image_of x in check_text (length i.loads) i.entry i.first_break

abbrev pub check_work : Work
check_work =
    record {
      Ends = λ r answer. EndsWell answer;
      New = λ r ws. ws ≡ [];
      Text = λ r ws text. text ≡ checked_text (exe_of r);
    }
