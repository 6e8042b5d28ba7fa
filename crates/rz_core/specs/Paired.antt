-- The command `report`: an old and a new file measured.
use Rattle.std.specs.Prelude.{◌≡◌, ℕ, List, []}
use Rattle.rz_elf.specs.Loaded.{elf_of}
use Rattle.rz_report.specs.Report.{pair_report_of}
use Rattle.rz_core.specs.Reading.{exe_of, new_file_of}
use Rattle.rz_core.specs.Command.{Work, EndsWell}

-- what is said of an old and a new file
abbrev pub paired_text : List ℕ → List ℕ → List ℕ
paired_text x w = pair_report_of (elf_of x) (elf_of w)

abbrev pub report_work : Work
report_work =
    record {
      Ends = λ r answer. EndsWell answer;
      New = λ r ws. ws ≡ [];
      Text = λ r ws text. text ≡ paired_text (exe_of r) (new_file_of r);
    }
