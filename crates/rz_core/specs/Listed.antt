-- The command `disasm`.
use Rattle.std.specs.Prelude.{◌≡◌, ℕ, List, []}
use Rattle.rz_listing.specs.Listing.{file_code, listing}
use Rattle.rz_core.specs.Decoding.{decode_profile}
use Rattle.rz_core.specs.Reading.{exe_of}
use Rattle.rz_core.specs.Command.{Work, EndsWell}

-- so many lines at most of an accepted file, from an address on
abbrev pub listed_text : ℕ → ℕ → List ℕ → List ℕ
listed_text at count x = listing decode_profile (file_code x) count at

abbrev pub disasm_work : ℕ → ℕ → Work
disasm_work at count =
    record {
      Ends = λ r answer. EndsWell answer;
      New = λ r ws. ws ≡ [];
      Text = λ r ws text. text ≡ listed_text at count (exe_of r);
    }
