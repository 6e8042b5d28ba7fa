-- The command `label`: a written file with sections for its parts.
use Rattle.std.specs.Prelude.{◌≡◌, ◌≤◌, ◌<◌, ℕ, List, length, None}
use Rattle.rz_elf.specs.declared.room.Room.TheVariants as room
use Rattle.rz_elf.specs.Elf.{fault_of, image_of}
use Rattle.rz_elf.specs.Loaded.{elf_of}
use Rattle.rz_elf.specs.Stamped.{stamp_of}
use Rattle.rz_label.specs.Labelled.{labelled, labelled_len}
use Rattle.rz_core.specs.declared.status.Status.{Status}
use Rattle.rz_core.specs.declared.status.Status.TheVariants as status
use Rattle.rz_core.specs.Texts.{labelled_text}
use Rattle.rz_core.specs.Reading.{exe_of}
use Rattle.rz_core.specs.Command.{Work, IsOne}

-- what a labelled file may have in bytes
abbrev most_bytes : ℕ
most_bytes = 67108864

-- how labelling ends: there is room for the sections, or not
abbrev pub LabelEnds : List ℕ → Status → Type 0
LabelEnds x status.Ok = labelled_len (length x) ≤ most_bytes
LabelEnds x (status.NoRoom room.Length) = most_bytes < labelled_len (length x)
LabelEnds x _ = ⊥

-- w is the labelled file of x: it is accepted, stamped as x is, and loads what x loads
pub record IsLabelled (x w : List ℕ) : Type 0 where
  pub bytes : w ≡ labelled (elf_of x)
  pub accepted : fault_of w ≡ None
  pub stamped : stamp_of (elf_of w) ≡ stamp_of (elf_of x)
  pub image : image_of w ≡ image_of x

-- what is said of it: how many bytes it has
abbrev pub label_work : Work
label_work =
    record {
      Ends = λ r answer. LabelEnds (exe_of r) answer;
      New = λ r ws. IsOne (IsLabelled (exe_of r)) ws;
      Text = λ r ws text. IsOne (λ w. text ≡ labelled_text (length w)) ws;
    }
