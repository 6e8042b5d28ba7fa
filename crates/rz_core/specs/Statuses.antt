-- The statuses: the number that the program ends with, the kind of the answer, and the text of a refusal.
use Rattle.std.specs.Prelude.{ℕ, List, [], ◌∷◌, ◌++◌, codes, decimal}
use Rattle.rz_num.specs.Texts.{hex_text}
use Rattle.rz_core.specs.declared.status.Status.{Status}
use Rattle.rz_core.specs.declared.status.Status.TheVariants as status
use Rattle.rz_core.specs.declared.status.Target.TheVariants as target
use Rattle.rz_elf.specs.Texts.{fault_text, room_text}
use Rattle.rz_syms.specs.Texts.{fault_text as symbol_fault_text}

pub data Kind : Type 0 where
  -- the command is done, and put its own text
  Done : Kind
  -- it is done, and its text could not be put
  TextLost : Kind
  -- a file could not be written
  FileLost : Kind
  NoMemory : Kind
  -- any other refusal
  Refused : Kind

pub record Row : Type 0 where
  pub number : ℕ
  pub kind : Kind
  pub text : List ℕ

abbrev row : ℕ → Kind → List ℕ → Row
row number kind text = record { number = number; kind = kind; text = text }

-- the text of an answer that is no refusal with a text of its own is empty
abbrev pub row_of : Status → Row
row_of status.Ok = row 0 Done []
row_of status.Usage = row 1 Refused (codes "usage\n")
row_of (status.Refused file why) = row 2 Refused (codes "refused " ++ (file ++ (32 ∷ (fault_text why ++ 10 ∷ []))))
row_of (status.BadInput input line) = row 3 Refused (codes "bad input " ++ (decimal input ++ (32 ∷ (decimal line ++ 10 ∷ []))))
row_of (status.BadClasses line) = row 4 Refused (codes "bad classes " ++ (decimal line ++ 10 ∷ []))
row_of (status.LeftCode input address) = row 5 Refused (codes "left code " ++ (decimal input ++ (32 ∷ (hex_text address ++ 10 ∷ []))))
row_of (status.RipReach address) = row 6 Refused (codes "rip reach " ++ (hex_text address ++ 10 ∷ []))
row_of (status.NoRoom room) = row 7 Refused (codes "no room " ++ (room_text room ++ 10 ∷ []))
row_of (status.ReadFault file) = row 8 Refused (codes "read fault " ++ (file ++ 10 ∷ []))
row_of (status.WriteFault target.File) = row 9 FileLost (codes "write fault file\n")
row_of (status.WriteFault target.Text) = row 9 TextLost []
row_of (status.Differ event) = row 10 Done []
row_of (status.StubStop source) = row 11 Done []
row_of status.OutOfMemory = row 12 NoMemory []
row_of (status.NotStamped file) = row 13 Refused (codes "not stamped " ++ (file ++ 10 ∷ []))
row_of (status.BadTrace line) = row 16 Refused (codes "bad trace " ++ (decimal line ++ 10 ∷ []))
row_of (status.BadSymbols why) = row 18 Refused (codes "bad symbols " ++ (symbol_fault_text why ++ 10 ∷ []))
row_of (status.HeaderMapped file) = row 19 Refused (codes "header mapped " ++ (file ++ 10 ∷ []))

abbrev pub number_of : Status → ℕ
number_of st = (row_of st).number

abbrev pub kind_of : Status → Kind
kind_of st = (row_of st).kind

abbrev pub refusal_text : Status → List ℕ
refusal_text st = (row_of st).text
