-- What the text of an answer says.
use Rattle.std.specs.Prelude.{ℕ, List, [], ◌∷◌, ◌++◌, decimal}
use Rattle.rz_num.specs.Texts.{hex_text}
use Rattle.rz_core.specs.declared.status.Said.{Said}
use Rattle.rz_core.specs.declared.status.Said.TheVariants as said
use Rattle.rz_elf.specs.Texts.{fault_text, room_text}
use Rattle.rz_syms.specs.Texts.{fault_text as symbol_fault_text}

-- a line of words, and of what stands behind them
abbrev line_of : List ℕ → List ℕ → List ℕ
line_of words behind = words ++ (32 ∷ (behind ++ 10 ∷ []))

-- and of two things
abbrev pair_of : List ℕ → List ℕ → List ℕ → List ℕ
pair_of words first second = words ++ (32 ∷ (first ++ (32 ∷ (second ++ 10 ∷ []))))

abbrev pub text_said : Said → List ℕ
text_said said.Nothing = []
text_said (said.Words words) = words.now ++ 10 ∷ []
text_said (said.Name words name) = line_of words.now name.now
text_said (said.Number words n) = line_of words.now (decimal n)
text_said (said.Address words a) = line_of words.now (hex_text a)
text_said (said.Numbers words n m) = pair_of words.now (decimal n) (decimal m)
text_said (said.Place words n a) = pair_of words.now (decimal n) (hex_text a)
text_said (said.Fault words name fault) = pair_of words.now name.now (fault_text fault)
text_said (said.Room words room) = line_of words.now (room_text room)
text_said (said.Symbols words fault) = line_of words.now (symbol_fault_text fault)
