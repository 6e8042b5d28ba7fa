-- The text of a run: a line for each of its system calls, and one for its end.
use Rattle.std.specs.Prelude.{ℕ, List, [], ◌∷◌, ◌++◌, codes, decimal, flat_map, Option, Some, None}
use Rattle.std.specs.Fmt.{signed_decimal}
use Rattle.std.specs.Int.{w64, cast_signed}
use Rattle.hex.specs.Hex.{encode_lower}
use Rattle.rz_num.specs.Texts.{hex_text}
use Rattle.rz_sys.specs.declared.event.Event.{Event}
use Rattle.rz_elf.specs.Loaded.{ElfFile}
use Rattle.rz_machine.specs.declared.machine.End.{End}
use Rattle.rz_machine.specs.declared.machine.End.TheVariants as end
use Rattle.rz_machine.specs.declared.machine.Machine.{Machine}
use Rattle.rz_machine.specs.Stub.{stub_word_of}

-- a word as a signed number (two's complement; Intel SDM, volume 1, section 4.2.1.2)
abbrev pub signed_text : ℕ → List ℕ
signed_text n = signed_decimal (cast_signed w64 n)

-- a space and the bytes that a call moved, in hexadecimal; nothing where there are none
abbrev pub moved_text : List ℕ → List ℕ
moved_text [] = []
moved_text (b ∷ bytes) = 32 ∷ encode_lower (b ∷ bytes)

-- a system call: its number, its arguments, and the answer as a signed number
abbrev pub call_text : Event → List ℕ
call_text e =
    codes "sys " ++ (decimal e.number ++ (flat_map (λ a. 32 ∷ hex_text a) e.args ++ (codes " -> " ++ signed_text e.answer)))

-- its line, with what it moved
abbrev pub call_line : Event → List ℕ
call_line e = call_text e ++ (moved_text e.bytes ++ 10 ∷ [])

-- how a run ended
abbrev pub end_text : End → List ℕ
end_text (end.Exit status) = codes "exit " ++ decimal status
end_text (end.Memory at) = codes "memory " ++ hex_text at
end_text (end.Fetch at) = codes "fetch " ++ hex_text at
end_text (end.Unknown at) = codes "unknown " ++ hex_text at
end_text end.Divide = codes "divide"
end_text (end.Illegal at) = codes "illegal " ++ hex_text at
end_text end.Halted = codes "halted"
end_text end.Break = codes "break"
end_text end.Popped = codes "popped"

-- at a stub its word takes the place of the end
abbrev pub ended_text : End → Option ℕ → List ℕ
ended_text why None = end_text why
ended_text why (Some word) = codes "stub " ++ hex_text word

abbrev pub last_text : Option End → (stub : Option ℕ) → List ℕ
last_text None stub = codes "running\n"
last_text (Some why) stub = ended_text why stub ++ 10 ∷ []

abbrev pub last_line : ElfFile → Machine → List ℕ
last_line elf s = last_text s.end (stub_word_of elf s)

-- the text of a run of a file: its system calls, and its end
abbrev pub run_text_of : ElfFile → Machine → List ℕ
run_text_of elf s = flat_map call_line s.world.events ++ last_line elf s
