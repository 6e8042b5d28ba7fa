-- Worked rows: lines of system calls and of ends.
use Rattle.std.proofs.Common.{◌≡◌, ◌-◌, ◌^◌, [], ◌∷◌, Some, None, refl}
use Rattle.std.specs.Prelude.{codes}
use Rattle.std.specs.Fmt.{digits}
use Rattle.hex.specs.Hex.{encode_with}
use Rattle.rz_sys.specs.declared.event.Event.{Event}
use Rattle.rz_machine.specs.declared.machine.End.TheVariants as end
use Rattle.rz_replay.specs.RunText.{call_line, ended_text}

-- a write of three bytes
written : Event
written = record { number = 1; args = 1 ∷ 0x401022 ∷ 3 ∷ []; answer = 3; bytes = 0x68 ∷ 0x69 ∷ 0x0a ∷ [] }

line-written : call_line written ≡ codes "sys 1 0x1 0x401022 0x3 -> 3 68690a\n"
unfolding written digits encode_with
line-written = refl

-- a call that isn't there: -38, and no bytes
absent : Event
absent = record { number = 59; args = 0 ∷ 0x7fffffffefd0 ∷ 1 ∷ []; answer = 2 ^ 64 - 38; bytes = [] }

line-absent : call_line absent ≡ codes "sys 59 0x0 0x7fffffffefd0 0x1 -> -38\n"
unfolding absent digits
line-absent = refl

-- a byte below 16 has two digits, and letters are small
read : Event
read = record { number = 0; args = 0 ∷ (2 ^ 64 - 1) ∷ 0xABCDEF ∷ []; answer = 2; bytes = 0x0a ∷ 0xFC ∷ [] }

line-read : call_line read ≡ codes "sys 0 0x0 0xffffffffffffffff 0xabcdef -> 2 0afc\n"
unfolding read digits encode_with
line-read = refl

exits : ended_text (end.Exit 252) None ≡ codes "exit 252"
unfolding digits
exits = refl

illegal : ended_text (end.Illegal 0x3ff018) None ≡ codes "illegal 0x3ff018"
unfolding digits
illegal = refl

at_stub : ended_text (end.Illegal 0x3ff018) (Some 0x401011) ≡ codes "stub 0x401011"
unfolding digits
at_stub = refl
