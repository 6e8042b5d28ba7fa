-- Worked texts: one for each name, and for each form of operand.
use Rattle.std.proofs.Common.{◌≡◌, ℕ, ℤ, pos, negsuc, true, false, List, [], ◌∷◌, Option, Some, None, refl}
use Rattle.std.specs.Prelude.{codes, map}
use Rattle.std.specs.Fmt.{digits}
use Rattle.hex.proofs.OnLiterals.{hex_on_literals}
use Rattle.rz_num.specs.declared.width.Width.TheVariants.{W8, W16, W32, W64}
use Rattle.rz_flags.specs.declared.Cond.TheVariants as conds
use Rattle.rz_flags.specs.declared.ArithOp.TheVariants as ariths
use Rattle.rz_flags.specs.declared.UnaryOp.TheVariants as unaries
use Rattle.rz_flags.specs.declared.WideOp.TheVariants as wides
use Rattle.rz_flags.specs.declared.ShiftOp.TheVariants as shifts
use Rattle.rz_flags.specs.declared.BitOp.TheVariants as bits
use Rattle.rz_flags.specs.declared.ScanOp.TheVariants as scans
use Rattle.rz_flags.specs.declared.FlagOp.TheVariants as flags
use Rattle.rz_isa.specs.declared.instruction.Reg.TheVariants.{R, High}
use Rattle.rz_isa.specs.declared.instruction.Place.{Place}
use Rattle.rz_isa.specs.declared.instruction.Place.TheVariants as places
use Rattle.rz_isa.specs.declared.instruction.Operand.TheVariants as operands
use Rattle.rz_isa.specs.declared.instruction.Count.TheVariants as counts
use Rattle.rz_isa.specs.declared.instruction.BitIndex.TheVariants as indexes
use Rattle.rz_isa.specs.declared.instruction.Insn.{Insn}
use Rattle.rz_isa.specs.declared.instruction.Insn.TheVariants as insns
use Rattle.rz_disasm.specs.Registers.{number_name, second_byte_name}
use Rattle.rz_disasm.specs.Operands.{memory_text, place_text, address_text}
use Rattle.rz_disasm.specs.Statements.{insn_text}
use Rattle.rz_disasm.specs.Line.{line_text}
use Rattle.rz_isa.specs.declared.instruction.Rep.TheVariants as reps

abbrev reg : ℕ → Place
reg n = places.Reg (R n)

abbrev second : ℕ → Place
second n = places.Reg (High n)

abbrev memory : Option ℕ → Option ℕ → ℕ → ℤ → Place
memory base index scale disp = places.Mem (record { base = base; index = index; scale = scale; disp = disp })

-- instructions and their texts
abbrev AreWorked : List (Insn × List ℕ) → Type 0
AreWorked rows = map (λ row. insn_text row.0) rows ≡ map (λ row. row.1) rows

-- registers by width; the second bytes
registers : AreWorked (
    (insns.Mov W8 (reg 4) (operands.Place (reg 13)), codes "mov spl, r13b") ∷
    (insns.Mov W8 (second 0) (operands.Place (second 3)), codes "mov ah, bh") ∷
    (insns.Mov W8 (second 1) (operands.Place (second 2)), codes "mov ch, dh") ∷
    (insns.Mov W8 (reg 7) (operands.Place (reg 1)), codes "mov dil, cl") ∷
    (insns.Mov W16 (reg 6) (operands.Place (reg 8)), codes "mov si, r8w") ∷
    (insns.Mov W32 (reg 5) (operands.Place (reg 15)), codes "mov ebp, r15d") ∷
    (insns.Mov W64 (reg 2) (operands.Place (reg 9)), codes "mov rdx, r9") ∷
    [])
unfolding number_name second_byte_name memory_text place_text address_text digits
registers = refl

-- memory: base, index, scale and displacement
memory_operands : AreWorked (
    (insns.Mov W64 (reg 0) (operands.Place (memory (Some 3) None 1 (pos 0))), codes "mov rax, qword [rbx]") ∷
    (insns.Mov W32 (reg 0) (operands.Place (memory (Some 12) None 1 (pos 16))), codes "mov eax, dword [r12+0x10]") ∷
    (insns.Mov W16 (reg 0) (operands.Place (memory (Some 5) None 1 (negsuc 0))), codes "mov ax, word [rbp-0x1]") ∷
    (insns.Mov W8 (reg 0) (operands.Place (memory (Some 0) None 1 (negsuc 2147483647))), codes "mov al, byte [rax-0x80000000]") ∷
    (insns.Mov W8 (memory (Some 4) (Some 1) 1 (pos 0)) (operands.Imm 255), codes "mov byte [rsp+rcx*1], 0xff") ∷
    (insns.Mov W64 (memory (Some 3) (Some 9) 8 (negsuc 127)) (operands.Place (reg 10)), codes "mov qword [rbx+r9*8-0x80], r10") ∷
    (insns.Mov W32 (memory None (Some 0) 4 (pos 0)) (operands.Imm 1), codes "mov dword [rax*4], 0x1") ∷
    (insns.Mov W32 (memory None (Some 13) 2 (pos 4198528)) (operands.Imm 0), codes "mov dword [r13*2+0x401080], 0x0") ∷
    (insns.Mov W64 (memory None None 1 (pos 4096)) (operands.Place (reg 1)), codes "mov qword [0x1000], rcx") ∷
    (insns.Mov W64 (memory None None 1 (negsuc 0)) (operands.Place (reg 1)), codes "mov qword [0xffffffffffffffff], rcx") ∷
    (insns.Mov W64 (memory None None 1 (pos 0)) (operands.Place (reg 1)), codes "mov qword [0x0], rcx") ∷
    (insns.Mov W64 (reg 0) (operands.Place (places.At 4198439)), codes "mov rax, [rip 0x401027]") ∷
    [])
unfolding number_name second_byte_name memory_text place_text address_text digits
memory_operands = refl

-- arithmetic and logic
arithmetic : AreWorked (
    (insns.Arith ariths.Add W32 (reg 3) (operands.Place (reg 0)), codes "add ebx, eax") ∷
    (insns.Arith ariths.Or W32 (reg 3) (operands.Place (reg 0)), codes "or ebx, eax") ∷
    (insns.Arith ariths.Adc W32 (reg 3) (operands.Place (reg 0)), codes "adc ebx, eax") ∷
    (insns.Arith ariths.Sbb W32 (reg 3) (operands.Place (reg 0)), codes "sbb ebx, eax") ∷
    (insns.Arith ariths.And W32 (reg 3) (operands.Place (reg 0)), codes "and ebx, eax") ∷
    (insns.Arith ariths.Sub W32 (reg 3) (operands.Place (reg 0)), codes "sub ebx, eax") ∷
    (insns.Arith ariths.Xor W32 (reg 3) (operands.Place (reg 0)), codes "xor ebx, eax") ∷
    (insns.Arith ariths.Cmp W32 (reg 3) (operands.Place (reg 0)), codes "cmp ebx, eax") ∷
    (insns.Arith ariths.Sub W64 (reg 4) (operands.Imm 18446744073709551488), codes "sub rsp, 0xffffffffffffff80") ∷
    (insns.Test W8 (reg 0) (operands.Place (second 0)), codes "test al, ah") ∷
    (insns.Test W16 (memory (Some 3) None 1 (pos 0)) (operands.Imm 32767), codes "test word [rbx], 0x7fff") ∷
    (insns.Unary unaries.Inc W32 (memory (Some 3) None 1 (pos 0)), codes "inc dword [rbx]") ∷
    (insns.Unary unaries.Dec W32 (memory (Some 3) None 1 (pos 0)), codes "dec dword [rbx]") ∷
    (insns.Unary unaries.Not W32 (memory (Some 3) None 1 (pos 0)), codes "not dword [rbx]") ∷
    (insns.Unary unaries.Neg W32 (memory (Some 3) None 1 (pos 0)), codes "neg dword [rbx]") ∷
    (insns.Wide wides.Mul W64 (reg 8), codes "mul r8") ∷
    (insns.Wide wides.Imul W64 (reg 8), codes "imul r8") ∷
    (insns.Wide wides.Div W64 (reg 8), codes "div r8") ∷
    (insns.Wide wides.Idiv W64 (reg 8), codes "idiv r8") ∷
    (insns.Imul2 W32 2 (reg 6), codes "imul edx, esi") ∷
    (insns.Imul3 W16 2 (memory (Some 3) None 1 (pos 0)) 65535, codes "imul dx, word [rbx], 0xffff") ∷
    [])
unfolding number_name second_byte_name memory_text place_text address_text digits
arithmetic = refl

-- moves
moves : AreWorked (
    (insns.Lea W64 1 (memory (Some 1) (Some 2) 4 (pos 8)), codes "lea rcx, [rcx+rdx*4+0x8]") ∷
    (insns.Lea W32 0 (places.At 18446744073709551615), codes "lea eax, [rip 0xffffffffffffffff]") ∷
    (insns.Extend false W32 W8 0 (second 1), codes "movzx eax, ch") ∷
    (insns.Extend false W64 W16 0 (memory (Some 3) None 1 (pos 0)), codes "movzx rax, word [rbx]") ∷
    (insns.Extend true W16 W8 0 (reg 6), codes "movsx ax, sil") ∷
    (insns.Extend true W32 W16 0 (reg 6), codes "movsx eax, si") ∷
    (insns.Extend true W64 W32 0 (memory (Some 3) None 1 (pos 0)), codes "movsxd rax, dword [rbx]") ∷
    (insns.Push (operands.Place (reg 12)), codes "push r12") ∷
    (insns.Push (operands.Place (memory (Some 3) None 1 (pos 0))), codes "push qword [rbx]") ∷
    (insns.Push (operands.Imm 18446744073709551615), codes "push 0xffffffffffffffff") ∷
    (insns.Pop (reg 5), codes "pop rbp") ∷
    (insns.Pop (memory (Some 4) None 1 (pos 8)), codes "pop qword [rsp+0x8]") ∷
    (insns.Xchg W8 (memory (Some 3) None 1 (pos 0)) (High 2), codes "xchg byte [rbx], dh") ∷
    (insns.Xchg W64 (reg 3) (R 0), codes "xchg rbx, rax") ∷
    (insns.CmpXchg W32 (memory (Some 7) None 1 (pos 0)) (R 1), codes "cmpxchg dword [rdi], ecx") ∷
    (insns.Xadd W8 (reg 1) (High 3), codes "xadd cl, bh") ∷
    [])
unfolding number_name second_byte_name memory_text place_text address_text digits
moves = refl

-- the sixteen conditions
conditions : AreWorked (
    (insns.Jcc conds.O 4198400, codes "jo 0x401000") ∷
    (insns.Jcc conds.NO 4198400, codes "jno 0x401000") ∷
    (insns.Jcc conds.B 4198400, codes "jb 0x401000") ∷
    (insns.Jcc conds.AE 4198400, codes "jae 0x401000") ∷
    (insns.Jcc conds.E 4198400, codes "je 0x401000") ∷
    (insns.Jcc conds.NE 4198400, codes "jne 0x401000") ∷
    (insns.Jcc conds.BE 4198400, codes "jbe 0x401000") ∷
    (insns.Jcc conds.A 4198400, codes "ja 0x401000") ∷
    (insns.Jcc conds.S 4198400, codes "js 0x401000") ∷
    (insns.Jcc conds.NS 4198400, codes "jns 0x401000") ∷
    (insns.Jcc conds.P 4198400, codes "jp 0x401000") ∷
    (insns.Jcc conds.NP 4198400, codes "jnp 0x401000") ∷
    (insns.Jcc conds.L 4198400, codes "jl 0x401000") ∷
    (insns.Jcc conds.GE 4198400, codes "jge 0x401000") ∷
    (insns.Jcc conds.LE 4198400, codes "jle 0x401000") ∷
    (insns.Jcc conds.G 4198400, codes "jg 0x401000") ∷
    (insns.Cmov conds.NE W64 0 (memory (Some 3) None 1 (pos 0)), codes "cmovne rax, qword [rbx]") ∷
    (insns.Set conds.LE (reg 4), codes "setle spl") ∷
    (insns.Set conds.A (memory (Some 3) None 1 (pos 0)), codes "seta byte [rbx]") ∷
    [])
unfolding number_name second_byte_name memory_text place_text address_text digits
conditions = refl

-- transfers of control
transfers : AreWorked (
    (insns.Jrcxz 0, codes "jrcxz 0x0") ∷
    (insns.Jmp 18446744073709551615, codes "jmp 0xffffffffffffffff") ∷
    (insns.JmpInd (reg 6), codes "jmp rsi") ∷
    (insns.JmpInd (memory None (Some 0) 8 (pos 4198528)), codes "jmp qword [rax*8+0x401080]") ∷
    (insns.JmpInd (places.At 4198400), codes "jmp [rip 0x401000]") ∷
    (insns.Call 4198461, codes "call 0x40103d") ∷
    (insns.CallInd (memory (Some 4) None 1 (pos 0)), codes "call qword [rsp]") ∷
    (insns.CallInd (reg 1), codes "call rcx") ∷
    (insns.Ret 0, codes "ret") ∷
    (insns.Ret 16, codes "ret 0x10") ∷
    [])
unfolding number_name second_byte_name memory_text place_text address_text digits
transfers = refl

-- shifts, bits and scans
bits_and_shifts : AreWorked (
    (insns.Shift shifts.Rol W32 (reg 0) (counts.Imm 1), codes "rol eax, 0x1") ∷
    (insns.Shift shifts.Ror W32 (reg 0) (counts.Imm 1), codes "ror eax, 0x1") ∷
    (insns.Shift shifts.Shl W32 (reg 0) (counts.Imm 1), codes "shl eax, 0x1") ∷
    (insns.Shift shifts.Shr W32 (reg 0) (counts.Imm 1), codes "shr eax, 0x1") ∷
    (insns.Shift shifts.Sar W32 (reg 0) (counts.Imm 1), codes "sar eax, 0x1") ∷
    (insns.Shift shifts.Sar W8 (memory (Some 3) None 1 (pos 0)) counts.Cl, codes "sar byte [rbx], cl") ∷
    (insns.Shift shifts.Shl W16 (second 3) (counts.Imm 255), codes "shl bh, 0xff") ∷
    (insns.DoubleShift true W32 (memory (Some 3) None 1 (pos 0)) 1 (counts.Imm 31), codes "shld dword [rbx], ecx, 0x1f") ∷
    (insns.DoubleShift false W64 (reg 0) 15 counts.Cl, codes "shrd rax, r15, cl") ∷
    (insns.Bswap W64 11, codes "bswap r11") ∷
    (insns.BitTest bits.Test W16 (reg 0) (indexes.Reg 3), codes "bt ax, bx") ∷
    (insns.BitTest bits.Set W16 (reg 0) (indexes.Reg 3), codes "bts ax, bx") ∷
    (insns.BitTest bits.Reset W16 (reg 0) (indexes.Reg 3), codes "btr ax, bx") ∷
    (insns.BitTest bits.Complement W16 (reg 0) (indexes.Reg 3), codes "btc ax, bx") ∷
    (insns.BitTest bits.Set W64 (memory (Some 3) None 1 (pos 0)) (indexes.Imm 63), codes "bts qword [rbx], 0x3f") ∷
    (insns.Scan scans.Bsf W32 0 (memory (Some 3) None 1 (pos 0)), codes "bsf eax, dword [rbx]") ∷
    (insns.Scan scans.Bsr W32 0 (memory (Some 3) None 1 (pos 0)), codes "bsr eax, dword [rbx]") ∷
    (insns.Scan scans.Tzcnt W32 0 (memory (Some 3) None 1 (pos 0)), codes "tzcnt eax, dword [rbx]") ∷
    (insns.Scan scans.Lzcnt W32 0 (memory (Some 3) None 1 (pos 0)), codes "lzcnt eax, dword [rbx]") ∷
    (insns.Scan scans.Popcnt W32 0 (memory (Some 3) None 1 (pos 0)), codes "popcnt eax, dword [rbx]") ∷
    [])
unfolding number_name second_byte_name memory_text place_text address_text digits
bits_and_shifts = refl

-- instructions that stand alone
lone : AreWorked (
    (insns.Leave, codes "leave") ∷
    (insns.PushFlags, codes "pushfq") ∷
    (insns.PopFlags, codes "popfq") ∷
    (insns.Nop, codes "nop") ∷
    (insns.Syscall, codes "syscall") ∷
    (insns.Ud2, codes "ud2") ∷
    (insns.Hlt, codes "hlt") ∷
    (insns.Int3, codes "int3") ∷
    (insns.Convert W16, codes "cbw") ∷
    (insns.Convert W32, codes "cwde") ∷
    (insns.Convert W64, codes "cdqe") ∷
    (insns.SignFill W16, codes "cwd") ∷
    (insns.SignFill W32, codes "cdq") ∷
    (insns.SignFill W64, codes "cqo") ∷
    (insns.Movs W8 false, codes "movsb") ∷
    (insns.Stos W8 true, codes "rep stosb") ∷
    (insns.Movs W16 false, codes "movsw") ∷
    (insns.Stos W16 true, codes "rep stosw") ∷
    (insns.Movs W32 false, codes "movsd") ∷
    (insns.Stos W32 true, codes "rep stosd") ∷
    (insns.Movs W64 false, codes "movsq") ∷
    (insns.Stos W64 true, codes "rep stosq") ∷
    (insns.Movs W8 true, codes "rep movsb") ∷
    (insns.Stos W64 false, codes "stosq") ∷
    (insns.Cmps W8 reps.WhileEqual, codes "repe cmpsb") ∷
    (insns.Cmps W64 reps.No, codes "cmpsq") ∷
    (insns.Scas W8 reps.WhileNot, codes "repne scasb") ∷
    (insns.Scas W32 reps.WhileEqual, codes "repe scasd") ∷
    (insns.Flag flags.Clc, codes "clc") ∷
    (insns.Flag flags.Stc, codes "stc") ∷
    (insns.Flag flags.Cmc, codes "cmc") ∷
    (insns.Flag flags.Cld, codes "cld") ∷
    (insns.Flag flags.Std, codes "std") ∷
    [])
unfolding number_name second_byte_name memory_text place_text address_text digits
lone = refl

-- a whole line
one_line : line_text 0x40100a (0xbe ∷ 0x22 ∷ 0x10 ∷ 0x40 ∷ 0 ∷ []) (insns.Mov W32 (reg 6) (operands.Imm 0x401022)) ≡ codes "0x40100a be22104000 mov esi, 0x401022"
unfolding line_text number_name place_text digits hex_on_literals
one_line = refl
