use Rattle.std.specs.Prelude.{◌≡◌, ◌&&◌, Bool, true, false, [], ◌∷◌, Some, None, is_some, pos, negsuc, refl, if◌then◌else◌}
use Rattle.std.specs.List.{list_all}
use Rattle.rz_num.specs.declared.width.Width.TheVariants.{W8, W16, W32, W64}
use Rattle.rz_flags.specs.declared.ArithOp.TheVariants as ariths
use Rattle.rz_flags.specs.declared.ShiftOp.TheVariants as shifts
use Rattle.rz_flags.specs.declared.ScanOp.TheVariants as scans
use Rattle.rz_flags.specs.declared.Cond.TheVariants as conds
use Rattle.rz_isa.specs.declared.rows.Row.{Row}
use Rattle.rz_isa.specs.declared.rows.Form.TheVariants as forms
use Rattle.rz_isa.specs.declared.instruction.Insn.TheVariants as insns
use Rattle.rz_isa.specs.declared.instruction.Reg.TheVariants as regs
use Rattle.rz_isa.specs.declared.instruction.Place.TheVariants as places
use Rattle.rz_isa.specs.declared.instruction.Operand.TheVariants as operands
use Rattle.rz_isa.specs.declared.instruction.Count.TheVariants as counts
use Rattle.rz_isa.specs.declared.spelled.Fields.{Fields}
use Rattle.rz_isa.specs.Fields.{build_op}
use Rattle.rz_isa.specs.Having.{can_have}
use Rattle.rz_isa.specs.Finding.{least, found}
use Rattle.rz_isa.specs.Regular.{is_exchange}
use Rattle.rz_isa.specs.Canonical.{canonical}
use Rattle.rz_isa.specs.Emitted.{has_lookup}
use Rattle.rz_isa.specs.Spells.{Spells}
use Rattle.rz_table.specs.declared.profile_rows.TheConstants.{PROFILE}

-- Rows of profile 1, evaluated.

-- ---- bytes and what they name at 0x1000

-- mov rbp, rsp
mov_of_registers : Spells PROFILE (0x48 ∷ 0x89 ∷ 0xe5 ∷ []) 0x1000 (insns.Mov W64 (places.Reg (regs.R 5)) (operands.Place (places.Reg (regs.R 4))))
mov_of_registers = record {
  n = 79;
  row = _;
  in_table = refl;
  by_row = record {
    parts = record { prefixes = []; rex = Some 0x48; opcode = 0x89; rm = (0xe5 ∷ []); imm = [] };
    spelled = record { bytes = refl; fits = record { prefixes = refl; lock = refl; rex = refl; w = refl; opcode = refl; b = refl; rm = refl; imm = refl }; all = refl; short = refl };
    names = refl;
  };
}

-- 67 stands on E8 and changes nothing; the target is named by its address
call_with_67 : Spells PROFILE (0x67 ∷ 0xe8 ∷ 0x00 ∷ 0x00 ∷ 0x00 ∷ 0x00 ∷ []) 0x1000 (insns.Call 0x1006)
call_with_67 = record {
  n = 162;
  row = _;
  in_table = refl;
  by_row = record {
    parts = record { prefixes = (0x67 ∷ []); rex = None; opcode = 0xe8; rm = []; imm = (0x00 ∷ 0x00 ∷ 0x00 ∷ 0x00 ∷ []) };
    spelled = record { bytes = refl; fits = record { prefixes = refl; lock = refl; rex = refl; w = refl; opcode = refl; b = refl; rm = refl; imm = refl }; all = refl; short = refl };
    names = refl;
  };
}

-- 66 twice before the Nop of several bytes
long_nop : Spells PROFILE (0x66 ∷ 0x66 ∷ 0x0f ∷ 0x1f ∷ 0x00 ∷ []) 0x1000 (insns.Nop)
long_nop = record {
  n = 174;
  row = _;
  in_table = refl;
  by_row = record {
    parts = record { prefixes = (0x66 ∷ 0x66 ∷ []); rex = None; opcode = 0x1f; rm = (0x00 ∷ []); imm = [] };
    spelled = record { bytes = refl; fits = record { prefixes = refl; lock = refl; rex = refl; w = refl; opcode = refl; b = refl; rm = refl; imm = refl }; all = refl; short = refl };
    names = refl;
  };
}

-- 66 twelve times, 15 bytes
longest_nop : Spells PROFILE (0x66 ∷ 0x66 ∷ 0x66 ∷ 0x66 ∷ 0x66 ∷ 0x66 ∷ 0x66 ∷ 0x66 ∷ 0x66 ∷ 0x66 ∷ 0x66 ∷ 0x66 ∷ 0x0f ∷ 0x1f ∷ 0x00 ∷ []) 0x1000 (insns.Nop)
longest_nop = record {
  n = 174;
  row = _;
  in_table = refl;
  by_row = record {
    parts = record { prefixes = (0x66 ∷ 0x66 ∷ 0x66 ∷ 0x66 ∷ 0x66 ∷ 0x66 ∷ 0x66 ∷ 0x66 ∷ 0x66 ∷ 0x66 ∷ 0x66 ∷ 0x66 ∷ []); rex = None; opcode = 0x1f; rm = (0x00 ∷ []); imm = [] };
    spelled = record { bytes = refl; fits = record { prefixes = refl; lock = refl; rex = refl; w = refl; opcode = refl; b = refl; rm = refl; imm = refl }; all = refl; short = refl };
    names = refl;
  };
}

-- F3 90
pause : Spells PROFILE (0xf3 ∷ 0x90 ∷ []) 0x1000 (insns.Nop)
pause = record {
  n = 173;
  row = _;
  in_table = refl;
  by_row = record {
    parts = record { prefixes = (0xf3 ∷ []); rex = None; opcode = 0x90; rm = []; imm = [] };
    spelled = record { bytes = refl; fits = record { prefixes = refl; lock = refl; rex = refl; w = refl; opcode = refl; b = refl; rm = refl; imm = refl }; all = refl; short = refl };
    names = refl;
  };
}

-- 90 with REX.B is an exchange
exchange_of_r8 : Spells PROFILE (0x41 ∷ 0x90 ∷ []) 0x1000 (insns.Xchg W32 (places.Reg (regs.R 8)) (regs.R 0))
exchange_of_r8 = record {
  n = 171;
  row = _;
  in_table = refl;
  by_row = record {
    parts = record { prefixes = []; rex = Some 0x41; opcode = 0x90; rm = []; imm = [] };
    spelled = record { bytes = refl; fits = record { prefixes = refl; lock = refl; rex = refl; w = refl; opcode = refl; b = refl; rm = refl; imm = refl }; all = refl; short = refl };
    names = refl;
  };
}

-- F3 0F 1E FA
endbr64 : Spells PROFILE (0xf3 ∷ 0x0f ∷ 0x1e ∷ 0xfa ∷ []) 0x1000 (insns.Nop)
endbr64 = record {
  n = 175;
  row = _;
  in_table = refl;
  by_row = record {
    parts = record { prefixes = (0xf3 ∷ []); rex = None; opcode = 0x1e; rm = (0xfa ∷ []); imm = [] };
    spelled = record { bytes = refl; fits = record { prefixes = refl; lock = refl; rex = refl; w = refl; opcode = refl; b = refl; rm = refl; imm = refl }; all = refl; short = refl };
    names = refl;
  };
}

-- 63 with REX.W
double_extension : Spells PROFILE (0x48 ∷ 0x63 ∷ 0xc0 ∷ []) 0x1000 (insns.Extend true W64 W32 0 (places.Reg (regs.R 0)))
double_extension = record {
  n = 92;
  row = _;
  in_table = refl;
  by_row = record {
    parts = record { prefixes = []; rex = Some 0x48; opcode = 0x63; rm = (0xc0 ∷ []); imm = [] };
    spelled = record { bytes = refl; fits = record { prefixes = refl; lock = refl; rex = refl; w = refl; opcode = refl; b = refl; rm = refl; imm = refl }; all = refl; short = refl };
    names = refl;
  };
}

-- 66 has no effect beside REX.W
wide_move_with_66 : Spells PROFILE (0x66 ∷ 0x48 ∷ 0x89 ∷ 0xe5 ∷ []) 0x1000 (insns.Mov W64 (places.Reg (regs.R 5)) (operands.Place (places.Reg (regs.R 4))))
wide_move_with_66 = record {
  n = 79;
  row = _;
  in_table = refl;
  by_row = record {
    parts = record { prefixes = (0x66 ∷ []); rex = Some 0x48; opcode = 0x89; rm = (0xe5 ∷ []); imm = [] };
    spelled = record { bytes = refl; fits = record { prefixes = refl; lock = refl; rex = refl; w = refl; opcode = refl; b = refl; rm = refl; imm = refl }; all = refl; short = refl };
    names = refl;
  };
}

-- Set takes any reg field
set_with_reg_field_7 : Spells PROFILE (0x0f ∷ 0x94 ∷ 0xf8 ∷ []) 0x1000 (insns.Set conds.E (places.Reg (regs.R 0)))
set_with_reg_field_7 = record {
  n = 156;
  row = _;
  in_table = refl;
  by_row = record {
    parts = record { prefixes = []; rex = None; opcode = 0x94; rm = (0xf8 ∷ []); imm = [] };
    spelled = record { bytes = refl; fits = record { prefixes = refl; lock = refl; rex = refl; w = refl; opcode = refl; b = refl; rm = refl; imm = refl }; all = refl; short = refl };
    names = refl;
  };
}

-- 2E once
nop_with_2e : Spells PROFILE (0x2e ∷ 0x90 ∷ []) 0x1000 (insns.Nop)
nop_with_2e = record {
  n = 172;
  row = _;
  in_table = refl;
  by_row = record {
    parts = record { prefixes = (0x2e ∷ []); rex = None; opcode = 0x90; rm = []; imm = [] };
    spelled = record { bytes = refl; fits = record { prefixes = refl; lock = refl; rex = refl; w = refl; opcode = refl; b = refl; rm = refl; imm = refl }; all = refl; short = refl };
    names = refl;
  };
}

-- ---- canonical spellings

one_to_rax : canonical PROFILE (insns.Mov W64 (places.Reg (regs.R 0)) (operands.Imm 1)) 0x1000 forms.Near ≡ Some (0x48 ∷ 0xc7 ∷ 0xc0 ∷ 0x01 ∷ 0x00 ∷ 0x00 ∷ 0x00 ∷ [])
one_to_rax = refl

address_of_stack : canonical PROFILE (insns.Lea W64 4 (places.Mem (record { base = Some 4; index = None; scale = 1; disp = pos 16 }))) 0x1000 forms.Near ≡ Some (0x48 ∷ 0x8d ∷ 0x64 ∷ 0x24 ∷ 0x10 ∷ [])
address_of_stack = refl

-- MOV of an immediate: the register's own opcode at 32 bits, C7 at 64 where four bytes do, else eight
one_to_eax : canonical PROFILE (insns.Mov W32 (places.Reg (regs.R 0)) (operands.Imm 1)) 0x1000 forms.Near ≡ Some (0xb8 ∷ 0x01 ∷ 0x00 ∷ 0x00 ∷ 0x00 ∷ [])
one_to_eax = refl

eight_bytes_to_rax : canonical PROFILE (insns.Mov W64 (places.Reg (regs.R 0)) (operands.Imm 0x80000000)) 0x1000 forms.Near ≡ Some (0x48 ∷ 0xb8 ∷ 0x00 ∷ 0x00 ∷ 0x00 ∷ 0x80 ∷ 0x00 ∷ 0x00 ∷ 0x00 ∷ 0x00 ∷ [])
eight_bytes_to_rax = refl

-- 81 and not the accumulator's opcode
sum_in_eax : canonical PROFILE (insns.Arith ariths.Add W32 (places.Reg (regs.R 0)) (operands.Imm 0x12345678)) 0x1000 forms.Near ≡ Some (0x81 ∷ 0xc0 ∷ 0x78 ∷ 0x56 ∷ 0x34 ∷ 0x12 ∷ [])
sum_in_eax = refl

-- 87 and not the register's opcode
exchange_with_eax : canonical PROFILE (insns.Xchg W32 (places.Reg (regs.R 1)) (regs.R 0)) 0x1000 forms.Near ≡ Some (0x87 ∷ 0xc1 ∷ [])
exchange_with_eax = refl

-- D1 and not C1
shift_by_one : canonical PROFILE (insns.Shift shifts.Shl W32 (places.Reg (regs.R 0)) (counts.Imm 1)) 0x1000 forms.Near ≡ Some (0xd1 ∷ 0xe0 ∷ [])
shift_by_one = refl

-- 66 stands before F3
ones_of_cx : canonical PROFILE (insns.Scan scans.Popcnt W16 0 (places.Reg (regs.R 1))) 0x1000 forms.Near ≡ Some (0x66 ∷ 0xf3 ∷ 0x0f ∷ 0xb8 ∷ 0xc1 ∷ [])
ones_of_cx = refl

-- ---- the shortest spelling: RBP and R13 need a displacement, RSP and R12 a SIB

base_rax : canonical PROFILE (insns.Lea W64 0 (places.Mem (record { base = Some 0; index = None; scale = 1; disp = pos 0 }))) 0x1000 forms.Near ≡ Some (0x48 ∷ 0x8d ∷ 0x00 ∷ [])
base_rax = refl

base_rbp : canonical PROFILE (insns.Lea W64 0 (places.Mem (record { base = Some 5; index = None; scale = 1; disp = pos 0 }))) 0x1000 forms.Near ≡ Some (0x48 ∷ 0x8d ∷ 0x45 ∷ 0x00 ∷ [])
base_rbp = refl

base_r13 : canonical PROFILE (insns.Lea W64 0 (places.Mem (record { base = Some 13; index = None; scale = 1; disp = pos 0 }))) 0x1000 forms.Near ≡ Some (0x49 ∷ 0x8d ∷ 0x45 ∷ 0x00 ∷ [])
base_r13 = refl

base_rsp : canonical PROFILE (insns.Lea W64 0 (places.Mem (record { base = Some 4; index = None; scale = 1; disp = pos 0 }))) 0x1000 forms.Near ≡ Some (0x48 ∷ 0x8d ∷ 0x04 ∷ 0x24 ∷ [])
base_rsp = refl

base_r12 : canonical PROFILE (insns.Lea W64 0 (places.Mem (record { base = Some 12; index = None; scale = 1; disp = pos 0 }))) 0x1000 forms.Near ≡ Some (0x49 ∷ 0x8d ∷ 0x04 ∷ 0x24 ∷ [])
base_r12 = refl

no_base : canonical PROFILE (insns.Lea W64 0 (places.Mem (record { base = None; index = None; scale = 1; disp = pos 0x1000 }))) 0x1000 forms.Near ≡ Some (0x48 ∷ 0x8d ∷ 0x04 ∷ 0x25 ∷ 0x00 ∷ 0x10 ∷ 0x00 ∷ 0x00 ∷ [])
no_base = refl

index_alone : canonical PROFILE (insns.Lea W64 0 (places.Mem (record { base = None; index = Some 1; scale = 4; disp = pos 16 }))) 0x1000 forms.Near ≡ Some (0x48 ∷ 0x8d ∷ 0x04 ∷ 0x8d ∷ 0x10 ∷ 0x00 ∷ 0x00 ∷ 0x00 ∷ [])
index_alone = refl

base_and_index : canonical PROFILE (insns.Lea W64 0 (places.Mem (record { base = Some 13; index = Some 12; scale = 8; disp = negsuc 0 }))) 0x1000 forms.Near ≡ Some (0x4b ∷ 0x8d ∷ 0x44 ∷ 0xe5 ∷ 0xff ∷ [])
base_and_index = refl

-- one byte of displacement from -128 to 127
displacement_minus_129 : canonical PROFILE (insns.Lea W64 0 (places.Mem (record { base = Some 1; index = None; scale = 1; disp = negsuc 128 }))) 0x1000 forms.Near ≡ Some (0x48 ∷ 0x8d ∷ 0x81 ∷ 0x7f ∷ 0xff ∷ 0xff ∷ 0xff ∷ [])
displacement_minus_129 = refl

displacement_minus_128 : canonical PROFILE (insns.Lea W64 0 (places.Mem (record { base = Some 1; index = None; scale = 1; disp = negsuc 127 }))) 0x1000 forms.Near ≡ Some (0x48 ∷ 0x8d ∷ 0x41 ∷ 0x80 ∷ [])
displacement_minus_128 = refl

displacement_127 : canonical PROFILE (insns.Lea W64 0 (places.Mem (record { base = Some 1; index = None; scale = 1; disp = pos 127 }))) 0x1000 forms.Near ≡ Some (0x48 ∷ 0x8d ∷ 0x41 ∷ 0x7f ∷ [])
displacement_127 = refl

displacement_128 : canonical PROFILE (insns.Lea W64 0 (places.Mem (record { base = Some 1; index = None; scale = 1; disp = pos 128 }))) 0x1000 forms.Near ≡ Some (0x48 ∷ 0x8d ∷ 0x81 ∷ 0x80 ∷ 0x00 ∷ 0x00 ∷ 0x00 ∷ [])
displacement_128 = refl

rip_relative : canonical PROFILE (insns.Lea W64 0 (places.At 0x2000)) 0x1000 forms.Near ≡ Some (0x48 ∷ 0x8d ∷ 0x05 ∷ 0xf9 ∷ 0x0f ∷ 0x00 ∷ 0x00 ∷ [])
rip_relative = refl

-- REX for SPL alone, none for AH
one_to_spl : canonical PROFILE (insns.Mov W8 (places.Reg (regs.R 4)) (operands.Imm 1)) 0x1000 forms.Near ≡ Some (0x40 ∷ 0xb4 ∷ 0x01 ∷ [])
one_to_spl = refl

one_to_ah : canonical PROFILE (insns.Mov W8 (places.Reg (regs.High 0)) (operands.Imm 1)) 0x1000 forms.Near ≡ Some (0xb4 ∷ 0x01 ∷ [])
one_to_ah = refl

repeated_words : canonical PROFILE (insns.Movs W16 true) 0x1000 forms.Near ≡ Some (0x66 ∷ 0xf3 ∷ 0xa5 ∷ [])
repeated_words = refl

repeated_quads : canonical PROFILE (insns.Movs W64 true) 0x1000 forms.Near ≡ Some (0xf3 ∷ 0x48 ∷ 0xa5 ∷ [])
repeated_quads = refl

one_double : canonical PROFILE (insns.Movs W32 false) 0x1000 forms.Near ≡ Some (0xa5 ∷ [])
one_double = refl

-- memory at an absolute address
rcx_to_scratch : canonical PROFILE (insns.Mov W64 (places.Mem (record { base = None; index = None; scale = 1; disp = pos 0x5000 })) (operands.Place (places.Reg (regs.R 1)))) 0x1000 forms.Near ≡ Some (0x48 ∷ 0x89 ∷ 0x0c ∷ 0x25 ∷ 0x00 ∷ 0x50 ∷ 0x00 ∷ 0x00 ∷ [])
rcx_to_scratch = refl

push_of_a_byte : canonical PROFILE (insns.Push (operands.Imm 0x7f)) 0x1000 forms.Near ≡ Some (0x6a ∷ 0x7f ∷ [])
push_of_a_byte = refl

push_of_four_bytes : canonical PROFILE (insns.Push (operands.Imm 0x80)) 0x1000 forms.Near ≡ Some (0x68 ∷ 0x80 ∷ 0x00 ∷ 0x00 ∷ 0x00 ∷ [])
push_of_four_bytes = refl

-- ---- of the lookup routine

-- profile 1 has transfers that are looked up
profile_has_lookup : has_lookup PROFILE ≡ true
profile_has_lookup = refl

shift_right_once : canonical PROFILE (insns.Shift shifts.Shr W32 (places.Reg (regs.R 1)) (counts.Imm 1)) 0x1000 forms.Near ≡ Some (0xd1 ∷ 0xe9 ∷ [])
shift_right_once = refl

shift_right : canonical PROFILE (insns.Shift shifts.Shr W32 (places.Reg (regs.R 1)) (counts.Imm 5)) 0x1000 forms.Near ≡ Some (0xc1 ∷ 0xe9 ∷ 0x05 ∷ [])
shift_right = refl

sum_with_a_byte : canonical PROFILE (insns.Arith ariths.Add W64 (places.Reg (regs.R 1)) (operands.Imm 1)) 0x1000 forms.Near ≡ Some (0x48 ∷ 0x83 ∷ 0xc1 ∷ 0x01 ∷ [])
sum_with_a_byte = refl

compare_with_four_bytes : canonical PROFILE (insns.Arith ariths.Cmp W64 (places.Reg (regs.R 1)) (operands.Imm 0x1000)) 0x1000 forms.Near ≡ Some (0x48 ∷ 0x81 ∷ 0xf9 ∷ 0x00 ∷ 0x10 ∷ 0x00 ∷ 0x00 ∷ [])
compare_with_four_bytes = refl

jump_through_memory : canonical PROFILE (insns.JmpInd (places.Mem (record { base = None; index = None; scale = 1; disp = pos 0x5000 }))) 0x1000 forms.Near ≡ Some (0xff ∷ 0x24 ∷ 0x25 ∷ 0x00 ∷ 0x50 ∷ 0x00 ∷ 0x00 ∷ [])
jump_through_memory = refl

-- ---- each row once: plain fields can be had, and are found again from what they build

-- the exchange has no register 0
abbrev pub plain : Row → Fields
plain r = if is_exchange r.op then record (least r) { reg = regs.R 1 } else least r

abbrev pub is_built_back : Row → Bool
is_built_back r = can_have r (plain r) && is_some (found r (build_op r.op (plain r)))

each_built_back : list_all is_built_back PROFILE ≡ true
each_built_back = refl
