use Rattle.std.specs.Prelude.{ℕ, ◌+◌, ◌∷◌, [], None, refl, IsTrue}
use Rattle.rz_flags.specs.declared.ArithOp.{ArithOp}
use Rattle.rz_flags.specs.declared.ArithOp.TheVariants as ariths
use Rattle.rz_flags.specs.declared.ShiftOp.TheVariants as shifts
use Rattle.rz_isa.specs.declared.rows.OpMap.TheVariants as maps
use Rattle.rz_isa.specs.declared.rows.Size.TheVariants as sizes
use Rattle.rz_isa.specs.declared.rows.Form.TheVariants as forms
use Rattle.rz_isa.specs.declared.rows.Op.TheVariants as ops
use Rattle.rz_isa.specs.declared.instruction.Insn.TheVariants as insns
use Rattle.rz_isa.specs.declared.instruction.Place.TheVariants as places
use Rattle.rz_isa.specs.declared.instruction.Operand.TheVariants as operands
use Rattle.rz_isa.specs.declared.instruction.Count.TheVariants as counts
use Rattle.rz_isa.specs.Emitted.{Emits, EmitsLookup, has_lookup, register}
use Rattle.rz_isa.specs.Laws.Served.{emits_load, emits_store, emits_store_imm, emits_load_32, emits_mov, emits_lea, emits_push, emits_push_byte, emits_push_imm, emits_pop, emits_jcc, emits_jcc_short, emits_jrcxz, emits_jmp, emits_jmp_short, emits_bare, emits_bytes, lone_row, Serves, ServesBut, each_double, each_arith, arith_row, arith_load_row, arith_byte_row, arith_imm_row, shr_once_row, shr_once_byte_row, shr_row, emits_arith, emits_arith_load, emits_arith_store, emits_arith_byte, emits_arith_imm, emits_shr_once, emits_shr, emits_jmp_ind}
use Rattle.rz_table.specs.declared.profile_rows.TheConstants.{PROFILE}

-- Profile 1 emits what it must, and what the lookup routine is made of.

pub emits : Emits PROFILE
emits = record {
  load = λ r at p. emits_load PROFILE 81 79 r at p (λ m. refl) (λ a. refl) (λ q. refl);
  store = λ r at m. emits_store PROFILE 79 r at m refl;
  store_imm = λ k at m. emits_store_imm PROFILE 85 k at m refl;
  load_32 = λ r at m. emits_load_32 PROFILE 81 r at m refl;
  mov = λ r k at. emits_mov PROFILE 83 r k at refl;
  lea = λ r at m. emits_lea PROFILE 87 r at m refl;
  push = λ r at. emits_push PROFILE 93 r at refl;
  push_byte = λ k at. emits_push_byte PROFILE 95 k at refl;
  push_imm = λ k at. emits_push_imm PROFILE 96 k at (95 ∷ []) (refl, refl);
  pop = λ r at. emits_pop PROFILE 97 r at refl;
  jcc = λ c t at. emits_jcc PROFILE 158 c t at refl;
  jcc_short = λ c t at. emits_jcc_short PROFILE 157 c t at refl;
  jrcxz = λ t at. emits_jrcxz PROFILE 159 t at refl;
  jmp = λ t at. emits_jmp PROFILE 161 t at refl;
  jmp_short = λ t at. emits_jmp_short PROFILE 160 t at refl;
  syscall = λ at. emits_bare PROFILE insns.Syscall 199 at 2 (lone_row maps.Two 0x05 sizes.N None forms.Near ops.Syscall) refl refl refl refl refl (λ next. refl);
  ud2 = λ at. emits_bytes PROFILE insns.Ud2 200 at (lone_row maps.Two 0x0b sizes.N None forms.Near ops.Ud2) (0x0f ∷ 0x0b ∷ []) refl refl refl refl (λ next. refl) (λ next. refl);
  hlt = λ at. emits_bare PROFILE insns.Hlt 201 at 1 (lone_row maps.One 0xf4 sizes.N None forms.Near ops.Hlt) refl refl refl refl refl (λ next. refl);
  int3 = λ at. emits_bare PROFILE insns.Int3 202 at 1 (lone_row maps.One 0xcc sizes.N None forms.Near ops.Int3) refl refl refl refl refl (λ next. refl);
}

-- the first row of an operation
abbrev arith_at : ArithOp → ℕ
arith_at ariths.Sub = 45
arith_at ariths.Cmp = 63
arith_at _ = 0

pub emits_lookup : IsTrue (has_lookup PROFILE) → EmitsLookup PROFILE
emits_lookup h = record {
  arith = λ o w r q at ho hw. emits_arith PROFILE (arith_at o + 1) o w r q at
      (each_arith (λ o w. Serves PROFILE forms.Near (insns.Arith o w (register r) (operands.Place (register q))) (arith_at o + 1) (arith_row o)) refl refl refl refl refl refl o w ho hw) hw;
  arith_load = λ o w r at m ho hw. emits_arith_load PROFILE (arith_at o + 3) o w r at m
      (each_arith (λ o w. Serves PROFILE forms.Near (insns.Arith o w (register r) (operands.Place (places.Mem m))) (arith_at o + 3) (arith_load_row o)) refl refl refl refl refl refl o w ho hw) hw;
  arith_store = λ o w r at m ho hw. emits_arith_store PROFILE (arith_at o + 1) o w r at m
      (each_arith (λ o w. Serves PROFILE forms.Near (insns.Arith o w (places.Mem m) (operands.Place (register r))) (arith_at o + 1) (arith_row o)) refl refl refl refl refl refl o w ho hw) hw;
  arith_byte = λ o w r n at ho hw. emits_arith_byte PROFILE (arith_at o + 4) o w r n at
      (each_arith (λ o w. Serves PROFILE forms.Near (insns.Arith o w (register r) (operands.Imm n)) (arith_at o + 4) (arith_byte_row o)) refl refl refl refl refl refl o w ho hw) hw;
  arith_imm = λ o w r n at ho hw. emits_arith_imm PROFILE (arith_at o + 6) o w r n at ((arith_at o + 4) ∷ [])
      (each_arith (λ o w. ServesBut PROFILE forms.Near (insns.Arith o w (register r) (operands.Imm n)) (arith_at o + 6) (arith_imm_row o) ((arith_at o + 4) ∷ []) (arith_byte_row o ∷ []))
      (refl, refl) (refl, refl) (refl, refl) (refl, refl) (refl, refl) (refl, refl) o w ho hw) hw;
  shr_once = λ w r at hw. emits_shr_once PROFILE 129 w r at
      (each_double (λ w. Serves PROFILE forms.Near (insns.Shift shifts.Shr w (register r) (counts.Imm 1)) 129 shr_once_row) refl refl w hw) hw;
  shr = λ w r n at hw. emits_shr PROFILE 139 w r n at (124 ∷ 4 ∷ [])
      (each_double (λ w. ServesBut PROFILE forms.Near (insns.Shift shifts.Shr w (register r) (counts.Imm n)) 139 shr_row (124 ∷ 4 ∷ []) (shr_once_byte_row ∷ shr_once_row ∷ [])) (refl, refl) (refl, refl) w hw) hw;
  push_flags = λ at. emits_bare PROFILE insns.PushFlags 100 at 1 (lone_row maps.One 0x9c sizes.Q None forms.Near ops.PushFlags) refl refl refl refl refl (λ next. refl);
  pop_flags = λ at. emits_bare PROFILE insns.PopFlags 101 at 1 (lone_row maps.One 0x9d sizes.Q None forms.Near ops.PopFlags) refl refl refl refl refl (λ next. refl);
  jmp_ind = λ at m. emits_jmp_ind PROFILE 164 at m refl;
}
