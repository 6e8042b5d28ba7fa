use Rattle.std.specs.Prelude.{ℕ, ◌≡◌, ◌+◌, ◌^◌, ◌≤◌, ◌<◌, ◌⊎◌, List, Some, None, IsTrue, IsSome, slice_get, if◌then◌else◌}
use Rattle.rz_isa.specs.declared.rows.Row.{Row}
use Rattle.rz_isa.specs.declared.rows.Form.TheVariants as forms
use Rattle.rz_isa.specs.declared.rows.Op.{Op}
use Rattle.rz_isa.specs.declared.instruction.Insn.{Insn}
use Rattle.rz_isa.specs.declared.instruction.Place.{Place}
use Rattle.rz_isa.specs.declared.spelled.Fields.{Fields}
use Rattle.rz_isa.specs.Fields.{build_op}
use Rattle.rz_isa.specs.Insn.{target_of, rip_of, rip_target_of}
use Rattle.rz_isa.specs.Suited.{is_displacement}
use Rattle.rz_isa.specs.Spells.{Spells}
use Rattle.rz_isa.specs.Canonical.{canonical}
use Rattle.rz_isa.specs.Table.{SpelledSomewhere}
use Rattle.rz_isa.specs.Emitted.{is_wide_operand, indirect_operand}

-- What an instruction names by its address: its direct target and its RIP-relative operand.

-- the operation doesn't use its ModRM operand, and then names no address by it
pub record IgnoresPlace (op : Op) : Type 0 where
  pub same : (f : Fields) (p : Place) → build_op op (record f { rm = p }) ≡ build_op op f
  pub none : (f : Fields) → rip_target_of (build_op op f) ≡ None

-- what is named relative to RIP is named by the ModRM operand, exactly where the operation uses it
abbrev pub RipTargets : Type 0
RipTargets = (op : Op) → IgnoresPlace op ⊎ ((f : Fields) → rip_target_of (build_op op f) ≡ rip_of f.rm)

-- a direct target is the immediate, exactly of the rows that have a displacement from the next address
abbrev pub DirectTargets : List Row → Type 0
DirectTargets rows = (n : ℕ) (row : Row) (f : Fields) → slice_get rows n ≡ Some row → target_of (build_op row.op f) ≡ (if is_displacement row.imm then Some f.imm else None)

-- what an indirect call or jump reads is an operand of 64 bits, so it can be moved to a register
abbrev pub IndirectOperands : List Row → Type 0
IndirectOperands rows = (n : ℕ) (row : Row) (x : Insn) (p : Place) → slice_get rows n ≡ Some row → SpelledSomewhere row x → indirect_operand x ≡ Some p → IsTrue (is_wide_operand p)

-- what the instruction names relative to RIP, if anything, is low
abbrev pub NamesLow : Insn → Type 0
NamesLow x = (a : ℕ) → rip_target_of x ≡ Some a → a < 2 ^ 31

-- an instruction without a direct target that some row spells somewhere has a canonical spelling
-- at every low address, where what it names relative to RIP is low, too
abbrev pub SpelledElsewhere : List Row → Type 0
SpelledElsewhere rows = (x : Insn) (s : List ℕ) (b at : ℕ) → Spells rows s b x → target_of x ≡ None → at + 32 ≤ 2 ^ 31 → NamesLow x → IsSome (canonical rows x at forms.Near)
