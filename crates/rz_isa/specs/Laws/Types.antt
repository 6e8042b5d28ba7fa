-- The declared types under one roof, for the proofs.

pub use Rattle.rz_flags.specs.declared.ArithOp.{ArithOp}
pub use Rattle.rz_flags.specs.declared.BitOp.{BitOp}
pub use Rattle.rz_flags.specs.declared.Cond.{Cond}
pub use Rattle.rz_flags.specs.declared.FlagOp.{FlagOp}
pub use Rattle.rz_flags.specs.declared.ScanOp.{ScanOp}
pub use Rattle.rz_flags.specs.declared.ShiftOp.{ShiftOp}
pub use Rattle.rz_flags.specs.declared.UnaryOp.{UnaryOp}
pub use Rattle.rz_flags.specs.declared.WideOp.{WideOp}
pub use Rattle.rz_isa.specs.declared.instruction.BitIndex.{BitIndex}
pub use Rattle.rz_isa.specs.declared.instruction.Count.{Count}
pub use Rattle.rz_isa.specs.declared.instruction.Insn.{Insn}
pub use Rattle.rz_isa.specs.declared.instruction.Mem.{Mem}
pub use Rattle.rz_isa.specs.declared.instruction.Operand.{Operand}
pub use Rattle.rz_isa.specs.declared.instruction.Place.{Place}
pub use Rattle.rz_isa.specs.declared.instruction.Reg.{Reg}
pub use Rattle.rz_isa.specs.declared.rows.F3Rule.{F3Rule}
pub use Rattle.rz_isa.specs.declared.rows.Form.{Form}
pub use Rattle.rz_isa.specs.declared.rows.ImmKind.{ImmKind}
pub use Rattle.rz_isa.specs.declared.rows.Letter.{Letter}
pub use Rattle.rz_isa.specs.declared.rows.Op.{Op}
pub use Rattle.rz_isa.specs.declared.rows.OpMap.{OpMap}
pub use Rattle.rz_isa.specs.declared.rows.RmRule.{RmRule}
pub use Rattle.rz_isa.specs.declared.rows.Row.{Row}
pub use Rattle.rz_isa.specs.declared.rows.Size.{Size}
pub use Rattle.rz_isa.specs.declared.spelled.Fields.{Fields}
pub use Rattle.rz_num.specs.declared.width.Width.{Width}
pub use Rattle.rz_num.specs.declared.width.Width.TheVariants.{W8, W16, W32, W64}
