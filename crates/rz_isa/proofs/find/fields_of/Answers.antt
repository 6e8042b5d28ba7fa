use Rattle.std.proofs.Common.{◌≡◌, sym, Option, Some, None, true}
use Rattle.std.specs.Prelude.{IfSome, IfNone}
use Rattle.rz_isa.specs.declared.rows.Row.{Row}
use Rattle.rz_isa.specs.declared.instruction.Insn.{Insn}
use Rattle.rz_isa.specs.declared.spelled.Fields.{Fields}
use Rattle.rz_isa.specs.Finding.{found}
use Rattle.rz_isa.specs.Regular.{is_regular}
use Rattle.rz_isa.specs.Spells.{Builds, NoneBuilds}
use Rattle.rz_isa.specs.Laws.Choice.{found_builds, none_builds}
use Rattle.rz_isa.proofs.find.fields_of.Goals as goal

when_some : (row : Row) (x : Insn) (o : Option Fields) → is_regular row ≡ true → o ≡ found row x → IfSome o (Builds row x)
when_some row x None reg e = tt
when_some row x (Some g) reg e = found_builds row x g reg (sym e)

when_none : (row : Row) (x : Insn) (o : Option Fields) → is_regular row ≡ true → o ≡ found row x → IfNone o (NoneBuilds row x)
when_none row x None reg e = none_builds row x reg (sym e)
when_none row x (Some g) reg e = tt

pub returns-clause-some : goal.returns-clause-some
returns-clause-some c = λ regular. when_some c.args.row.now c.args.insn.now c.find.result regular c.find.ensures

pub returns-clause-none : goal.returns-clause-none
returns-clause-none c = λ regular. when_none c.args.row.now c.args.insn.now c.find.result regular c.find.ensures
