use Rattle.std.proofs.Common.{◌≡◌}
use Rattle.std.specs.Prelude.{find}
use Rattle.rz_syms.specs.Sections.{is_symbol_table, symbol_table}
use Rattle.rz_syms.proofs.TableLaws.{sections_from}
use Rattle.rz_syms.proofs.table.first_table.Given as goal

abbrev pub invariant-loop-index : goal.invariant-loop-index
invariant-loop-index l = find is_symbol_table (sections_from l.header l.file l.index) ≡ symbol_table l.file
