use Rattle.std.proofs.Common.{◌≡◌}
use Rattle.rz_syms.specs.Fault.{name_fault}
use Rattle.rz_syms.specs.Symbols.{symbols_in}
use Rattle.rz_syms.proofs.NameLaws.{fault_from}
use Rattle.rz_syms.proofs.named.first_unended.Given as goal

abbrev pub invariant-loop-number : goal.invariant-loop-number
invariant-loop-number l = fault_from l.strings l.symbols l.number ≡ name_fault l.strings 0 (symbols_in l.symbols)
