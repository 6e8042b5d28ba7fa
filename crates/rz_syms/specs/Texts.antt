-- The printed names of faults of symbol tables.
use Rattle.std.specs.Prelude.{ℕ, List, ◌++◌, codes, decimal}
use Rattle.rz_syms.specs.declared.fault.SymFault.{SymFault}
use Rattle.rz_syms.specs.declared.fault.SymFault.TheVariants as fault

-- what is printed of a fault: its name, and the number of the symbol that has it
abbrev pub fault_text : SymFault → List ℕ
fault_text fault.SectionSize = codes "SectionSize"
fault_text fault.SectionRange = codes "SectionRange"
fault_text fault.SymbolEntry = codes "SymbolEntry"
fault_text fault.SymbolRange = codes "SymbolRange"
fault_text fault.StringLink = codes "StringLink"
fault_text fault.StringRange = codes "StringRange"
fault_text (fault.Name number) = codes "Name " ++ decimal number
