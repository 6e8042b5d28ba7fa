-- The symbol table that is found in a file, with its strings.
use Rattle.std.specs.Prelude.{ℕ, ◌+◌, ◌≤◌, ◌==◌, if◌then◌else◌, List, Option, Some, None, option_map}
use Rattle.rz_text.specs.Fault.{or_else}
use Rattle.rz_syms.specs.declared.fault.SymFault.{SymFault}
use Rattle.rz_syms.specs.declared.section.Section.{Section}
use Rattle.rz_syms.specs.declared.table.Table.{Table}
use Rattle.rz_syms.specs.Sections.{section_table_of, string_table, symbol_table}
use Rattle.rz_syms.specs.Fault.{header_fault, table_fault}

-- a section that stands in a file of so many bytes
abbrev pub IsInside : ℕ → Section → Type 0
IsInside len s = s.offset + s.size ≤ len

-- a symbol table with its string table
abbrev pub table_of : List ℕ → Section → Table
table_of x t = record { symbols = t; strings = string_table x t }

-- both stand in the file
pub record IsStanding (len : ℕ) (t : Table) : Type 0 where
  pub symbols : IsInside len t.symbols
  pub strings : IsInside len t.strings

-- the table that is found, and the fault in the way
abbrev pub found_table : List ℕ → Option Table
found_table x = option_map (table_of x) (symbol_table x)

abbrev pub fault_with : List ℕ → Option Section → Option SymFault
fault_with x None = None
fault_with x (Some t) = table_fault x t

abbrev pub found_fault : List ℕ → Option SymFault
found_fault x =
    if (section_table_of x).count == 0 then None else or_else (header_fault x) (fault_with x (symbol_table x))
