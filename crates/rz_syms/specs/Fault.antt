-- The first fault of a symbol table (System V gABI, chapter 4, "Sections", "Symbol Table" and "String Table").
use Rattle.std.specs.Prelude.{◌≡◌, ℕ, suc, ◌%◌, ◌==◌, ◌&&◌, not, Bool, if◌then◌else◌, nat_lt, List, [], ◌∷◌, length, drop, Option, Some, None}
use Rattle.std.specs.List.{list_any}
use Rattle.rz_text.specs.Fault.{or_else}
use Rattle.rz_syms.specs.declared.fault.SymFault.{SymFault}
use Rattle.rz_syms.specs.declared.fault.SymFault.TheVariants as fault
use Rattle.rz_syms.specs.declared.fault.SymError.{SymError}
use Rattle.rz_syms.specs.declared.fault.SymError.TheVariants as error
use Rattle.rz_syms.specs.declared.entry.Symbol.{Symbol}
use Rattle.rz_syms.specs.declared.section.Section.{Section}
use Rattle.rz_syms.specs.Sections.{section_table_of, table_end, section_bytes, is_string_table, leaves, symbol_table, string_table, strings}
use Rattle.rz_syms.specs.Symbols.{symbols_in}

-- where a condition holds, there is the fault
abbrev pub Condition : Type 0
Condition = Bool × SymFault

abbrev pub first_of : List Condition → Option SymFault
first_of [] = None
first_of (c ∷ rest) = if c.0 then Some c.1 else first_of rest

-- the fault of the section headers
abbrev pub header_fault : List ℕ → Option SymFault
header_fault x =
    let h = section_table_of x in
    first_of ((not (h.entry_size == 64), fault.SectionSize) ∷ (nat_lt (length x) (table_end h), fault.SectionRange) ∷ [])

-- the fault of a symbol table and its string table
abbrev pub table_fault : List ℕ → Section → Option SymFault
table_fault x t =
    let s = string_table x t in
    first_of
    ((not (t.entry_size == 24 && t.size % 24 == 0), fault.SymbolEntry)
    ∷ (leaves (length x) t, fault.SymbolRange)
    ∷ (not (nat_lt t.link (section_table_of x).count && is_string_table s), fault.StringLink)
    ∷ (leaves (length x) s, fault.StringRange)
    ∷ [])

-- whether the name of a symbol has an end: a zero at or behind its place in a string table
abbrev pub has_end : List ℕ → Symbol → Bool
has_end table s = list_any (λ b. b == 0) (drop s.name table)

-- the fault of the first name without an end, of symbols that are numbered from n on
abbrev pub name_fault : List ℕ → ℕ → List Symbol → Option SymFault
name_fault table n [] = None
name_fault table n (s ∷ rest) = if has_end table s then name_fault table (suc n) rest else Some (fault.Name n)

abbrev pub fault_in : List ℕ → Option Section → Option SymFault
fault_in x None = None
fault_in x (Some t) = or_else (table_fault x t) (name_fault (strings x t) 0 (symbols_in (section_bytes x t)))

-- the first fault of a file's symbol table; none where there are no sections, or none of its type
unfoldable pub fault_of : List ℕ → Option SymFault
fault_of x =
    if (section_table_of x).count == 0 then None else or_else (header_fault x) (fault_in x (symbol_table x))

-- why symbols aren't read
abbrev pub IsCause : List ℕ → SymError → Type 0
IsCause x (error.Fault f) = fault_of x ≡ Some f
IsCause x error.OutOfMemory = Unit {0}
