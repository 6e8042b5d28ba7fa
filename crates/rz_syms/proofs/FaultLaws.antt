-- The first fault of a file by what was found of its symbol table.
use Rattle.std.proofs.Common.{◌≡◌, ℕ, zero, suc, ◌==◌, Bool, true, false, if◌then◌else◌, List, [], drop, Option, Some, None, refl, sym, ap, ◌∙◌, arith}
use Rattle.std.specs.Prelude.{find, option_map}
use Rattle.rz_text.specs.Fault.{or_else}
use Rattle.rz_elf.specs.Loaded.{ElfFile}
use Rattle.rz_syms.specs.declared.fault.SymFault.{SymFault}
use Rattle.rz_syms.specs.declared.section.Section.{Section}
use Rattle.rz_syms.specs.declared.table.Table.{Table}
use Rattle.rz_syms.specs.Sections.{section_table_of, sections_of, section_bytes, is_symbol_table, symbol_table, string_table, strings}
use Rattle.rz_syms.specs.Symbols.{symbols_in, functions_among, functions_in, functions_of}
use Rattle.rz_syms.specs.Fault.{header_fault, name_fault, fault_in, fault_of}
use Rattle.rz_syms.specs.Calls.Found.{table_of, found_table, fault_with, found_fault}

-- the symbol table that was found
table_is : (x : List ℕ) (o : Option Section) (t : Table) → option_map (table_of x) o ≡ Some t → (o ≡ Some t.symbols) × (t.strings ≡ string_table x t.symbols)
table_is x None t h = absurd (cc)
table_is x (Some s) t h =
    let same : table_of x s ≡ t = cc in
    let symbols : s ≡ t.symbols = ap (λ (u : Table). u.symbols) same in
    (ap Some symbols, sym (ap (λ (u : Table). u.strings) same) ∙ ap (string_table x) symbols)

none_is : (x : List ℕ) (o : Option Section) → option_map (table_of x) o ≡ None → o ≡ None
none_is x None h = refl
none_is x (Some s) h = absurd (cc)

-- a file with a symbol table has sections
some_sections : (n : ℕ) (y : List ℕ) (t : Section) → find is_symbol_table (sections_of n y) ≡ Some t → (n == 0) ≡ false
some_sections zero y t h = absurd (cc)
some_sections (suc n) y t h = grind arith

abbrev whole : List ℕ → Bool → Option SymFault → Option Section → Option SymFault
whole x z h o = if z then None else or_else h (fault_in x o)

abbrev part : List ℕ → Bool → Option SymFault → Option Section → Option SymFault
part x z h o = if z then None else or_else h (fault_with x o)

known : (x : List ℕ) (z : Bool) (h : Option SymFault) (t : Section) → z ≡ false → part x z h (Some t) ≡ None → whole x z h (Some t) ≡ name_fault (strings x t) 0 (symbols_in (section_bytes x t))
known x true h t e k = absurd (cc)
known x false (Some f) t e k = absurd (cc)
known x false None t e k = ap (λ a. or_else a (name_fault (strings x t) 0 (symbols_in (section_bytes x t)))) k

faulty : (x : List ℕ) (z : Bool) (h : Option SymFault) (o : Option Section) (f : SymFault) → part x z h o ≡ Some f → whole x z h o ≡ Some f
faulty x true h o f k = absurd (cc)
faulty x false (Some g) o f k = k
faulty x false None None f k = absurd (cc)
faulty x false None (Some t) f k = ap (λ a. or_else a (name_fault (strings x t) 0 (symbols_in (section_bytes x t)))) k

-- the first fault is that in the way
pub fault_found : (x : List ℕ) (f : SymFault) → found_fault x ≡ Some f → fault_of x ≡ Some f
unfolding fault_of
fault_found x f h = faulty x ((section_table_of x).count == 0) (header_fault x) (symbol_table x) f h

-- without a symbol table there is none
pub no_fault : (x : List ℕ) → found_fault x ≡ None → found_table x ≡ None → fault_of x ≡ None
unfolding fault_of
no_fault x h k =
    let none = none_is x (symbol_table x) k in
    ap (whole x ((section_table_of x).count == 0) (header_fault x)) none
    ∙ sym (ap (part x ((section_table_of x).count == 0) (header_fault x)) none)
    ∙ h

pub no_functions : (elf : ElfFile) → found_table elf.bytes ≡ None → functions_of elf ≡ []
unfolding functions_of
no_functions elf k = ap (functions_in elf) (none_is elf.bytes (symbol_table elf.bytes) k)

-- with one, it is that of the names
pub fault_of_names : (x : List ℕ) (t : Table) → found_fault x ≡ None → found_table x ≡ Some t → fault_of x ≡ name_fault (section_bytes x t.strings) 0 (symbols_in (section_bytes x t.symbols))
unfolding fault_of
fault_of_names x t h k =
    let is = table_is x (symbol_table x) t k in
    let some : ((section_table_of x).count == 0) ≡ false = some_sections (section_table_of x).count (drop (section_table_of x).at x) t.symbols is.0 in
    ap (whole x ((section_table_of x).count == 0) (header_fault x)) is.0
    ∙ known x ((section_table_of x).count == 0) (header_fault x) t.symbols some (sym (ap (part x ((section_table_of x).count == 0) (header_fault x)) is.0) ∙ h)
    ∙ ap (λ s. name_fault (section_bytes x s) 0 (symbols_in (section_bytes x t.symbols))) (sym is.1)

-- and the functions are those of its symbols
pub functions_of_table : (elf : ElfFile) (t : Table) → found_table elf.bytes ≡ Some t → functions_of elf ≡ functions_among elf.loads (section_bytes elf.bytes t.strings) (symbols_in (section_bytes elf.bytes t.symbols))
unfolding functions_of
functions_of_table elf t k =
    let is = table_is elf.bytes (symbol_table elf.bytes) t k in
    ap (functions_in elf) is.0
    ∙ ap (λ s. functions_among elf.loads (section_bytes elf.bytes s) (symbols_in (section_bytes elf.bytes t.symbols))) (sym is.1)
