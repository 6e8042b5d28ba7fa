-- The ends of names in a string table, and lines that name functions.
use Rattle.std.specs.Prelude.{◌≡◌, ◌≢◌, ℕ, ◌+◌, ◌<◌, ◌≤◌, List, length, slice_index, Option, Some, None}
use Rattle.rz_syms.specs.declared.fault.SymFault.{SymFault}
use Rattle.rz_syms.specs.declared.fault.SymFault.TheVariants as fault
use Rattle.rz_syms.specs.declared.class_text.ClassRange.{ClassRange}
use Rattle.rz_syms.specs.Resolved.{bad_line, range_line}

-- the place behind the last zero of a string table, or 0 where it has none
pub record IsEnd (table : List ℕ) (end : ℕ) : Type 0 where
  pub within : end ≤ length table
  pub zero : (i : ℕ) → end ≡ i + 1 → slice_index table i ≡ 0
  pub behind : (i : ℕ) → end ≤ i → i < length table → slice_index table i ≢ 0

-- the fault of a symbol's name
abbrev pub fault_of_name : Option ℕ → Option SymFault
fault_of_name None = None
fault_of_name (Some n) = Some (fault.Name n)

-- the line of a function that a line names
abbrev pub named_text : Option ClassRange → List ℕ
named_text None = bad_line
named_text (Some n) = range_line n.lo n.hi n.class.now
