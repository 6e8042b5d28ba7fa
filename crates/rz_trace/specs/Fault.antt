-- The first fault of a trace text.
use Rattle.std.specs.Prelude.{ℕ, ◌+◌, nat_lt, if◌then◌else◌, List, [], length, Option, Some, None}
use Rattle.std.specs.List.{last_or}
use Rattle.rz_text.specs.Lines.{Line, lines_from, words}
use Rattle.rz_text.specs.Fault.{first_fault, or_else}
use Rattle.rz_aset.specs.declared.kept.Record.{Record}
use Rattle.rz_trace.specs.declared.entry.Entry.{Entry}
use Rattle.rz_trace.specs.declared.error.TraceFault.{TraceFault}
use Rattle.rz_trace.specs.declared.error.TraceFault.TheVariants.{BadLine}
use Rattle.rz_trace.specs.Grammar.{entry_of}
use Rattle.rz_trace.specs.Order.{fits, is_end}
use Rattle.rz_trace.specs.Value.{entries, file_from}

-- what the last line says
abbrev pub last_entry : List Line → Option Entry
last_entry lines = last_or None (entries lines)

-- the fault of line n, where it says this, if anything, behind a record and a last line
abbrev pub fault_behind : Record → Option Entry → ℕ → Option Entry → Option TraceFault
fault_behind kept last n None = Some (BadLine n)
fault_behind kept last n (Some entry) = if fits kept last entry then None else Some (BadLine n)

-- the fault of line n of this text
abbrev pub line_fault : Record → Option Entry → ℕ → List ℕ → Option TraceFault
line_fault kept last n line = fault_behind kept last n (entry_of (words line))

-- the fault of a line behind earlier ones
abbrev pub fault_of_line : List Line → Line → Option TraceFault
fault_of_line earlier line = line_fault (file_from (entries earlier)).rec (last_entry earlier) line.0 line.1

-- where `end` is missing, the line behind the last is bad
abbrev pub end_fault : List Line → Option TraceFault
end_fault lines = if is_end (last_entry lines) then None else Some (BadLine (length lines + 1))

-- the first fault of lines
abbrev pub fault_of_lines : List Line → Option TraceFault
fault_of_lines lines = or_else (first_fault fault_of_line [] lines) (end_fault lines)

-- the first fault of a text: at line 0 where it has more than 16,777,216 bytes
abbrev pub fault_of : List ℕ → Option TraceFault
fault_of text = if nat_lt 16777216 (length text) then Some (BadLine 0) else fault_of_lines (lines_from 1 text)
