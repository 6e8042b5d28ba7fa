-- The line that is bad in a trace file.
use Rattle.std.specs.Prelude.{ℕ}
use Rattle.rz_trace.specs.declared.error.TraceFault.{TraceFault}
use Rattle.rz_trace.specs.declared.error.TraceFault.TheVariants as error

-- the line that a fault names
abbrev pub line_of : TraceFault → ℕ
line_of (error.BadLine line) = line
line_of error.OutOfMemory = 0
