-- The function that a value of the code lists.
use Rattle.std.specs.Prelude.{Option, Some, None}
use Rattle.rz_classes.specs.declared.listed.Function.{Function}
use Rattle.rz_classes.specs.declared.line.Entry.{Entry}

-- the function that an entry lists, where there is one
abbrev pub listed : Option Entry → Option Function
listed None = None
listed (Some e) = Some (record { lo = e.lo; hi = e.hi; class = e.class.now })
