use Rattle.std.proofs.Common.{◌≡◌, drop}
use Rattle.rz_syms.specs.Resolved.{first_named}
use Rattle.rz_syms.proofs.class_text.range_of.Given as goal

abbrev pub invariant-loop-function : goal.invariant-loop-function
invariant-loop-function l = first_named (drop l.function-index l.functions) l.name ≡ first_named l.functions l.name
