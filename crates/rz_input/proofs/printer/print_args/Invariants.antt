use Rattle.std.proofs.Common.{◌≡◌, ◌++◌, take}
use Rattle.std.specs.Prelude.{flat_map}
use Rattle.rz_input.specs.declared.entry.Entry.TheVariants as entry
use Rattle.rz_input.specs.Printed.{ended_line}
use Rattle.rz_input.proofs.printer.print_args.Given as goal

abbrev pub invariant-loop-arg : goal.invariant-loop-arg
invariant-loop-arg l = l.text ≡ l.initial.text ++ flat_map (λ arg. ended_line (entry.Arg arg)) (take l.arg-index l.args)
