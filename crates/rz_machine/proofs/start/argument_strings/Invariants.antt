use Rattle.std.proofs.Common.{◌≡◌, take}
use Rattle.rz_sys.specs.Input.{strings}
use Rattle.rz_machine.proofs.start.argument_strings.Given as goal

abbrev pub invariant-loop-arg : goal.invariant-loop-arg
invariant-loop-arg l = l.bytes ≡ strings (take l.arg-index l.args)
