use Rattle.std.proofs.Common.{◌≡◌, ◌+◌, ◌∷◌, ◌++◌, length, drop}
use Rattle.rz_sys.specs.Input.{strings}
use Rattle.rz_machine.specs.Start.{string_addresses}
use Rattle.rz_machine.proofs.start.argument_words.Given as goal

abbrev pub invariant-loop-arg : goal.invariant-loop-arg
invariant-loop-arg l = record {
  addresses : l.words ++ string_addresses l.at (drop l.arg-index l.args) ≡ length l.args ∷ string_addresses l.strings_at l.args;
  rest : l.at + length (strings (drop l.arg-index l.args)) ≡ l.strings_at + length (strings l.args);
}
