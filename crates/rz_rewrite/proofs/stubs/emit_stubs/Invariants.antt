use Rattle.std.proofs.Common.{◌≡◌, ℕ, ◌++◌, ◌+◌, ◌*◌, drop}
use Rattle.rz_elf.specs.Format.{stub_size, all_stubs}
use Rattle.rz_rewrite.proofs.stubs.emit_stubs.Given as goal

abbrev pub invariant-loop-a : goal.invariant-loop-a
invariant-loop-a l =
    (from : ℕ) → l.out ++ all_stubs (from + stub_size * l.a-index) (drop l.a-index l.nodes) ≡ all_stubs from l.nodes
