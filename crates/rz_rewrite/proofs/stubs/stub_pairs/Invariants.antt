use Rattle.std.proofs.Common.{◌≡◌, ◌++◌, ◌+◌, ◌*◌, drop}
use Rattle.rz_elf.specs.Format.{stub_size}
use Rattle.rz_rewrite.specs.Fragments.{stub_pairs as stub_pairs_of}
use Rattle.rz_rewrite.proofs.stubs.stub_pairs.Given as goal

abbrev pub invariant-loop-a : goal.invariant-loop-a
invariant-loop-a l =
    record {
      value : l.pairs ++ stub_pairs_of l.here (drop l.a-index l.nodes) ≡ stub_pairs_of l.from l.nodes;
      here : l.here ≡ l.from + stub_size * l.a-index;
    }
