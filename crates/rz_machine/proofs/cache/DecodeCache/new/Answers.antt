use Rattle.std.proofs.Common.{ap, arith, length, sym, ◌∙◌}
use Rattle.rz_machine.proofs.CacheLaws.{NoSelfWritten-from_test}
use Rattle.rz_machine.proofs.cache.DecodeCache.new.Goals as goal

pub returns : goal.returns
returns g c =
    let none = ap length c.new.ensures.items in
    record {
      entries = λ k d lt. absurd (omega (arith, none, lt));
      fixed = λ used. NoSelfWritten-from_test c.args.mem.now (sym c.are_apart.ensures ∙ used);
      unused = λ not. none;
    }
