use Rattle.std.proofs.lemmas.List.Elements.{All-set}
use Rattle.rz_isa.specs.Decoded.{decoded as decoded_of}
use Rattle.rz_machine.specs.Calls.Cache.{IsEntry}
use Rattle.rz_machine.proofs.cache.DecodeCache.keep.Goals as goal

pub returns-then-index-len : goal.returns-then-index-len
returns-then-index-len g c =
    let before = c.grow.ensures.serves in
    record {
      entries = All-set (IsEntry (decoded_of g.T.InsnTable.rows) c.args.mem.now) _ c.place-index.result c.args.entry c.requires.spelled before.entries;
      fixed = before.fixed;
      unused = λ off. cc;
    }
