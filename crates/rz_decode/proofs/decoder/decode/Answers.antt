use Rattle.std.proofs.Common.{arith}
use Rattle.rz_decode.specs.Laws.Exactness.{exact_of}
use Rattle.rz_decode.proofs.Rows.{bytes_from, cut_decides}
use Rattle.rz_decode.proofs.decoder.decode.Goals as goal

pub returns-clause-value : goal.returns-clause-value
returns-clause-value g c = cut_decides g.T.InsnTable.rows c.args.bytes.now c.args.at c.min.result c.decode_front.result (record { plain = g.met.T.InsnTable.plain; exclude = g.met.T.InsnTable.exclude; regular = g.met.T.InsnTable.regular }) (λ i. omega (arith, c.type_inv.bytes i)) c.min.ensures c.decode_front.ensures

pub returns-clause-exact : goal.returns-clause-exact
returns-clause-exact g c = exact_of g.T.InsnTable.rows c.args.bytes.now c.args.at c.decode_front.result (record { plain = g.met.T.InsnTable.plain; exclude = g.met.T.InsnTable.exclude; regular = g.met.T.InsnTable.regular }) (bytes_from c.args.bytes.now (λ i. omega (arith, c.type_inv.bytes i)))
    (cut_decides g.T.InsnTable.rows c.args.bytes.now c.args.at c.min.result c.decode_front.result (record { plain = g.met.T.InsnTable.plain; exclude = g.met.T.InsnTable.exclude; regular = g.met.T.InsnTable.regular }) (λ i. omega (arith, c.type_inv.bytes i)) c.min.ensures c.decode_front.ensures)
