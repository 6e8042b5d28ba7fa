use Rattle.std.proofs.Common.{arith}
use Rattle.rz_decode.proofs.Rows.{bytes_from, ended, full_is}
use Rattle.rz_decode.proofs.decoder.decode_front.Goals as goal

pub returns-in-None-2 : goal.returns-in-None-2
returns-in-None-2 g c = full_is g.T.InsnTable.rows c.args.bytes.now c.args.at (record { plain = g.met.T.InsnTable.plain; exclude = g.met.T.InsnTable.exclude; regular = g.met.T.InsnTable.regular }) (bytes_from c.args.bytes.now (λ i. omega (arith, c.type_inv.bytes i))) c.if-bytes-lt15.false
    (ended c.args.bytes.now c.split_prefixes.result.1.now c.split_rex-rex.result.1.now c.opcode_at.result c.split_prefixes.ensures.rest c.split_rex-rex.ensures.rest c.opcode_at.ensures c.in-None-2.is)
