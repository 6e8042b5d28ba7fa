use Rattle.std.proofs.Common.{arith}
use Rattle.rz_decode.specs.Calls.Views.{front_view, parts_view}
use Rattle.rz_decode.proofs.Rows.{rm_ok, bytes_from}
use Rattle.rz_decode.proofs.decoder.decode_whole.Goals as goal

pub fields-requires-clause-rm : goal.fields-requires-clause-rm
fields-requires-clause-rm c = rm_ok c.args.row.now c.args.bytes.now (front_view c.args.front.now) (parts_view c.parts_of.result) c.front_len-len.result c.requires.regular (bytes_from c.args.bytes.now (λ i. omega (arith, c.type_inv.bytes i)))
    c.requires.serves c.requires.front c.parts_of.ensures c.front_len-len.ensures (omega arith)
