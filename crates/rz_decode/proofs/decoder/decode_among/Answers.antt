use Rattle.std.proofs.Common.{arith, get_or}
use Rattle.rz_decode.proofs.Rows.{bytes_from, served_is, unserved_is, one_more, row_none, row_absent, none_listed}
use Rattle.rz_decode.proofs.decoder.decode_among.Goals.{then-n-count+in_default, else-n-count}
use Rattle.rz_decode.proofs.decoder.decode_among.Goals as goal

pub returns-in-Some : goal.returns-in-Some
returns-in-Some g c = served_is g.T.InsnTable.rows _ c.row.result c.args.bytes.now c.args.at c.in-Some.d
    (record { plain = g.met.T.InsnTable.plain; exclude = g.met.T.InsnTable.exclude; regular = g.met.T.InsnTable.regular }) (bytes_from c.args.bytes.now (λ i. omega (arith, c.type_inv.bytes i))) c.row.ensures.value c.in-Some.ensures.some

pub loop-number-preserved : goal.loop-number-preserved
loop-number-preserved g c = one_more (λ j. get_or c.args.numbers.now j 0) g.T.InsnTable.rows c.args.bytes.now c.loop-number.number-index c.loop-number.invariant
    (elim c.if-n-count.branch [
      | then-n-count+in_default w ↦ row_none g.T.InsnTable.rows c.args.bytes.now _ w.row.result w.row.ensures.value w.in_default.ensures.none
      | else-n-count w ↦ row_absent g.T.InsnTable.rows c.args.bytes.now _ (let e = c.count.ensures in let f = w.if-n-count.false in omega arith)
    ])

pub returns : goal.returns
returns g c = unserved_is g.T.InsnTable.rows c.args.bytes.now c.args.at
    (none_listed g.T.InsnTable.rows c.args.numbers.now c.args.bytes.now c.requires.listed (λ j r lt at. c.loop-number.invariant j r (let f = c.loop-number-test.false in omega arith) at))
