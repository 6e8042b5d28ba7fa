use Rattle.std.proofs.Common.{arith, ◌∙◌}
use Rattle.rz_decode.proofs.Rows.{bytes_from, tested, last_low, with_f3_is, prefixes_few, unfinished_is, unserved_is, one_more, row_none, get_within}
use Rattle.rz_decode.proofs.decoder.decode_unfinished.Goals as goal

pub unfinished_front-requires-clause-last : goal.unfinished_front-requires-clause-last
unfinished_front-requires-clause-last g c = last_low c.row-row.result c.row-row.ensures.regular

pub unfinished_front-requires-clause-f3 : goal.unfinished_front-requires-clause-f3
unfinished_front-requires-clause-f3 g c =
    with_f3_is c.split_prefixes.result.0.now c.copy_from_slice.new.self c.copy_from_slice.ensures.after (prefixes_few c.args.bytes.now c.split_prefixes.result.0.now c.split_prefixes.ensures.front (omega (arith, c.requires.short)))

pub returns-then-suits : goal.returns-then-suits
returns-then-suits g c = λ at. unfinished_is g.T.InsnTable.rows c.loop-n.n c.row-row.result c.args.bytes.now at
    (record { plain = g.met.T.InsnTable.plain; exclude = g.met.T.InsnTable.exclude; regular = g.met.T.InsnTable.regular }) (bytes_from c.args.bytes.now (λ i. omega (arith, c.type_inv.bytes i))) c.row-row.ensures.value
    (tested c.row-row.result c.args.bytes.now c.split_prefixes.result.0.now c.split_prefixes.result.1.now c.unfinished_front.result c.suits.result c.split_prefixes.ensures.front c.split_prefixes.ensures.rest c.unfinished_front.ensures c.suits.ensures ∙ c.if-suits.true) c.requires.ended

pub loop-n-preserved : goal.loop-n-preserved
loop-n-preserved g c = one_more (λ k. k) g.T.InsnTable.rows c.args.bytes.now c.loop-n.n c.loop-n.invariant (row_none g.T.InsnTable.rows c.args.bytes.now c.loop-n.n c.row-row.result c.row-row.ensures.value
    (tested c.row-row.result c.args.bytes.now c.split_prefixes.result.0.now c.split_prefixes.result.1.now c.unfinished_front.result c.suits.result c.split_prefixes.ensures.front c.split_prefixes.ensures.rest c.unfinished_front.ensures c.suits.ensures ∙ c.if-suits.false))

pub returns : goal.returns
returns g c = λ at. unserved_is g.T.InsnTable.rows c.args.bytes.now at
    (λ k r e. c.loop-n.invariant k r (let l = get_within g.T.InsnTable.rows k r e in let n = c.count-n-end.ensures in let f = c.loop-n-test.false in omega arith) e)
