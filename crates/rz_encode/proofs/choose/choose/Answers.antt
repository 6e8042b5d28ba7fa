use Rattle.std.proofs.Common.{arith, ap, sym, ◌∙◌}
use Rattle.rz_isa.specs.Index.{numbers_of}
use Rattle.rz_encode.proofs.ByChoice.{good}
use Rattle.rz_encode.proofs.Tried.{tried_all, served_tried, unserved_tried, none_tried, number_low}
use Rattle.rz_encode.proofs.choose.choose.Goals as goal

pub loop-number-init : goal.loop-number-init
loop-number-init g c = tried_all c.args.form c.args.insn.now g.T.InsnTable.rows c.rows_of-number-items.result.now g.met.T.InsnTable.regular (c.rows_of-number-items.ensures ∙ ap (λ k. numbers_of k 0 g.T.InsnTable.rows) c.class_of.ensures)

pub row-row-requires : goal.row-row-requires
row-row-requires g c = number_low c.class_of.result g.T.InsnTable.rows c.rows_of-number-items.result.now c.loop-number.number-index c.rows_of-number-items.ensures (omega (arith, c.loop-number-test.true))

pub returns-in-Some-clause-value : goal.returns-in-Some-clause-value
returns-in-Some-clause-value g c = served_tried c.args.form c.args.insn.now g.T.InsnTable.rows c.rows_of-number-items.result.now c.loop-number.number-index c.row-row.result c.in-Some.fields
    (omega (arith, c.loop-number-test.true)) c.row-row.ensures.value (sym c.serve.ensures ∙ c.in-Some.is) ∙ c.loop-number.invariant

pub returns-in-Some-clause-good : goal.returns-in-Some-clause-good
returns-in-Some-clause-good g c = good c.args.form c.args.insn.now c.row-row.result c.in-Some.fields c.row-row.ensures.regular (sym c.serve.ensures ∙ c.in-Some.is)

pub loop-number-preserved : goal.loop-number-preserved
loop-number-preserved g c = sym (unserved_tried c.args.form c.args.insn.now g.T.InsnTable.rows c.rows_of-number-items.result.now c.loop-number.number-index c.row-row.result
    (omega (arith, c.loop-number-test.true)) c.row-row.ensures.value (sym c.serve.ensures ∙ c.in_default.is)) ∙ c.loop-number.invariant

pub returns-clause-value : goal.returns-clause-value
returns-clause-value g c = sym (none_tried c.args.form c.args.insn.now g.T.InsnTable.rows c.rows_of-number-items.result.now c.loop-number.number-index (omega (arith, c.loop-number-test.false))) ∙ c.loop-number.invariant
