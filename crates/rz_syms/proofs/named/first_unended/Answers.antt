use Rattle.rz_syms.proofs.NameLaws.{fault_first, fault_later, fault_here, fault_none}
use Rattle.rz_syms.proofs.named.first_unended.Goals as goal

pub loop-number-init : goal.loop-number-init
loop-number-init c = fault_first c.args.strings.now c.args.symbols.now

pub loop-number-preserved : goal.loop-number-preserved
loop-number-preserved c =
    fault_later c.args.strings.now c.args.symbols.now c.end_of_names-end.result c.loop-number.number c.symbol_at.result c.end_of_names-end.ensures c.loop-number-test.true c.symbol_at.ensures c.if-symbol_at-end.false c.loop-number.invariant

pub returns-then-symbol_at-end : goal.returns-then-symbol_at-end
returns-then-symbol_at-end c =
    fault_here c.args.strings.now c.args.symbols.now c.end_of_names-end.result c.loop-number.number c.symbol_at.result c.end_of_names-end.ensures c.loop-number-test.true c.symbol_at.ensures c.if-symbol_at-end.true c.loop-number.invariant

pub returns : goal.returns
returns c = fault_none c.args.strings.now c.args.symbols.now c.loop-number.number c.loop-number-test.false c.loop-number.invariant
