use Rattle.std.proofs.Common.{arith, sym, ◌∙◌}
use Rattle.rz_encode.proofs.RexByte.{rex_small}
use Rattle.rz_encode.proofs.spelling.rex_for.Goals as goal

pub overflow_add-result : goal.overflow_add-result
overflow_add-result c = (let e = c.rex_needed.ensures in let s = rex_small c.args.row.now c.args.f.now c.requires (sym c.needs_rex.ensures ∙ c.if-needs_rex.true) in omega arith)

pub overflow_cast-result : goal.overflow_cast-result
overflow_cast-result c = (let e = c.rex_needed.ensures in let s = rex_small c.args.row.now c.args.f.now c.requires (sym c.needs_rex.ensures ∙ c.if-needs_rex.true) in omega arith)
