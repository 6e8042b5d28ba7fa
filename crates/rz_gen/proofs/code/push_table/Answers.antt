use Rattle.rz_gen.specs.Code.{table_word}
use Rattle.rz_gen.proofs.Pieces.{pieces_none, pieces_more}
use Rattle.rz_gen.proofs.code.push_table.Goals as goal

pub loop-j-init : goal.loop-j-init
loop-j-init c = pieces_none (table_word c.args.n) c.args.out.now.items

pub loop-j-preserved : goal.loop-j-preserved
loop-j-preserved c = pieces_more (table_word c.args.n) c.loop-j.j _ _ _ c.loop-j.invariant c.in_ok-push_table_word.ensures
