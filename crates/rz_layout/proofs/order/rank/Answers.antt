use Rattle.std.proofs.Common.{Ok, Err}
use Rattle.rz_layout.proofs.Rank.{found_rank}
use Rattle.rz_layout.proofs.order.rank.Goals as goal

pub returns-in-Ok : goal.returns-in-Ok
returns-in-Ok c = found_rank c.args.nodes.now c.requires c.args.a (Ok c.in-Ok.i) c.in-Ok.ensures.position

pub returns-in-Err : goal.returns-in-Err
returns-in-Err c = found_rank c.args.nodes.now c.requires c.args.a (Err c.in-Err.field-0) c.in-Err.ensures.position
