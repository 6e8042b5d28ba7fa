use Rattle.std.proofs.Common.{length, rules, subst, sym}
use Rattle.rz_links.specs.Calls.Links.{IsPlace, next_of}
use Rattle.rz_links.proofs.Places.{before_is, prev_within}
use Rattle.rz_links.proofs.links.move_before.Goals as goal

pub attach-requires-clause-other : goal.attach-requires-clause-other
attach-requires-clause-other c =
    subst (IsPlace (length c.detach.new.heads) (length c.detach.new.nodes)) (sym c.prev_of-last.ensures)
    (prev_within c.detach.new.heads c.detach.new.nodes c.args.other c.detach.ensures.links (search rules))

pub returns-clause-moved : goal.returns-clause-moved
returns-clause-moved c = (
  next_of c.detach.new.heads c.detach.new.nodes,
  c.detach.ensures.detached,
  before_is c.args.at c.args.other c.detach.ensures.links (rw c.prev_of-last.ensures at c.attach.ensures.attached),
)
