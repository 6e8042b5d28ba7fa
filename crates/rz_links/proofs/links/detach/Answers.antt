use Rattle.rz_links.proofs.Places.{detached_inverse}
use Rattle.rz_links.proofs.links.detach.Goals as goal

pub returns-clause-links : goal.returns-clause-links
returns-clause-links c =
    detached_inverse c.args.at c.requires.links (rw (c.prev_of-prev.ensures, c.next_of-next.ensures) at c.join.ensures) c.join-2.ensures
