use Rattle.rz_links.proofs.Places.{attached_inverse}
use Rattle.rz_links.proofs.links.attach.Goals as goal

pub returns-clause-links : goal.returns-clause-links
returns-clause-links c =
    attached_inverse c.args.at c.args.other c.requires.apart c.requires.alone c.requires.links c.join.ensures (rw c.next_of-next.ensures at c.join-2.ensures)
