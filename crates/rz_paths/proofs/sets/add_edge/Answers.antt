use Rattle.rz_paths.proofs.Members.{joins-with}
use Rattle.rz_paths.proofs.sets.add_edge.Goals as goal

pub returns : goal.returns
returns c = λ a b. rw c.in_ok-insert.ensures.ok (joins-with _ _ _ a b)
