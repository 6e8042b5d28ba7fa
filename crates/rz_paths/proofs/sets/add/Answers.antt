use Rattle.rz_paths.proofs.Members.{has-with}
use Rattle.rz_paths.proofs.sets.add.Goals as goal

pub returns : goal.returns
returns c = λ a. rw c.in_ok-insert.ensures.ok (has-with _ _ a)
