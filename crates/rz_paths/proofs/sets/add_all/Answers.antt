use Rattle.rz_aset.specs.Laws.Members.{has-with_more}
use Rattle.rz_paths.proofs.sets.add_all.Goals as goal

pub returns : goal.returns
returns c = λ a. rw c.in_ok-insert_all.ensures.ok (has-with_more _ _ a)
