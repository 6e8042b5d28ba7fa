use Rattle.rz_paths.specs.Laws.Passing.{noted_more}
use Rattle.rz_paths.proofs.passing.note.Goals as goal

pub returns : goal.returns
returns c = λ n. rw c.in_ok-insert.ensures.keys (noted_more _ _ n)
