use Rattle.rz_paths.proofs.Members.{has-with}
use Rattle.rz_paths.proofs.search.link_node.Goals as goal

pub returns-clause-nodes : goal.returns-clause-nodes
returns-clause-nodes c = λ a. rw c.in_ok-add_node.ensures.ok (has-with _ _ a)
