use Rattle.rz_paths.proofs.Members.{has-with_two, joins-with}
use Rattle.rz_paths.proofs.sets.link.Goals as goal

pub returns-clause-nodes : goal.returns-clause-nodes
returns-clause-nodes c = λ a. rw (c.in_ok-add_edge.ensures.ok, c.in_ok-add_node-2.ensures.ok, c.in_ok-add_node.ensures.ok) (has-with_two _ _ _ a)

pub returns-clause-edges : goal.returns-clause-edges
returns-clause-edges c = λ a b. rw (c.in_ok-add_edge.ensures.ok, c.in_ok-add_node-2.ensures.ok, c.in_ok-add_node.ensures.ok) (joins-with _ _ _ a b)
