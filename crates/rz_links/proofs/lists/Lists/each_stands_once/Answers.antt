use Rattle.std.proofs.Common.{rules, vec_len}
use Rattle.rz_links.specs.Laws.Paths.{below, stands_once}
use Rattle.rz_links.proofs.lists.Lists.each_stands_once.Goals as goal

pub returns-clause-once : goal.returns-clause-once
returns-clause-once c n =
    let lists = c.self.inside.chains in
    rw (← c.self.view_is) (stands_once c.self.invariant _ lists.0 lists.1 n)

pub returns-clause-nodes : goal.returns-clause-nodes
returns-clause-nodes c =
    let lists = c.self.inside.chains in
    rw (← c.self.view_is) (below c.self.inside.heads.items c.self.inside.nodes.items (vec_len c.self.inside.nodes) lists.0 (search rules) lists.1)
