use Rattle.std.proofs.Common.{◌≡◌, ◌∙◌, ap}
use Rattle.rz_links.specs.Calls.Links.{node_of, prev_of}
use Rattle.rz_links.specs.declared.links.Place.TheVariants.{Node}
use Rattle.rz_links.specs.Laws.Paths.{is_prev}
use Rattle.rz_links.proofs.lists.Lists.prev.Goals as goal

pub returns : goal.returns
returns c =
    let prev : c.prev_of.result ≡ prev_of c.self.inside.heads.items c.self.inside.nodes.items (Node c.args.node) = cc in
    let lists = c.self.inside.chains in
    rw (← c.self.view_is, c.node.ensures ∙ ap node_of prev) (is_prev c.self.invariant _ lists.0 lists.1 c.args.node)
