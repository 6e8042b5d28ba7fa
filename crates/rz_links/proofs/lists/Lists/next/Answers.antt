use Rattle.std.proofs.Common.{◌≡◌, ◌∙◌, ap}
use Rattle.rz_links.specs.Calls.Links.{next_of, node_of}
use Rattle.rz_links.specs.declared.links.Place.TheVariants.{Node}
use Rattle.rz_links.specs.Laws.Paths.{is_next}
use Rattle.rz_links.proofs.lists.Lists.next.Goals as goal

pub returns : goal.returns
returns c =
    let next : c.next_of.result ≡ next_of c.self.inside.heads.items c.self.inside.nodes.items (Node c.args.node) = cc in
    let lists = c.self.inside.chains in
    rw (← c.self.view_is, c.node.ensures ∙ ap node_of next) (is_next _ _ lists.0 lists.1 c.args.node)
