use Rattle.std.proofs.Common.{◌≡◌, ◌∙◌, ap}
use Rattle.rz_links.specs.Calls.Links.{next_of, node_of}
use Rattle.rz_links.specs.declared.links.Place.TheVariants.{Head}
use Rattle.rz_links.specs.Laws.Paths.{is_first}
use Rattle.rz_links.proofs.lists.Lists.first.Goals as goal

pub returns : goal.returns
returns c =
    let next : c.next_of.result ≡ next_of c.self.inside.heads.items c.self.inside.nodes.items (Head c.args.list) = cc in
    let lists = c.self.inside.chains in
    rw (← c.self.view_is) (c.node.ensures ∙ ap node_of next ∙ is_first _ _ lists.0 lists.1 c.args.list)
