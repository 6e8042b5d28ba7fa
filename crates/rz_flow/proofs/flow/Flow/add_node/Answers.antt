use Rattle.std.proofs.Common.{◌∙◌, sym}
use Rattle.rz_flow.proofs.Linking.{linked_node}
use Rattle.rz_flow.proofs.flow.Flow.add_node.Goals as goal

pub invariant_of-self-2 : goal.invariant_of-self-2
invariant_of-self-2 c =
    let g = c.self.inside in
    rw (c.in_ok-insert.ensures.ok, c.in_ok-add_lists.ensures.ok, c.deref_mut.ensures.value)
    (linked_node g.nodes g.edges g.arena.value c.self.invariant c.args.at (sym c.contains.ensures ∙ c.if-contains.false))
