use Rattle.std.proofs.Common.{◌∙◌, sym}
use Rattle.rz_flow.proofs.Linking.{linked_edge}
use Rattle.rz_flow.proofs.flow.Flow.add_edge.Goals as goal

pub invariant_of-self-2 : goal.invariant_of-self-2
invariant_of-self-2 c =
    let g = c.self.inside in
    rw (c.in_ok-insert.ensures.ok, c.insert_back.ensures.inserted, c.deref_mut-2.ensures.value, c.reserve.ensures.same, c.deref_mut.ensures.value)
    (linked_edge g.nodes g.edges g.arena.value c.self.invariant c.args.from c.args.to c.number-source.result c.number-target.result c.reserve.new.self.spare (sym c.contains.ensures ∙ c.if-contains.false) c.number-source.ensures.distinct c.number-source.ensures.number c.number-target.ensures.number)
