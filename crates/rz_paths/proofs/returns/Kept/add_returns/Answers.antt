use Rattle.std.proofs.Common.{ap, ◌∙◌}
use Rattle.rz_aset.specs.Sets.{has}
use Rattle.rz_flow.specs.Laws.Neighbours.{has-neighbours_out}
use Rattle.rz_paths.proofs.LinkLemmas.{returns_added}
use Rattle.rz_paths.proofs.returns.Kept.add_returns.Goals as goal

pub returns : goal.returns
returns g c =
    returns_added (g.P.Program.code c.args.self.now.program.now) c.args.self.now.nodes.now c.args.self.now.edges.now c.args.after.now.edges c.args.callee c.args.found.now c.add_product.new.set
    c.in_ok-returns.returns.items c.in_ok-next.next c.in_ok-returns.ensures
    (λ r. ap (λ list. has list r) c.in_ok-next.ensures.all ∙ has-neighbours_out c.args.after.now.edges c.args.callee r)
    (rw (c.deref.ensures.value, c.as_slice.ensures.value) at c.in_ok-add_product.ensures)
