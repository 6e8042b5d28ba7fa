use Rattle.std.proofs.Common.{subst}
use Rattle.std.specs.List.{IsDistinct}
use Rattle.rz_aset.specs.Sets.{is_same_edge}
use Rattle.rz_aset.proofs.Distinct.{none_distinct}
use Rattle.rz_aset.proofs.edges.EdgeSet.as_slice.Goals as goal

pub returns-in-None-clause-distinct : goal.returns-in-None-clause-distinct
returns-in-None-clause-distinct c = subst (IsDistinct is_same_edge) (rw c.in-None.is at c.self.view_is) (none_distinct is_same_edge)
