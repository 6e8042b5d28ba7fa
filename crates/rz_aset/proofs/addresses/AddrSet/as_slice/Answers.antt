use Rattle.std.proofs.Common.{nat_eq, subst}
use Rattle.std.specs.List.{IsDistinct}
use Rattle.rz_aset.proofs.Distinct.{none_distinct}
use Rattle.rz_aset.proofs.addresses.AddrSet.as_slice.Goals as goal

pub returns-in-None-clause-distinct : goal.returns-in-None-clause-distinct
returns-in-None-clause-distinct c = subst (IsDistinct nat_eq) (rw c.in-None.is at c.self.view_is) (none_distinct nat_eq)
