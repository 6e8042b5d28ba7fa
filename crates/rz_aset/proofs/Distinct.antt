-- A set with no members has none twice.
use Rattle.std.proofs.Common.{Bool, []}
use Rattle.std.specs.List.{IsDistinct}

pub none_distinct : {K : Type 0} (e : K → K → Bool) → IsDistinct e []
unfolding IsDistinct
none_distinct e = tt
