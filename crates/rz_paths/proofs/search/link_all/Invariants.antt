use Rattle.std.proofs.Common.{◌≡◌, ℕ, ◌&&◌, ◌||◌, nat_eq, take}
use Rattle.rz_aset.specs.Sets.{has}
use Rattle.rz_paths.specs.Sets.{joins}
use Rattle.rz_paths.proofs.search.link_all.Given as goal

abbrev pub invariant-loop-b : goal.invariant-loop-b
invariant-loop-b l = ((a : ℕ) → has l.flow.nodes a ≡ (has l.initial.flow.nodes a || (nat_eq a l.from || has (take l.b-index l.to) a))) × ((a b : ℕ) → joins l.flow.edges a b ≡ (joins l.initial.flow.edges a b || (nat_eq a l.from && has (take l.b-index l.to) b)))
