use Rattle.std.proofs.Common.{rules, ◌≡◌, ℕ, ◌-◌, List, ltb, leb, length, take, drop, sym, subst, arith}
use Rattle.std.specs.List.Sorted.{IsNonDecreasingBy}
use Rattle.std.proofs.lemmas.List.{take_all, length-drop}
use Rattle.std.proofs.lemmas.List.Sorted.{IsPartitionPoint-from_clause, IsPartitionedBy-leb, IsPartitionedBy-ltb, IsNonDecreasingBy-drop}
use Rattle.rz_rewrite.proofs.TargetRange.{slice_is}
use Rattle.rz_rewrite.proofs.ranges.pairs_from.Goals as goal

pub returns : goal.returns
returns c =
    let pairs : List (ℕ × ℕ) = c.args.pairs.now in
    let first : ℕ = c.partition_point-first.result in
    let rest : List (ℕ × ℕ) = take (length pairs - first) (drop first pairs) in
    let same : rest ≡ drop first pairs = take_all (length pairs - first) (drop first pairs) (omega (arith, length-drop first pairs)) in
    let ascends = subst (IsNonDecreasingBy (λ e. e.0)) (sym same) (IsNonDecreasingBy-drop (λ e. e.0) first pairs c.requires) in
    let front = IsPartitionPoint-from_clause (λ e. ltb e.0 c.args.at) pairs first c.partition_point-first.ensures.partitioned (IsPartitionedBy-ltb (λ e. e.0) pairs c.args.at c.requires) (λ a r q k. search rules) in
    let back = IsPartitionPoint-from_clause (λ e. leb e.0 c.args.at) rest c.partition_point-count.result c.partition_point-count.ensures.partitioned (IsPartitionedBy-leb (λ e. e.0) rest c.args.at ascends) (λ a r q k. search rules) in
    slice_is c.args.at pairs first c.partition_point-count.result rest same front back
