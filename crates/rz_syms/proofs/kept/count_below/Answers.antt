use Rattle.std.proofs.Common.{nat_lt, rules}
use borrow.Author.Tests.{tests}
use Rattle.std.proofs.lemmas.List.Sorted.{IsPartitionPoint-from_clause, IsPartitionedBy-ltb, IsNonDecreasingBy-from_sort}
use Rattle.rz_syms.proofs.Counts.{count_split}
use Rattle.rz_syms.proofs.kept.count_below.Goals as goal

pub returns : goal.returns
returns c =
    let xs = c.args.nodes.now in
    let parted = IsPartitionedBy-ltb (λ x. x) xs c.args.end (IsNonDecreasingBy-from_sort (λ x. x) xs c.requires) in
    let point = IsPartitionPoint-from_clause (λ a. nat_lt a c.args.end) xs c.partition_point.result c.partition_point.ensures.partitioned parted (λ a r q k. search (rules, tests)) in
    count_split (λ a. nat_lt a c.args.end) xs c.partition_point.result c.partition_point.ensures.bound point.0 point.1
