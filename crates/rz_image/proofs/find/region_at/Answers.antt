use Rattle.std.proofs.Common.{◌-◌, leb, ap, sym, ◌∙◌, arith, rules}
use Rattle.std.proofs.lemmas.List.{get_or_default}
use Rattle.rz_image.specs.Memory.{contains}
use Rattle.std.proofs.lemmas.List.Sorted.{IsPartitionPoint-from_clause, IsPartitionedBy-leb}
use Rattle.rz_image.specs.Laws.Find.{rising, none_begins, none_has}
use Rattle.rz_image.proofs.find.region_at.Goals as goal

pub returns-then-after-eq0-clause-none : goal.returns-then-after-eq0-clause-none
returns-then-after-eq0-clause-none c =
    let m = c.args.regions.now in
    let parted = IsPartitionedBy-leb (λ r. r.base) m c.args.at (rising m c.requires) in
    let point = IsPartitionPoint-from_clause (λ r. leb r.base c.args.at) _ _ c.partition_point-after.ensures.partitioned parted (λ a r q k. search rules) in
    none_begins m c.args.at c.partition_point-after.result c.requires c.partition_point-after.ensures.bound point.0 point.1 c.if-after-eq0.true

pub returns-then-not-has_address-clause-none : goal.returns-then-not-has_address-clause-none
returns-then-not-has_address-clause-none c =
    let m = c.args.regions.now in
    let parted = IsPartitionedBy-leb (λ r. r.base) m c.args.at (rising m c.requires) in
    let point = IsPartitionPoint-from_clause (λ r. leb r.base c.args.at) _ _ c.partition_point-after.ensures.partitioned parted (λ a r q k. search rules) in
    none_has m c.args.at c.partition_point-after.result c.requires c.partition_point-after.ensures.bound point.0 point.1
    (λ d.
    let r = c.index-regions-index.result in
    let b = c.partition_point-after.ensures.bound in
    let same = c.index-regions-index.is ∙ get_or_default m (c.partition_point-after.result - 1) r d (omega (arith, b, c.if-after-eq0.false)) in
    ap (λ x. contains x c.args.at) (sym same) ∙ sym c.has_address.ensures ∙ c.if-not-has_address.true)
