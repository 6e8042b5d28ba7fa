use Rattle.std.proofs.Common.{◌≡◌, ◌++◌, ◌+◌, drop}
use Rattle.rz_rewrite.specs.Fragments.{table_pairs as table_pairs_of, tables_sum, targets_from}
use Rattle.rz_rewrite.proofs.tables.table_pairs.Given as goal

abbrev pub invariant-loop-site : goal.invariant-loop-site
invariant-loop-site l =
    let targets = targets_from l.edges in
    record {
      value : l.pairs ++ table_pairs_of targets l.here (drop l.site-index l.sites) ≡ table_pairs_of targets l.from l.sites;
      here : l.here + tables_sum targets (drop l.site-index l.sites) ≡ l.from + tables_sum targets l.sites;
    }
