use Rattle.std.proofs.Common.{◌∙◌, subst}
use Rattle.std.specs.List.Sorted.{IsPermutation}
use Rattle.rz_aset.specs.Laws.Sorted.{sorted_edges_by_sort}
use Rattle.rz_aset.proofs.edges.EdgeSet.sorted.Goals as goal

pub returns-clause-value : goal.returns-clause-value
returns-clause-value c =
    let same = c.in_ok-pairs.ensures.items ∙ c.as_slice.ensures.value in
    let moved = subst (λ l. IsPermutation l c.sort_unstable.new.self.items) same c.sort_unstable.ensures.permutation in
    c.from_vec.ensures
    ∙ sorted_edges_by_sort c.args.self.now c.sort_unstable.new.self.items c.as_slice.ensures.distinct moved c.sort_unstable.ensures.sorted
