use Rattle.std.proofs.Common.{subst, sym}
use Rattle.std.specs.List.Sorted.{IsPermutation}
use Rattle.rz_syms.specs.Symbols.{symbols_in}
use Rattle.rz_syms.specs.Calls.Ordered.{AreOrdered}
use Rattle.rz_syms.proofs.Ascending.{ascending_by_sort}
use Rattle.rz_syms.proofs.PlaceLaws.{all_places, places_distinct, ascending_ordered}
use Rattle.rz_syms.proofs.place.ascending_places.Goals as goal

pub returns-clause-value : goal.returns-clause-value
returns-clause-value c =
    let found = all_places c.args.elf.now.loads c.args.strings.now c.args.symbols.now in
    let moved = subst (λ l. IsPermutation l c.sort_unstable.new.self.items) c.in_ok-places.ensures c.sort_unstable.ensures.permutation in
    ascending_by_sort found c.sort_unstable.new.self.items (places_distinct c.args.elf.now.loads c.args.strings.now 0 (symbols_in c.args.symbols.now)) moved c.sort_unstable.ensures.sorted

pub returns-clause-ordered : goal.returns-clause-ordered
returns-clause-ordered c =
    let found = all_places c.args.elf.now.loads c.args.strings.now c.args.symbols.now in
    let moved = subst (λ l. IsPermutation l c.sort_unstable.new.self.items) c.in_ok-places.ensures c.sort_unstable.ensures.permutation in
    let value = ascending_by_sort found c.sort_unstable.new.self.items (places_distinct c.args.elf.now.loads c.args.strings.now 0 (symbols_in c.args.symbols.now)) moved c.sort_unstable.ensures.sorted in
    subst AreOrdered (sym value) (ascending_ordered c.args.elf.now.loads c.args.strings.now 0 (symbols_in c.args.symbols.now))
