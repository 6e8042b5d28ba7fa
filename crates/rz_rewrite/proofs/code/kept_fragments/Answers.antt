use Rattle.std.proofs.Common.{◌≡◌, ℕ, ◌+◌, ◌*◌, ◌^◌, ◌<◌, ◌≤◌, List, length, sym, ap, ◌∙◌, subst, arith}
use Rattle.std.specs.List.Sorted.{IsNonDecreasingBy}
use Rattle.rz_isa.specs.declared.rows.Row.{Row}
use Rattle.rz_isa.specs.declared.fragment_list.Fragments.{Fragments}
use Rattle.rz_isa.specs.Decoded.{decoded}
use Rattle.rz_elf.specs.Format.{stub_size}
use Rattle.rz_elf.specs.AddedRange.{Added}
use Rattle.rz_elf.specs.Elf.{Image, image_of}
use Rattle.rz_machine.specs.Kept.{Kept, sorted, targets_of}
use Rattle.rz_machine.specs.Nodes.{code_in}
use Rattle.rz_machine.specs.Traced.{kept_in}
use Rattle.rz_machine.specs.Sequence.{node_items}
use Rattle.rz_machine.specs.Added.{sites as sites_of}
use Rattle.rz_rewrite.specs.Fragments.{fragment_list, stub_pairs, table_pairs, tables_sum, targets_from, routine_for}
use Rattle.rz_rewrite.specs.Rewritten.{IsFit}
use Rattle.rz_rewrite.specs.Calls.Plan.{AreMovable}
use Rattle.rz_rewrite.proofs.NewCodeLaws.{movable, scratch_low, tables_low, stubs_end, made_is, may_lay, Made}
use Rattle.rz_rewrite.proofs.Planned.{fit_of}
use Rattle.rz_rewrite.proofs.TargetRange.{sources_ascend}
use Rattle.rz_rewrite.proofs.code.kept_fragments.Goals as goal

pub fragment_list-requires-clause-movable : goal.fragment_list-requires-clause-movable
fragment_list-requires-clause-movable g c =
    let rows : List Row = g.T.InsnTable.rows in
    let q = c.requires.can in
    let x : Image = image_of c.args.elf.now.bytes in
    let kept : Kept = kept_in c.args.kept.now in
    let fit : IsFit (decoded rows) x kept = fit_of (decoded rows) c.args.elf.now.bytes kept c.args.range.now q in
    let all = movable rows c.table_facts.ensures x kept fit in
    let scratch = ap (λ (a : Added). a.scratch) q.range_is in
    subst (λ l. AreMovable (decoded rows) (code_in x.loads) c.args.range.now.scratch kept.edges l) (sym c.requires.nodes) (subst (λ s. AreMovable (decoded rows) (code_in x.loads) s kept.edges (sorted kept.nodes)) (sym scratch) all)

pub stub_pairs-requires : goal.stub_pairs-requires
stub_pairs-requires g c =
    let rows : List Row = g.T.InsnTable.rows in
    let q = c.requires.can in
    let x : Image = image_of c.args.elf.now.bytes in
    let kept : Kept = kept_in c.args.kept.now in
    let fit : IsFit (decoded rows) x kept = fit_of (decoded rows) c.args.elf.now.bytes kept c.args.range.now q in
    let low = stubs_end rows c.table_facts.ensures x kept fit in
    let stubs = ap (λ (a : Added). a.stubs) q.range_is in
    let count = ap length c.requires.nodes in
    go c.args.range.now.stubs _ (length c.args.nodes.now) _ stubs count low
  where
    go : (r s n m : ℕ) → r ≡ s → n ≡ m → s + stub_size * m < 2 ^ 31 → r + stub_size * n < 2 ^ 64
    go r s n m e f h = omega (arith, e, f, h)

pub routine_items-requires : goal.routine_items-requires
routine_items-requires g c =
    let rows : List Row = g.T.InsnTable.rows in
    let q = c.requires.can in
    let x : Image = image_of c.args.elf.now.bytes in
    let kept : Kept = kept_in c.args.kept.now in
    let fit : IsFit (decoded rows) x kept = fit_of (decoded rows) c.args.elf.now.bytes kept c.args.range.now q in
    let low = scratch_low rows c.table_facts.ensures x kept fit in
    let scratch = ap (λ (a : Added). a.scratch) q.range_is in
    go c.args.range.now.scratch _ scratch low
  where
    go : (r s : ℕ) → r ≡ s → s + 4096 < 2 ^ 31 → r + 4096 ≤ 2 ^ 31
    go r s e h = omega (arith, e, h)

pub table_pairs-requires-clause-edges : goal.table_pairs-requires-clause-edges
table_pairs-requires-clause-edges g c = subst (IsNonDecreasingBy (λ e. e.0)) (sym c.requires.edges) (sources_ascend c.args.kept.now.edges)

pub table_pairs-requires-clause-end : goal.table_pairs-requires-clause-end
table_pairs-requires-clause-end g c =
    let rows : List Row = g.T.InsnTable.rows in
    let q = c.requires.can in
    let x : Image = image_of c.args.elf.now.bytes in
    let kept : Kept = kept_in c.args.kept.now in
    let fit : IsFit (decoded rows) x kept = fit_of (decoded rows) c.args.elf.now.bytes kept c.args.range.now q in
    let low = tables_low rows c.table_facts.ensures x kept fit in
    let tables = ap (λ (a : Added). a.tables) q.range_is in
    let sum = ap (λ e. tables_sum (targets_from e) c.args.sites.now) c.requires.edges ∙ ap (tables_sum (targets_of kept.edges)) (c.requires.sites ∙ ap (sites_of (decoded rows) (code_in x.loads)) c.requires.nodes) in
    go c.args.range.now.tables _ (tables_sum (targets_from c.args.edges.now) c.args.sites.now) _ tables sum low
  where
    go : (r t n m : ℕ) → r ≡ t → n ≡ m → t + m < 2 ^ 31 → r + n < 2 ^ 64
    go r t n m e f h = omega (arith, e, f, h)

pub returns-clause-all : goal.returns-clause-all
returns-clause-all g c =
    let rows : List Row = g.T.InsnTable.rows in
    let q = c.requires.can in
    let x : Image = image_of c.args.elf.now.bytes in
    let kept : Kept = kept_in c.args.kept.now in
    let fit : IsFit (decoded rows) x kept = fit_of (decoded rows) c.args.elf.now.bytes kept c.args.range.now q in
    let listed = c.requires.sites ∙ ap (sites_of (decoded rows) (code_in x.loads)) c.requires.nodes in
    let f : Fragments = record { list = c.list.inside.items.items; routine = c.routine.inside.items.items; tables = c.in_ok-tables.tables; stubs = c.in_ok-stub_pairs.field-0 } in
    let made : Made rows c.table_facts.ensures x kept fit c.args.range.now f = record {
      range_is = q.range_is;
      list = c.list.view_is ∙ c.in_ok-list.ensures ∙ ap (fragment_list (node_items (decoded rows) (code_in x.loads) c.args.range.now.scratch kept.edges)) c.requires.nodes;
      routine = c.routine.view_is ∙ c.in_ok-routine.ensures ∙ ap (routine_for c.args.range.now.scratch) listed;
      tables = c.in_ok-tables.ensures ∙ ap (λ e. table_pairs (targets_from e) c.args.range.now.tables c.args.sites.now) c.requires.edges ∙ ap (table_pairs (targets_of kept.edges) c.args.range.now.tables) listed;
      stubs = c.in_ok-stub_pairs.ensures ∙ ap (stub_pairs c.args.range.now.stubs) c.requires.nodes;
    } in
    made_is rows c.table_facts.ensures x kept fit c.args.range.now f made

pub returns-clause-may_lay : goal.returns-clause-may_lay
returns-clause-may_lay g c =
    let rows : List Row = g.T.InsnTable.rows in
    let q = c.requires.can in
    let x : Image = image_of c.args.elf.now.bytes in
    let kept : Kept = kept_in c.args.kept.now in
    let fit : IsFit (decoded rows) x kept = fit_of (decoded rows) c.args.elf.now.bytes kept c.args.range.now q in
    let listed = c.requires.sites ∙ ap (sites_of (decoded rows) (code_in x.loads)) c.requires.nodes in
    let f : Fragments = record { list = c.list.inside.items.items; routine = c.routine.inside.items.items; tables = c.in_ok-tables.tables; stubs = c.in_ok-stub_pairs.field-0 } in
    let made : Made rows c.table_facts.ensures x kept fit c.args.range.now f = record {
      range_is = q.range_is;
      list = c.list.view_is ∙ c.in_ok-list.ensures ∙ ap (fragment_list (node_items (decoded rows) (code_in x.loads) c.args.range.now.scratch kept.edges)) c.requires.nodes;
      routine = c.routine.view_is ∙ c.in_ok-routine.ensures ∙ ap (routine_for c.args.range.now.scratch) listed;
      tables = c.in_ok-tables.ensures ∙ ap (λ e. table_pairs (targets_from e) c.args.range.now.tables c.args.sites.now) c.requires.edges ∙ ap (table_pairs (targets_of kept.edges) c.args.range.now.tables) listed;
      stubs = c.in_ok-stub_pairs.ensures ∙ ap (stub_pairs c.args.range.now.stubs) c.requires.nodes;
    } in
    may_lay rows c.table_facts.ensures x kept fit c.sized_stand_near.ensures c.args.range.now f made
