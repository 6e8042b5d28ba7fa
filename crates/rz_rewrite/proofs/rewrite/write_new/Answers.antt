use Rattle.std.proofs.Common.{◌≡◌, ℕ, ◌-◌, ◌<◌, ◌≤◌, List, ◌++◌, length, refl, sym, ap, ◌∙◌, subst, arith}
use Rattle.std.specs.List.{AllByRecursion}
use Rattle.std.specs.List.Sorted.{IsNonDecreasingBy}
use Rattle.rz_isa.specs.declared.rows.Row.{Row}
use Rattle.rz_isa.specs.Decoded.{decoded}
use Rattle.rz_elf.specs.Format.{all_stubs}
use Rattle.rz_elf.specs.AddedRange.{Added, filled}
use Rattle.rz_elf.specs.Elf.{image_of}
use Rattle.rz_elf.specs.PlainImage.{IsPlainImage}
use Rattle.rz_elf.specs.Laws.PlainAccepted.{accepted_plain}
use Rattle.rz_image.specs.Memory.{zeros}
use Rattle.rz_machine.specs.Added.{sites}
use Rattle.rz_machine.specs.Kept.{Kept, sorted}
use Rattle.rz_machine.specs.Nodes.{code_in}
use Rattle.rz_rewrite.specs.Calls.Places.{beside_or_zero}
use Rattle.rz_rewrite.proofs.TablesPart.{tables_fit}
use Rattle.rz_machine.specs.Traced.{kept_in}
use Rattle.rz_rewrite.specs.declared.rewrite.New.{New}
use Rattle.rz_rewrite.proofs.ByteLists.{each_byte}
use Rattle.rz_rewrite.proofs.NodeCount.{nodes_some}
use Rattle.rz_rewrite.proofs.PartRoom.{stubs_room}
use Rattle.rz_rewrite.proofs.PartsFit.{are_pages, end_at_floor, entry_in_code, has_room, has_room_for_parts}
use Rattle.rz_rewrite.proofs.NewTables.{tables_alike, each_table_alike, bounds_alike, places_ascend, stubs_ascend, each_table}
use Rattle.rz_rewrite.proofs.TargetRange.{sources_ascend}
use Rattle.rz_rewrite.proofs.RewriteLaws.{AreParts, rewritten, new_is}
use Rattle.rz_rewrite.proofs.rewrite.write_new.Goals as goal

pub emit_tables-requires-clause-edges : goal.emit_tables-requires-clause-edges
emit_tables-requires-clause-edges g c = subst (IsNonDecreasingBy (λ e. e.0)) (sym c.requires.edges) (sources_ascend c.args.kept.now.edges)

pub greatest_bound-bound-requires : goal.greatest_bound-bound-requires
greatest_bound-bound-requires g c = subst (IsNonDecreasingBy (λ e. e.0)) (sym c.requires.edges) (sources_ascend c.args.kept.now.edges)

pub emit_tables-requires-clause-places : goal.emit_tables-requires-clause-places
emit_tables-requires-clause-places g c =
    subst (IsNonDecreasingBy (λ p. p.0)) (sym c.as_slice-3.ensures)
    (places_ascend g.T.InsnTable.rows c.table_facts.ensures c.args.elf.now.bytes (kept_in c.args.kept.now) c.args.range.now c.requires.can c.in_ok-code.code c.in_ok-code.ensures)

pub emit_tables-requires-clause-stubs : goal.emit_tables-requires-clause-stubs
emit_tables-requires-clause-stubs g c =
    subst (IsNonDecreasingBy (λ p. p.0)) (sym c.as_slice-4.ensures)
    (stubs_ascend g.T.InsnTable.rows c.table_facts.ensures c.args.elf.now.bytes (kept_in c.args.kept.now) c.args.range.now c.requires.can c.in_ok-code.code c.in_ok-code.ensures)

pub emit_tables-requires-clause-tables : goal.emit_tables-requires-clause-tables
emit_tables-requires-clause-tables g c =
    let rows : List Row = g.T.InsnTable.rows in
    let x = c.args.elf.now.bytes in
    let kept : Kept = kept_in c.args.kept.now in
    let list = c.as_slice-2.ensures.value ∙ c.in_ok-sites.ensures ∙ ap (sites (decoded rows) (code_in (image_of x).loads)) c.requires.nodes in
    let all = each_table rows c.table_facts.ensures x kept c.args.range.now c.requires.can c.in_ok-code.code c.in_ok-code.ensures in
    each_table_alike c.args.edges.now kept.edges c.as_slice-3.result.now c.in_ok-code.code.places c.as_slice-4.result.now c.in_ok-code.code.stubs c.as_slice-2.result.now _ c.requires.edges c.as_slice-3.ensures c.as_slice-4.ensures list all

pub parts_with-requires-clause-tables : goal.parts_with-requires-clause-tables
parts_with-requires-clause-tables g c =
    let dec = decoded g.T.InsnTable.rows in
    let q = c.requires.can in
    let x = c.args.elf.now.bytes in
    let kept : Kept = kept_in c.args.kept.now in
    let list = c.as_slice-2.ensures.value ∙ c.in_ok-sites.ensures ∙ ap (sites dec (code_in (image_of x).loads)) c.requires.nodes in
    let fit = tables_fit dec (image_of x) kept (has_room dec x kept q.room) (beside_or_zero c.in_ok-code.code.places) (beside_or_zero c.in_ok-code.code.stubs) in
    let size = ap length (c.in_ok-tables.ensures ∙ tables_alike c.args.edges.now kept.edges c.as_slice-3.result.now c.in_ok-code.code.places c.as_slice-4.result.now c.in_ok-code.code.stubs c.as_slice-2.result.now _ c.requires.edges c.as_slice-3.ensures c.as_slice-4.ensures list) in
    let code = ap (λ (a : Added). a.code) q.range_is in
    let tables = ap (λ (a : Added). a.tables) q.range_is in
    go _ _ c.args.range.now.code c.args.range.now.tables _ _ size fit code tables
  where
    go : (l m c t d u : ℕ) → l ≡ m → m ≤ d - u → c ≡ d → t ≡ u → l ≤ c - t
    go l m c t d u e h f g = omega (arith, e, h, f, g)

pub parts_with-requires-clause-order : goal.parts_with-requires-clause-order
parts_with-requires-clause-order g c =
    let q = c.requires.can in
    let code = ap (λ (a : Added). a.code) q.range_is in
    let tables = ap (λ (a : Added). a.tables) q.range_is in
    omega (arith, code, tables)

pub parts_with-requires-clause-stubs : goal.parts_with-requires-clause-stubs
parts_with-requires-clause-stubs g c =
    let q = c.requires.can in
    let x = c.args.elf.now.bytes in
    let kept : Kept = kept_in c.args.kept.now in
    let room = stubs_room (decoded g.T.InsnTable.rows) (image_of x) kept (has_room (decoded g.T.InsnTable.rows) x kept q.room) in
    let stubs = ap (λ (a : Added). a.stubs) q.range_is in
    let stop = ap (λ (a : Added). a.stop) q.range_is in
    let count = ap length c.requires.nodes in
    omega (arith, room, stubs, stop, count)

pub write_elf-requires : goal.write_elf-requires
write_elf-requires g c =
    let rows : List Row = g.T.InsnTable.rows in
    let dec = decoded rows in
    let q = c.requires.can in
    let x = c.args.elf.now.bytes in
    let kept : Kept = kept_in c.args.kept.now in
    let some = nodes_some dec (image_of x) kept q.plausible in
    let list = c.as_slice-2.ensures.value ∙ c.in_ok-sites.ensures ∙ ap (sites (decoded rows) (code_in (image_of x).loads)) c.requires.nodes in
    let made : AreParts c.args.range.now kept.edges (sorted kept.nodes) (sites (decoded rows) (code_in (image_of x).loads) (sorted kept.nodes)) c.in_ok-code.code c.in_ok-parts.parts = record {
      base = c.in_ok-parts.ensures.base;
      tables = c.in_ok-parts.ensures.tables ∙ ap (λ l. l ++ zeros (c.args.range.now.code - c.args.range.now.tables - length l)) (c.in_ok-tables.ensures ∙ tables_alike c.args.edges.now kept.edges c.as_slice-3.result.now c.in_ok-code.code.places c.as_slice-4.result.now c.in_ok-code.code.stubs c.as_slice-2.result.now _ c.requires.edges c.as_slice-3.ensures c.as_slice-4.ensures list);
      code_is = c.in_ok-parts.ensures.code;
      stubs = c.in_ok-parts.ensures.stubs ∙ ap (λ l. filled (c.args.range.now.stop - c.args.range.now.stubs) (all_stubs c.args.range.now.stubs l)) c.requires.nodes;
    } in
    let are = (rewritten rows c.table_facts.ensures x kept c.args.range.now q c.in_ok-code.code c.in_ok-code.ensures c.in_ok-parts.parts made).parts_added in
    record {
      pages = are_pages dec x kept q.room some c.in_ok-parts.parts c.in_ok-code.code.entry are;
      below = end_at_floor dec x kept q.room some c.in_ok-parts.parts c.in_ok-code.code.entry are;
      entry = entry_in_code dec x kept q.room some c.in_ok-parts.parts c.in_ok-code.code.entry are;
      room = has_room_for_parts dec x kept q.room some c.in_ok-parts.parts c.in_ok-code.code.entry are;
    }

pub returns : goal.returns
returns g c =
    let rows : List Row = g.T.InsnTable.rows in
    let q = c.requires.can in
    let x = c.args.elf.now.bytes in
    let kept : Kept = kept_in c.args.kept.now in
    let list = c.as_slice-2.ensures.value ∙ c.in_ok-sites.ensures ∙ ap (sites (decoded rows) (code_in (image_of x).loads)) c.requires.nodes in
    let made : AreParts c.args.range.now kept.edges (sorted kept.nodes) (sites (decoded rows) (code_in (image_of x).loads) (sorted kept.nodes)) c.in_ok-code.code c.in_ok-parts.parts = record {
      base = c.in_ok-parts.ensures.base;
      tables = c.in_ok-parts.ensures.tables ∙ ap (λ l. l ++ zeros (c.args.range.now.code - c.args.range.now.tables - length l)) (c.in_ok-tables.ensures ∙ tables_alike c.args.edges.now kept.edges c.as_slice-3.result.now c.in_ok-code.code.places c.as_slice-4.result.now c.in_ok-code.code.stubs c.as_slice-2.result.now _ c.requires.edges c.as_slice-3.ensures c.as_slice-4.ensures list);
      code_is = c.in_ok-parts.ensures.code;
      stubs = c.in_ok-parts.ensures.stubs ∙ ap (λ l. filled (c.args.range.now.stop - c.args.range.now.stubs) (all_stubs c.args.range.now.stubs l)) c.requires.nodes;
    } in
    let file = c.in_ok-bytes.ensures in
    let plain : IsPlainImage (image_of c.in_ok-bytes.bytes) = accepted_plain c.in_ok-bytes.bytes (subst (AllByRecursion (λ b. b < 256)) c.as_slice-5.ensures.value (each_byte _ c.are_bytes.ensures.each)) file.accepted in
    let new : New = record { bytes = c.in_ok-bytes.bytes; base = c.args.range.now.scratch; places = c.in_ok-code.code.places; stubs = c.in_ok-code.code.stubs; tables = c.in_ok-code.code.tables; routine = c.in_ok-code.code.routine; bound = c.greatest_bound-bound.result } in
    new_is rows c.table_facts.ensures x kept c.args.range.now q c.in_ok-code.code c.in_ok-code.ensures c.in_ok-parts.parts made c.in_ok-bytes.bytes file.file file.accepted file.image (subst IsPlainImage file.image plain) new refl refl refl refl refl refl (c.greatest_bound-bound.ensures ∙ bounds_alike (decoded rows) (image_of x) kept c.args.edges.now c.args.nodes.now c.requires.edges c.requires.nodes)
