use Rattle.std.proofs.Common.{length, sym, ap, ◌∙◌, subst}
use Rattle.rz_isa.specs.Decoded.{decoded}
use Rattle.rz_elf.specs.Elf.{image_of}
use Rattle.rz_elf.specs.AddedRange.{Added, tables_size, code_size, stubs_size, parts_below}
use Rattle.rz_elf.specs.Loaded.{ElfFile, IsRead}
use Rattle.rz_elf.specs.PlainImage.{IsPlainImage}
use Rattle.rz_elf.specs.Room.{no_room}
use Rattle.rz_machine.specs.Kept.{Kept}
use Rattle.rz_machine.specs.Traced.{kept_in}
use Rattle.rz_rewrite.specs.Refusals.{size_for}
use Rattle.rz_rewrite.specs.Rewritten.{IsBound}
use Rattle.rz_rewrite.specs.Laws.Greatest.{is_bound}
use Rattle.rz_rewrite.proofs.Planned.{plain_read, heap_read}
use Rattle.rz_rewrite.specs.Laws.Measured.{reach_is, room_is, range_is}
use Rattle.rz_rewrite.proofs.RewriteLaws.{planned}
use Rattle.rz_rewrite.proofs.rewrite.rewrite.Goals as goal

pub write_new-requires-clause-nodes : goal.write_new-requires-clause-nodes
write_new-requires-clause-nodes g c = c.as_slice-nodes.ensures.value ∙ c.in_ok-words.ensures.value

pub write_new-requires-clause-edges : goal.write_new-requires-clause-edges
write_new-requires-clause-edges g c = c.as_slice-edges.ensures ∙ c.in_ok-pairs.ensures.value

pub write_new-requires-clause-can : goal.write_new-requires-clause-can
write_new-requires-clause-can g c =
    let elf = c.args.elf.now in
    let kept : Kept = kept_in c.args.kept.now in
    let dec = decoded g.T.InsnTable.rows in
    let is : IsRead elf = subst IsRead c.elf.view_is c.elf.invariant in
    let plain : IsPlainImage (image_of elf.bytes) = plain_read elf c.as_slice.result.now is (c.as_slice.ensures.value ∙ ap (λ (e : ElfFile). e.bytes) c.elf.view_is) c.are_bytes.ensures.each in
    let nodes = c.as_slice-nodes.ensures.value ∙ c.in_ok-words.ensures.value in
    let edges = c.as_slice-edges.ensures ∙ c.in_ok-pairs.ensures.value in
    let reach = reach_is dec elf.bytes kept c.as_slice-nodes.result.now nodes c.first_out_of_reach.result c.first_out_of_reach.ensures ∙ c.in_default.is in
    planned dec elf.bytes kept c.as_slice-nodes.result.now c.as_slice-edges.result.now nodes edges c.site_count-sites.result c.site_edge_count-site_edges.result c.site_count-sites.ensures c.site_edge_count-site_edges.ensures c.in-Ok.range plain (heap_read elf is) c.requires.plausible reach
    (ap (λ e. no_room e (size_for (length c.as_slice-nodes.result.now) c.site_count-sites.result c.site_edge_count-site_edges.result)) (sym c.extent_of.ensures) ∙ c.in-Ok.ensures.room)
    (c.in-Ok.ensures.range ∙ ap (λ e. parts_below (tables_size c.site_count-sites.result c.site_edge_count-site_edges.result) (code_size (length c.as_slice-nodes.result.now) c.site_count-sites.result c.site_edge_count-site_edges.result) (stubs_size (length c.as_slice-nodes.result.now)) e.floor) c.extent_of.ensures)

pub returns-in-Some-clause-refused : goal.returns-in-Some-clause-refused
returns-in-Some-clause-refused g c =
    reach_is (decoded g.T.InsnTable.rows) c.args.elf.now.bytes (kept_in c.args.kept.now) c.as_slice-nodes.result.now (c.as_slice-nodes.ensures.value ∙ c.in_ok-words.ensures.value) c.first_out_of_reach.result c.first_out_of_reach.ensures ∙ c.in-Some.is

pub returns-clause-refused : goal.returns-clause-refused
returns-clause-refused g c =
    let dec = decoded g.T.InsnTable.rows in
    let kept : Kept = kept_in c.args.kept.now in
    let nodes = c.as_slice-nodes.ensures.value ∙ c.in_ok-words.ensures.value in
    let edges = c.as_slice-edges.ensures ∙ c.in_ok-pairs.ensures.value in
    let room = room_is dec c.args.elf.now.bytes kept c.as_slice-nodes.result.now c.as_slice-edges.result.now nodes edges c.site_count-sites.result c.site_edge_count-site_edges.result c.site_count-sites.ensures c.site_edge_count-site_edges.ensures in (
      reach_is dec c.args.elf.now.bytes kept c.as_slice-nodes.result.now nodes c.first_out_of_reach.result c.first_out_of_reach.ensures ∙ c.in_default.is,
      sym room ∙ ap (λ e. no_room e (size_for (length c.as_slice-nodes.result.now) c.site_count-sites.result c.site_edge_count-site_edges.result)) (sym c.extent_of.ensures) ∙ c.in-Err.ensures.refused,
    )

pub returns-in-Ok-clause-reach : goal.returns-in-Ok-clause-reach
returns-in-Ok-clause-reach g c =
    reach_is (decoded g.T.InsnTable.rows) c.args.elf.now.bytes (kept_in c.args.kept.now) c.as_slice-nodes.result.now (c.as_slice-nodes.ensures.value ∙ c.in_ok-words.ensures.value) c.first_out_of_reach.result c.first_out_of_reach.ensures ∙ c.in_default.is

pub returns-in-Ok-clause-room : goal.returns-in-Ok-clause-room
returns-in-Ok-clause-room g c =
    let dec = decoded g.T.InsnTable.rows in
    let kept : Kept = kept_in c.args.kept.now in
    let nodes = c.as_slice-nodes.ensures.value ∙ c.in_ok-words.ensures.value in
    let edges = c.as_slice-edges.ensures ∙ c.in_ok-pairs.ensures.value in
    let room = room_is dec c.args.elf.now.bytes kept c.as_slice-nodes.result.now c.as_slice-edges.result.now nodes edges c.site_count-sites.result c.site_edge_count-site_edges.result c.site_count-sites.ensures c.site_edge_count-site_edges.ensures in
    sym room ∙ ap (λ e. no_room e (size_for (length c.as_slice-nodes.result.now) c.site_count-sites.result c.site_edge_count-site_edges.result)) (sym c.extent_of.ensures) ∙ c.in-Ok.ensures.room

pub returns-in-Ok-clause-base : goal.returns-in-Ok-clause-base
returns-in-Ok-clause-base g c =
    let dec = decoded g.T.InsnTable.rows in
    let kept : Kept = kept_in c.args.kept.now in
    let nodes = c.as_slice-nodes.ensures.value ∙ c.in_ok-words.ensures.value in
    let edges = c.as_slice-edges.ensures ∙ c.in_ok-pairs.ensures.value in
    let range = range_is dec c.args.elf.now.bytes kept c.as_slice-nodes.result.now c.as_slice-edges.result.now nodes edges c.site_count-sites.result c.site_edge_count-site_edges.result c.site_count-sites.ensures c.site_edge_count-site_edges.ensures in
    c.in_ok-write_new-in-Ok.ensures.base
    ∙ ap (λ (a : Added). a.scratch) (c.in-Ok.ensures.range ∙ ap (λ e. parts_below (tables_size c.site_count-sites.result c.site_edge_count-site_edges.result) (code_size (length c.as_slice-nodes.result.now) c.site_count-sites.result c.site_edge_count-site_edges.result) (stubs_size (length c.as_slice-nodes.result.now)) e.floor) c.extent_of.ensures ∙ range)

pub returns-in-Ok-clause-most : goal.returns-in-Ok-clause-most
returns-in-Ok-clause-most g c =
    let dec = decoded g.T.InsnTable.rows in
    let kept : Kept = kept_in c.args.kept.now in
    subst (IsBound dec (image_of c.args.elf.now.bytes) kept) (sym c.in_ok-write_new-in-Ok.ensures.bound) (is_bound dec (image_of c.args.elf.now.bytes) kept)
