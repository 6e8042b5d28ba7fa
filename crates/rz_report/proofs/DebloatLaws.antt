-- What is counted of a kept set, and where its added range begins, make its report.
use Rattle.std.proofs.Common.{◌≡◌, ℕ, List, length, ap, ◌∙◌}
use Rattle.rz_isa.specs.Nodes.{Decoder}
use Rattle.rz_elf.specs.AddedRange.{Added, tables_size, code_size, stubs_size, parts_below}
use Rattle.rz_elf.specs.Elf.{image_of}
use Rattle.rz_elf.specs.Room.{extent_of}
use Rattle.rz_machine.specs.Added.{sites, site_edges}
use Rattle.rz_machine.specs.Kept.{Kept, Edges, sorted, sorted_edges}
use Rattle.rz_machine.specs.Nodes.{code_in}
use Rattle.rz_rewrite.specs.Laws.Measured.{range_is}
use Rattle.rz_report.specs.Report.{report_text, debloat_report_of}

pub counted : (dec : Decoder) (x : List ℕ) (kept : Kept) (nodes : List ℕ) (edges : Edges) → nodes ≡ sorted kept.nodes → edges ≡ sorted_edges kept.edges
    → (site_number edge_number : ℕ) → site_number ≡ length (sites dec (code_in (image_of x).loads) nodes) → edge_number ≡ length (site_edges dec (code_in (image_of x).loads) edges)
    → (range : Added)
    → range ≡ parts_below (tables_size site_number edge_number) (code_size (length nodes) site_number edge_number) (stubs_size (length nodes)) (extent_of x).floor
    → report_text range.scratch (length edges) (length nodes) edge_number site_number ≡ debloat_report_of dec (image_of x) kept
counted dec x kept nodes edges nodes_are edges_are j e j_is e_is range range_so =
    let scratch = ap (λ (a : Added). a.scratch) (range_so ∙ range_is dec x kept nodes edges nodes_are edges_are j e j_is e_is) in
    let node_count = ap (λ (l : List ℕ). length l) nodes_are in
    let edge_count = ap (λ (l : Edges). length l) edges_are in
    let site_count = j_is ∙ ap (λ (l : List ℕ). length (sites dec (code_in (image_of x).loads) l)) nodes_are in
    let site_edge_count = e_is ∙ ap (λ (l : Edges). length (site_edges dec (code_in (image_of x).loads) l)) edges_are in
    λ i. report_text (scratch i) (edge_count i) (node_count i) (site_edge_count i) (site_count i)
