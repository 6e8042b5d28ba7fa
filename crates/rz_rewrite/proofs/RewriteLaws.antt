-- The new file of an accepted file: what it is made of, and that it keeps the file's runs.
use Rattle.std.proofs.Common.{◌≡◌, ℕ, ◌-◌, ◌<◌, List, ◌++◌, length, map, None, refl, sym, ap, ap₂, ◌∙◌, subst, subst₂, arith, length-append}
use Rattle.rz_isa.specs.declared.rows.Row.{Row}
use Rattle.rz_isa.specs.Decoded.{decoded}
use Rattle.rz_isa.specs.declared.fragment_list.Fragments.{Fragments}
use Rattle.rz_isa.specs.Items.{beside}
use Rattle.rz_isa.specs.Nodes.{Decoder, is_site_at}
use Rattle.rz_isa.specs.Plan.{code_end, IsPlan, IsLeastPlan}
use Rattle.rz_image.specs.Memory.{zeros}
use Rattle.rz_image.specs.Laws.Zeros.{length-zeros}
use Rattle.rz_elf.specs.Elf.{fault_of, Image, image_of}
use Rattle.rz_elf.specs.Format.{all_stubs}
use Rattle.rz_elf.specs.AddedRange.{Added, tables_size, code_size, stubs_size, parts_below, filled}
use Rattle.rz_elf.specs.PlainImage.{IsPlainImage}
use Rattle.rz_elf.specs.Room.{extent_of, no_room}
use Rattle.rz_elf.specs.WrittenFile.{Parts, new_image, written_file}
use Rattle.rz_machine.specs.Added.{Places, sites, site_edges, added, layout_of}
use Rattle.rz_machine.specs.Keeps.{KeepsRun}
use Rattle.rz_machine.specs.Kept.{Kept, Edges, sorted, sorted_edges, targets_of, IsAscending}
use Rattle.rz_machine.specs.Nodes.{code_in}
use Rattle.rz_machine.specs.Pace.{Paced}
use Rattle.rz_machine.specs.Laws.Costs.{costs}
use Rattle.rz_machine.specs.Placement.{IsPlaced}
use Rattle.rz_machine.specs.Start.{start, HasHeapRoom}
use Rattle.rz_machine.specs.Laws.Sets.{IsAscending-sorted}
use Rattle.rz_emit.specs.Emitted.{code_bytes}
use Rattle.rz_rewrite.specs.declared.added.AddedRange.{AddedRange}
use Rattle.rz_rewrite.specs.declared.code.NewCode.{NewCode}
use Rattle.rz_rewrite.specs.declared.rewrite.New.{New}
use Rattle.rz_rewrite.specs.Fragments.{all_tables}
use Rattle.rz_rewrite.specs.Refusals.{rip_reach_of, size_for}
use Rattle.rz_rewrite.specs.Laws.Measured.{room_is, range_is}
use Rattle.rz_rewrite.specs.Rewritten.{CanRewrite, IsFit, IsRewritten, bound_of, greatest_bound, fragments_of, place_by, place_or_zero, places_by, tables_part}
use Rattle.rz_rewrite.specs.Calls.Places.{beside_or_zero}
use Rattle.rz_rewrite.proofs.TablesPart.{table_keys, sites_ascend, keyed, tables_fit}
use Rattle.rz_rewrite.specs.Calls.Plan.{range_of, IsPlanned, IsNewCode, IsNew}
use Rattle.rz_rewrite.specs.Calls.Table.{TableFacts}
use Rattle.rz_rewrite.proofs.KeepsWritten.{placed_written, both_written}
use Rattle.rz_rewrite.proofs.NewCodeLaws.{entry_inside}
use Rattle.rz_rewrite.proofs.NewTables.{places_are, stubs_are, tables_are}
use Rattle.rz_rewrite.proofs.Parts.{length-filled}
use Rattle.rz_rewrite.proofs.PartsFit.{inert_of}
use Rattle.rz_rewrite.proofs.Planned.{fit_of}

-- parts of such sizes, code and stubs
pub record AreParts (range : AddedRange) (edges : Edges) (nodes sites : List ℕ) (code : NewCode) (parts : Parts) : Type 0 where
  pub base : parts.base ≡ range.scratch
  pub tables : let bytes = all_tables (targets_of edges) (beside_or_zero code.places) (beside_or_zero code.stubs) sites in
      parts.tables ≡ bytes ++ zeros (range.code - range.tables - length bytes)
  pub code_is : parts.code ≡ code.bytes
  pub stubs : parts.stubs ≡ filled (range.stop - range.stubs) (all_stubs range.stubs nodes)

module _ (rows : List Row) (facts : TableFacts rows) (x : List ℕ) (kept : Kept) (range : AddedRange) (q : IsPlanned (decoded rows) x kept range) (code : NewCode) (is : IsNewCode rows (image_of x) kept range code)
    (parts : Parts) (are : AreParts range kept.edges (sorted kept.nodes) (sites (decoded rows) (code_in (image_of x).loads) (sorted kept.nodes)) code parts) where
  abbrev dec : Decoder
  dec = decoded rows

  abbrev a : Added
  a = added dec (image_of x) kept

  fit : IsFit dec (image_of x) kept
  fit = fit_of dec x kept range q

  code_at : range.code ≡ a.code
  code_at = ap (λ (b : Added). b.code) q.range_is

  stubs_at : range.stubs ≡ a.stubs
  stubs_at = ap (λ (b : Added). b.stubs) q.range_is

  abbrev frags : Fragments
  frags = fragments_of dec (image_of x) kept

  abbrev list : List ℕ
  list = sites dec (code_in (image_of x).loads) (sorted kept.nodes)

  abbrev place : ℕ → ℕ
  place = place_by rows (fragments_of dec (image_of x) kept) a.code is.forms

  abbrev stub : ℕ → ℕ
  stub b = (layout_of dec (image_of x) kept).stub b

  part_is : parts.tables ≡ tables_part dec (image_of x) kept place
  part_is =
      are.tables ∙ ap (λ l. l ++ zeros (range.code - range.tables - length l)) (tables_are rows facts x kept range q code is)
      ∙ ap (λ n. all_tables (targets_of kept.edges) place stub list ++ zeros (n - length (all_tables (targets_of kept.edges) place stub list))) (ap (λ (b : Added). b.code - b.tables) q.range_is)

  part_long : length parts.tables ≡ a.code - a.tables
  part_long =
      let bytes = all_tables (targets_of kept.edges) place stub list in
      let few = tables_fit dec (image_of x) kept fit.room place stub in
      let sum = length-append bytes (zeros (a.code - a.tables - length bytes)) in
      let rest = length-zeros (a.code - a.tables - length bytes) in
      ap length part_is ∙ omega (arith, few, sum, rest)

  -- what the parts are
  pub rewritten : IsRewritten rows (image_of x) kept parts code.entry is.forms
  rewritten =
      let inside = entry_inside rows facts (image_of x) kept fit range q.range_is code is in
      let bytes : parts.code ≡ filled (a.stubs - a.code) (code_bytes rows (fragments_of dec (image_of x) kept) a.code is.forms) =
      are.code_is ∙ is.bytes ∙ ap₂ (λ c s. filled (s - c) (code_bytes rows (fragments_of dec (image_of x) kept) c is.forms)) code_at stubs_at in
      record {
        parts_added = record {
          base = are.base ∙ ap (λ (b : Added). b.scratch) q.range_is;
          tables = part_long;
          code = ap length bytes ∙ length-filled (a.stubs - a.code) (code_bytes rows (fragments_of dec (image_of x) kept) a.code is.forms) inside.2;
          stubs = are.stubs ∙ ap (λ (b : Added). filled (b.stop - b.stubs) (all_stubs b.stubs (sorted kept.nodes))) q.range_is;
          entry_from = inside.0;
          entry_below = inside.1;
        };
        plan = subst (λ c. IsPlan rows (fragments_of dec (image_of x) kept) c is.forms) code_at is.plan;
        least = subst (λ c. IsLeastPlan rows (fragments_of dec (image_of x) kept) c is.forms) code_at is.least;
        ends = subst₂ (λ c s. code_end rows (fragments_of dec (image_of x) kept) c is.forms < s) code_at stubs_at is.ends;
        tables = part_is;
        code = bytes;
        begins = is.entry ∙ ap (λ c. place_by rows (fragments_of dec (image_of x) kept) c is.forms (image_of x).entry) code_at;
      }

  -- the file that is written with them
  module _ (w : List ℕ) (file : w ≡ written_file x parts code.entry) (accepted : fault_of w ≡ None) (image : image_of w ≡ new_image (image_of x) parts code.entry) (new_plain : IsPlainImage (new_image (image_of x) parts code.entry)) where
    pub new_is : (new : New) → new.bytes ≡ w → new.base ≡ range.scratch → new.places ≡ code.places → new.stubs ≡ code.stubs → new.tables ≡ code.tables → new.routine ≡ code.routine
        → new.bound ≡ greatest_bound dec (image_of x) kept → IsNew rows x kept range new
    new_is new bytes base places stubs tables routine bound =
        let i : Image = image_of x in
        let same : image_of new.bytes ≡ new_image i parts code.entry = ap image_of bytes ∙ image in
        let P : Image → Type 0 = λ j. IsPlaced dec i j kept (layout_of dec i kept) spots (bound_of dec i kept) in
        let K : Image → Type 0 = λ j. (input : _) → KeepsRun dec kept.edges (layout_of dec i kept) (start i input) (start j input) in
        let Q : Image → Type 0 = λ j. (input : _) → Paced dec kept.edges (layout_of dec i kept) (bound_of dec i kept) (start i input) (start j input) in
        let both = both_written rows facts i kept parts code.entry is.forms fit rewritten new_plain in
        record {
          placed = (
            spots,
            places ∙ places_are rows facts x kept range q code is,
            tables ∙ is.tables ∙ table_places,
            routine ∙ is.routine ∙ ap (λ c. (places_by rows (fragments_of dec i kept) c is.forms).routine) code_at,
            subst P (sym same) (placed_written rows facts i kept parts code.entry is.forms fit rewritten new_plain),
          );
          paced = subst Q (sym same) (λ input. (both input).1);
          costs = λ input. costs dec kept.edges (layout_of dec i kept) (bound_of dec i kept) (start i input) (start (image_of new.bytes) input) refl (subst Q (sym same) (λ input. (both input).1) input);
          stubs = stubs ∙ stubs_are rows facts x kept range q code is;
          code = record { parts = parts; entry = code.entry; forms = is.forms; rewritten = rewritten; file = bytes ∙ file };
          keeps = λ input valid. subst K (sym same) (λ input. (both input).0) input;
          inert = inert_of dec x new.bytes kept parts code.entry rewritten.parts_added (bytes ∙ file) (ap fault_of bytes ∙ accepted) same;
          base = base;
          bound = bound;
        }
      where
        spots : Places
        spots = places_by rows (fragments_of dec (image_of x) kept) a.code is.forms

        table_places : frags.tables ≡ map (λ b. (b, (places_by rows (fragments_of dec (image_of x) kept) a.code is.forms).table b)) list
        table_places =
            let keys = table_keys kept.edges a.tables list in
            let up = sites_ascend (is_site_at dec (code_in (image_of x).loads)) (sorted kept.nodes) (IsAscending-sorted kept.nodes) in
            keyed frags.tables (λ b. place_or_zero (beside frags.tables b)) (subst IsAscending (sym keys) up) (λ b m. refl) ∙ ap (map (λ b. (b, place_or_zero (beside frags.tables b)))) keys

-- ---- what is measured of a kept set, by its sorted lists

module _ (dec : Decoder) (x : List ℕ) (kept : Kept) (nodes : List ℕ) (edges : Edges) (nodes_are : nodes ≡ sorted kept.nodes) (edges_are : edges ≡ sorted_edges kept.edges)
    (j e : ℕ) (j_is : j ≡ length (sites dec (code_in (image_of x).loads) nodes)) (e_is : e ≡ length (site_edges dec (code_in (image_of x).loads) edges)) where
  pub planned : (r : AddedRange) → IsPlainImage (image_of x) → HasHeapRoom (image_of x) → CanRewrite dec (image_of x) kept → rip_reach_of dec x kept ≡ None → no_room (extent_of x) (size_for (length nodes) j e) ≡ None
      → range_of r ≡ parts_below (tables_size j e) (code_size (length nodes) j e) (stubs_size (length nodes)) (extent_of x).floor → IsPlanned dec x kept r
  planned r plain heap can reach free is =
      record { plain = plain; heap = heap; plausible = can; reach = reach; room = sym (room_is dec x kept nodes edges nodes_are edges_are j e j_is e_is) ∙ free; range_is = is ∙ range_is dec x kept nodes edges nodes_are edges_are j e j_is e_is }
