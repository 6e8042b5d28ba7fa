-- What a level keeps is fixed up to its order, and so is all that goes by the members alone.
use Rattle.std.proofs.Common.{◌≡◌, ℕ, Bool, true, false, List, refl, sym, ap, ap₂}
use Rattle.std.specs.Prelude.{length}
use Rattle.rz_aset.specs.declared.kept.Record.{Record}
use Rattle.rz_aset.specs.Sets.{has, has_edge}
use Rattle.rz_aset.specs.Laws.Sorted.{sorted_same, sorted_edges_same}
use Rattle.rz_classes.specs.declared.listed.Function.{Function}
use Rattle.rz_elf.specs.Elf.{image_of}
use Rattle.rz_elf.specs.Room.{extent_of, no_room}
use Rattle.rz_machine.specs.Kept.{Kept, sorted, sorted_edges}
use Rattle.rz_machine.specs.Nodes.{code_in}
use Rattle.rz_machine.specs.Added.{sites, site_edges}
use Rattle.rz_rewrite.specs.Reach.{first_out_of_reach}
use Rattle.rz_rewrite.specs.Refusals.{rip_reach_of, no_room_for, size_for}
use Rattle.rz_paths.specs.declared.level.Level.{Level}
use Rattle.rz_paths.specs.declared.level.Level.TheVariants as level
use Rattle.rz_paths.specs.Sets.{In, Edges, joins}
use Rattle.rz_paths.specs.Program.{Program}
use Rattle.rz_paths.specs.Levels.{IsEdgeAt, Keeps as KeepsAt}
use Rattle.rz_paths.specs.Laws.Growing.{edges_grow}
use Rattle.rz_core.specs.Decoding.{decode_profile, profile_program}
use Rattle.rz_core.specs.Debloated.{Sources, record_of, recorded_of, IsKept}

-- truths that follow from each other are equal
alike : (x y : Bool) → (x ≡ true → y ≡ true) → (y ≡ true → x ≡ true) → x ≡ y
alike true y f g = sym (f refl)
alike false true f g = g refl
alike false false f g = refl

-- the edges among nodes are among more nodes too
edge_grows : (at : Level) (program : Program) (recorded : Edges) (few many : List ℕ) → ((a : ℕ) → In few a → In many a) → (a b : ℕ) → IsEdgeAt at program recorded few a b → IsEdgeAt at program recorded many a b
edge_grows level.Exact program recorded few many grows a b h = h
edge_grows _ program recorded few many grows a b h = edges_grow program recorded few many grows a b h

-- one of two sets of a level has what the other has
module _ (at : Level) (program : Program) (functions : List Function) (recorded one other : Record) (f : KeepsAt at program functions recorded one) (g : KeepsAt at program functions recorded other) where
  node_in : (a : ℕ) → In one.nodes a → In other.nodes a
  node_in a i = (g.nodes a).1 ((f.nodes a).0 i)

  edge_in : (a b : ℕ) → joins one.edges a b ≡ true → joins other.edges a b ≡ true
  edge_in a b h = (g.edges a b).1 (edge_grows at program recorded.edges one.nodes other.nodes node_in a b ((f.edges a b).0 h))

module _ (at : Level) (limit : ℕ) (from : Sources) (one other : Kept) (f : IsKept at limit from one) (g : IsKept at limit from other) where
  abbrev program : Program
  program = profile_program from.exe

  abbrev recorded : Record
  recorded = record_of (recorded_of limit from.exe from.inputs)

  same_nodes : sorted one.nodes ≡ sorted other.nodes
  same_nodes =
      sorted_same one.nodes other.nodes
      (λ a. alike (has one.nodes a) (has other.nodes a) (node_in at program from.functions recorded (record_of one) (record_of other) f g a)
      (node_in at program from.functions recorded (record_of other) (record_of one) g f a))

  same_edges : sorted_edges one.edges ≡ sorted_edges other.edges
  same_edges =
      sorted_edges_same one.edges other.edges
      (λ e. alike (has_edge one.edges e) (has_edge other.edges e) (edge_in at program from.functions recorded (record_of one) (record_of other) f g e.0 e.1)
      (edge_in at program from.functions recorded (record_of other) (record_of one) g f e.0 e.1))

  pub same_reach : rip_reach_of decode_profile from.exe one ≡ rip_reach_of decode_profile from.exe other
  same_reach = ap (λ (nodes : List ℕ). first_out_of_reach decode_profile (code_in (image_of from.exe).loads) nodes) same_nodes

  pub same_room : no_room_for decode_profile from.exe one ≡ no_room_for decode_profile from.exe other
  same_room =
      let code = code_in (image_of from.exe).loads in
      ap₂ (λ (nodes : List ℕ) (edges : Edges). no_room (extent_of from.exe) (size_for (length nodes) (length (sites decode_profile code nodes)) (length (site_edges decode_profile code edges))))
      same_nodes same_edges
