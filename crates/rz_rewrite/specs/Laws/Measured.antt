-- What is measured of a kept set, by its sorted lists.
use Rattle.std.proofs.Common.{◌≡◌, ℕ, List, length, Option, sym, ap, ◌∙◌}
use Rattle.rz_isa.specs.Nodes.{Decoder}
use Rattle.rz_elf.specs.AddedRange.{tables_size, code_size, stubs_size, parts_below}
use Rattle.rz_elf.specs.Elf.{image_of}
use Rattle.rz_elf.specs.Room.{extent_of, no_room}
use Rattle.rz_machine.specs.Added.{sites, site_edges, node_count, site_count, site_edge_count, added}
use Rattle.rz_machine.specs.Kept.{Kept, Edges, sorted, sorted_edges}
use Rattle.rz_machine.specs.Nodes.{code_in}
use Rattle.rz_rewrite.specs.Reach.{first_out_of_reach}
use Rattle.rz_rewrite.specs.Refusals.{rip_reach_of, no_room_for, size_for}

-- the first of the nodes in order whose operand is out of reach
pub reach_is : (dec : Decoder) (x : List ℕ) (kept : Kept) (nodes : List ℕ) → nodes ≡ sorted kept.nodes → (r : Option ℕ) → r ≡ first_out_of_reach dec (code_in (image_of x).loads) nodes → rip_reach_of dec x kept ≡ r
reach_is dec x kept nodes same r is = ap (first_out_of_reach dec (code_in (image_of x).loads)) (sym same) ∙ sym is

module _ (dec : Decoder) (x : List ℕ) (kept : Kept) (nodes : List ℕ) (edges : Edges) (nodes_are : nodes ≡ sorted kept.nodes) (edges_are : edges ≡ sorted_edges kept.edges)
    (j e : ℕ) (j_is : j ≡ length (sites dec (code_in (image_of x).loads) nodes)) (e_is : e ≡ length (site_edges dec (code_in (image_of x).loads) edges)) where
  n_same : length nodes ≡ node_count kept
  n_same = ap length nodes_are

  j_same : j ≡ site_count dec (image_of x) kept
  j_same = j_is ∙ ap (λ l. length (sites dec (code_in (image_of x).loads) l)) nodes_are

  e_same : e ≡ site_edge_count dec (image_of x) kept
  e_same = e_is ∙ ap (λ l. length (site_edges dec (code_in (image_of x).loads) l)) edges_are

  -- why there is no room
  pub room_is : no_room (extent_of x) (size_for (length nodes) j e) ≡ no_room_for dec x kept
  room_is = λ i. no_room (extent_of x) (size_for (n_same i) (j_same i) (e_same i))

  -- and where the parts lie
  pub range_is : parts_below (tables_size j e) (code_size (length nodes) j e) (stubs_size (length nodes)) (extent_of x).floor ≡ added dec (image_of x) kept
  range_is = λ i. parts_below (tables_size (j_same i) (e_same i)) (code_size (n_same i) (j_same i) (e_same i)) (stubs_size (n_same i)) (extent_of x).floor
