-- What contracts of inner calls see of the lists of one family.
use Rattle.std.specs.Prelude.{◌≡◌, ◌≤◌, ◌+◌, ℕ, List, Vec, vec_len, vec_capacity}
use Rattle.std.specs.Global.{Global}
use Rattle.rz_links.specs.declared.links.Link.{Link}

-- lists of nodes, of so many nodes from 0 on, with memory for so many nodes and lists
pub record Linked : Type 0 where
  pub lists : List (List ℕ)
  pub nodes : ℕ
  pub capacity : ℕ
  pub list_capacity : ℕ

-- the lists that links make, and what there is room for
abbrev pub linked : List (List ℕ) → Vec Link Global → Vec Link Global → Linked
linked lists nodes heads = record { lists = lists; nodes = vec_len nodes; capacity = vec_capacity nodes; list_capacity = vec_capacity heads }

-- both families have a link for each of so many nodes, and all three vectors have room for as many more as are spare
pub record HasRoom (outs ins : Linked) (nodes capacity spare : ℕ) : Type 0 where
  pub outs_nodes : outs.nodes ≡ nodes
  pub ins_nodes : ins.nodes ≡ nodes
  pub outs_room : nodes + spare ≤ outs.capacity
  pub ins_room : nodes + spare ≤ ins.capacity
  pub values_room : nodes + spare ≤ capacity
