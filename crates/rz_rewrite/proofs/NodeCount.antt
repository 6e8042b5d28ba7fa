-- The entry of a plausible kept set is one of its nodes.
use Rattle.std.proofs.Common.{◌≡◌, ℕ, ◌≤◌, true, List, [], ◌∷◌, length, ◌∙◌, arith}
use Rattle.rz_isa.specs.Nodes.{Decoder}
use Rattle.rz_elf.specs.Elf.{Image}
use Rattle.rz_machine.specs.Added.{node_count}
use Rattle.rz_machine.specs.Kept.{Kept, has_node, sorted}
use Rattle.rz_machine.specs.Laws.Sets.{has_node-sorted}
use Rattle.rz_rewrite.specs.Rewritten.{CanRewrite}

-- the entry is one
pub nodes_some : (dec : Decoder) (x : Image) (kept : Kept) → CanRewrite dec x kept → 1 ≤ node_count kept
nodes_some dec x kept can = go (sorted kept.nodes) (has_node-sorted kept.nodes x.entry ∙ can.entry_kept)
  where
    go : (nodes : List ℕ) → has_node nodes x.entry ≡ true → 1 ≤ length nodes
    go [] e = absurd (cc)
    go (c ∷ nodes) e = omega arith
