-- The greatest of some numbers.
use Rattle.std.proofs.Common.{◌≡◌, ℕ, ◌+◌, ◌*◌, ◌≤◌, Bool, true, false, ◌||◌, ◌==◌, max, List, [], ◌∷◌, refl, ap, ◌∙◌, arith, eqb-true}
use Rattle.rz_isa.specs.Nodes.{Decoder}
use Rattle.rz_elf.specs.Elf.{Image}
use Rattle.rz_machine.specs.Kept.{Kept, has_node, sorted, targets_of}
use Rattle.rz_machine.specs.Tables.{binary_digits}
use Rattle.rz_machine.specs.Laws.Sets.{has_node-sorted}
use Rattle.rz_rewrite.specs.Rewritten.{IsBound, bound_of, site_targets, greatest, greatest_bound}

-- none of a list is above it
pub greatest_most : (f : ℕ → ℕ) (nodes : List ℕ) (a : ℕ) → has_node nodes a ≡ true → f a ≤ greatest f nodes
greatest_most f [] a m = cc
greatest_most f (b ∷ rest) a m = go (b == a) refl m (greatest_most f rest a)
  where
    go : (v : Bool) → (b == a) ≡ v → (v || has_node rest a) ≡ true → (has_node rest a ≡ true → f a ≤ greatest f rest) → f a ≤ max (f b) (greatest f rest)
    go true e m ih = let same : b ≡ a = eqb-true b a e in here same
      where
        here : b ≡ a → f a ≤ max (f b) (greatest f rest)
        here e = let g : f b ≡ f a = ap f e in omega (arith, g)
    go false e m ih = let h = ih m in omega (arith, h)

-- of linear numbers it is at most the number of the greatest
pub greatest_linear : (f : ℕ → ℕ) (nodes : List ℕ) → greatest (λ a. 64 + 16 * f a) nodes ≤ 64 + 16 * greatest f nodes
greatest_linear f [] = omega arith
greatest_linear f (a ∷ rest) = let h = greatest_linear f rest in omega (arith, h)

-- the greatest bound of the kept nodes is one
pub is_bound : (dec : Decoder) (x : Image) (kept : Kept) → IsBound dec x kept (greatest_bound dec x kept)
is_bound dec x kept =
    record {
      most = λ a m. greatest_most (bound_of dec x kept) (sorted kept.nodes) a (has_node-sorted kept.nodes a ∙ m);
      least = greatest_linear (λ a. binary_digits (site_targets dec x (targets_of kept.edges) a)) (sorted kept.nodes);
    }
