-- Walks: what stands between the branches that were recorded and a return or the recorded nodes.
use Rattle.std.specs.Prelude.{◌≡◌, ℕ, Bool, true, false, not, ◌&&◌, ◌||◌, if◌then◌else◌, List, [], ◌∷◌, Option, Some, None, is_some}
use Rattle.std.specs.List.{list_any}
use Rattle.rz_isa.specs.declared.instruction.Kind.{Kind}
use Rattle.rz_isa.specs.declared.instruction.Kind.TheVariants.{Call}
use Rattle.rz_isa.specs.Nodes.{direct_by}
use Rattle.rz_aset.specs.Sets.{has}
use Rattle.rz_paths.specs.declared.node.Node.{Node}
use Rattle.rz_paths.specs.Sets.{In}
use Rattle.rz_paths.specs.Program.{Program, is_free, direct_at, is_branch_at, is_ret_at}

-- whether a call to the target may be stepped over
abbrev pub is_passing : (ℕ → Bool) → Option ℕ → Bool
is_passing passing None = false
is_passing passing (Some target) = passing target

-- where a walk goes on to: the static successors of a free node, the next address of a passing call
abbrev pub onward : (ℕ → Bool) → Kind → Option ℕ → ℕ → List ℕ
onward passing Call target next = if is_passing passing target then next ∷ [] else []
onward passing kind target next = if is_free kind then direct_by kind target next else []

abbrev pub onward_of : (ℕ → Bool) → Option Node → List ℕ
onward_of passing None = []
onward_of passing (Some n) = onward passing n.kind n.target n.next

abbrev pub onward_at : Program → (ℕ → Bool) → ℕ → List ℕ
onward_at program passing a = onward_of passing (program a)

-- a node that wasn't recorded stands at the address
abbrev pub is_outside : Program → List ℕ → ℕ → Bool
is_outside program recorded a = is_some (program a) && not (has recorded a)

-- a recorded branch has the address as a successor
abbrev pub begins : Program → List ℕ → ℕ → Bool
begins program recorded a = list_any (λ j. is_branch_at program j && has (direct_at program j) a) recorded

module _ (program : Program) (passing : ℕ → Bool) (recorded : List ℕ) where
  -- a return stands at the address, or it goes on to a recorded node
  abbrev pub ends : ℕ → Bool
  ends a = is_ret_at program a || list_any (has recorded) (onward_at program passing a)

  -- nodes outside the recorded ones, each going on to the following, the last of which ends
  abbrev pub GoesOn : List ℕ → Type 0
  GoesOn [] = ⊥
  GoesOn (a ∷ []) = (is_outside program recorded a ≡ true) × (ends a ≡ true)
  GoesOn (a ∷ b ∷ rest) = (is_outside program recorded a ≡ true) × In (onward_at program passing a) b × GoesOn (b ∷ rest)

  abbrev pub IsWalk : List ℕ → Type 0
  IsWalk [] = ⊥
  IsWalk (a ∷ rest) = (begins program recorded a ≡ true) × GoesOn (a ∷ rest)

  -- the address is on a walk
  abbrev pub OnWalk : ℕ → Type 0
  OnWalk a = (walk : List ℕ) × IsWalk walk × In walk a
