-- Return edges: from the returns that a call's callee reaches to what follows the call.
use Rattle.std.specs.Prelude.{◌≡◌, ℕ, Bool, true, false, ◌==◌, ◌&&◌, ◌||◌, ◌⊎◌, List, [], ◌∷◌, Option, Some, None}
use Rattle.std.specs.List.{list_any}
use Rattle.rz_isa.specs.declared.instruction.Kind.{Kind}
use Rattle.rz_isa.specs.declared.instruction.Kind.TheVariants.{Call, CallInd, Ret}
use Rattle.rz_aset.specs.Sets.{has}
use Rattle.rz_paths.specs.declared.node.Node.{Node}
use Rattle.rz_paths.specs.Sets.{In, Edges, joins, Reached}
use Rattle.rz_paths.specs.Program.{Program, direct_at, is_ret_at}

-- an edge that was recorded, or one of the static edges among the nodes
abbrev pub is_first : Program → Edges → List ℕ → ℕ → ℕ → Bool
is_first program recorded nodes a b = joins recorded a b || (has nodes a && (has (direct_at program a) b && has nodes b))

abbrev pub is_call : Kind → Bool
is_call Call = true
is_call CallInd = true
is_call _ = false

abbrev pub call_of : Option Node → ℕ → Bool
call_of None r = false
call_of (Some n) r = is_call n.kind && n.next == r

-- whether a call stands at the address, and r follows it
abbrev pub is_call_before : Program → ℕ → ℕ → Bool
is_call_before program c r = call_of (program c) r

-- steps inside a function: over calls, and along edges from other nodes but returns
abbrev pub step_by : Kind → ℕ → Bool → Bool → ℕ → Bool
step_by Call next kept edge b = kept && next == b
step_by CallInd next kept edge b = kept && next == b
step_by Ret next kept edge b = false
step_by _ next kept edge b = edge

abbrev pub step_of : Option Node → Bool → Bool → ℕ → Bool
step_of None kept edge b = false
step_of (Some n) kept edge b = step_by n.kind n.next kept edge b

module _ (program : Program) (nodes : List ℕ) (edge : ℕ → ℕ → Bool) where
  abbrev pub steps_inside : ℕ → ℕ → Bool
  steps_inside a b = step_of (program a) (has nodes b) (edge a b) b

  -- a kept call has an edge to f, and r, which is kept, follows it
  abbrev pub returns_to : ℕ → ℕ → Bool
  returns_to f r = has nodes r && list_any (λ c. is_call_before program c r && edge c f) nodes

  -- the return at x is kept, and is reached from f inside a function
  pub record IsReturnOf (f x : ℕ) : Type 0 where
    pub ret : is_ret_at program x ≡ true
    pub kept : In nodes x
    pub reached : Reached (In (f ∷ [])) steps_inside x

  -- an edge from the return at x to r
  abbrev pub IsReturn : ℕ → ℕ → Type 0
  IsReturn x r = (f : ℕ) × (returns_to f r ≡ true) × IsReturnOf f x

-- an edge that a level keeps among its nodes: a first one, or one from a return
abbrev pub IsKept : Program → Edges → List ℕ → ℕ → ℕ → Type 0
IsKept program recorded nodes a b = (is_first program recorded nodes a b ≡ true) ⊎ IsReturn program nodes (is_first program recorded nodes) a b
