-- How return edges are found: steps inside functions, and the calls of each callee.
use Rattle.std.specs.Prelude.{◌≡◌, ℕ, Bool, true, false, ◌&&◌, ◌||◌, ◌⊎◌, ◌↔◌, nat_eq, List, Option, Some, None}
use Rattle.std.specs.List.{list_any}
use Rattle.rz_isa.specs.declared.instruction.Kind.{Kind}
use Rattle.rz_isa.specs.declared.instruction.Kind.TheVariants.{Call, CallInd, Ret}
use Rattle.rz_aset.specs.Sets.{has}
use Rattle.rz_flow.specs.Flow.{Flow}
use Rattle.rz_paths.specs.declared.node.Node.{Node}
use Rattle.rz_paths.specs.Sets.{In, Edges, joins}
use Rattle.rz_paths.specs.Program.{Program}
use Rattle.rz_paths.specs.Returns.{is_call_before, returns_to, IsReturnOf}

-- edges join nodes
pub record IsJoined (nodes : List ℕ) (edges : Edges) : Type 0 where
  pub sources : (a b : ℕ) → joins edges a b ≡ true → In nodes a
  pub ends : (a b : ℕ) → joins edges a b ≡ true → In nodes b

-- edges from an instruction of the kind are followed inside a function
abbrev pub is_along : Kind → Bool
is_along Call = false
is_along CallInd = false
is_along Ret = false
is_along _ = true

abbrev pub along_of : Option Node → Bool
along_of None = false
along_of (Some n) = is_along n.kind

abbrev pub is_along_at : Program → ℕ → Bool
is_along_at program a = along_of (program a)

abbrev pub over_call : Program → List ℕ → ℕ → ℕ → Bool
over_call program nodes a b = has nodes b && is_call_before program a b

-- a graph of the steps inside functions
pub record IsInside (program : Program) (nodes : List ℕ) (edges : Edges) (flow : Flow) : Type 0 where
  pub all : (a : ℕ) → In nodes a → In flow.nodes a
  pub steps : (a b : ℕ) → joins flow.edges a b ≡ ((joins edges a b && is_along_at program a) || (has nodes a && over_call program nodes a b))

-- an edge leads from a call that r, which is kept, follows to f
abbrev pub calls_back : Program → List ℕ → Edges → ℕ → ℕ → Bool
calls_back program nodes edges f r = list_any (λ e. nat_eq f e.1 && over_call program nodes e.0 r) edges

-- an edge begins at the address
abbrev pub starts_at : Edges → ℕ → Bool
starts_at edges a = list_any (λ e. nat_eq a e.0) edges

-- an edge begins or ends there
abbrev pub touches : Edges → ℕ → Bool
touches edges a = list_any (λ e. nat_eq a e.0 || nat_eq a e.1) edges

-- the callees of kept calls, and a graph of the edges from them to what follows the calls
pub record IsGrouped (program : Program) (nodes : List ℕ) (edges : Edges) (callees : List ℕ) (after : Flow) : Type 0 where
  pub kept : (f : ℕ) → In callees f → In nodes f
  pub known : (f : ℕ) → In callees f → In after.nodes f
  pub all : (f r : ℕ) → returns_to program nodes (joins edges) f r ≡ true → In callees f
  pub returns : (f r : ℕ) → joins after.edges f r ≡ returns_to program nodes (joins edges) f r

-- the edges from the returns that f reaches to what follows its calls were added
abbrev pub AddsReturns : Program → List ℕ → Edges → Edges → ℕ → Edges → Edges → Type 0
AddsReturns program nodes edges after f old new =
    (x r : ℕ) → (joins new x r ≡ true) ↔ ((joins old x r ≡ true) ⊎ (IsReturnOf program nodes (joins edges) f x × (joins after f r ≡ true)))
