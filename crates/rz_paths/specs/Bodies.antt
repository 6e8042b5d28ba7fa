-- The bodies of the functions that passing calls bring in.
use Rattle.std.specs.Prelude.{◌≡◌, ℕ, Bool, true, false, ◌==◌, ◌&&◌, nat_le, nat_lt, List, [], ◌∷◌, Option, Some, None, position, slice_get}
use Rattle.rz_isa.specs.declared.instruction.Kind.{Kind}
use Rattle.rz_isa.specs.declared.instruction.Kind.TheVariants.{Call, Ret, Syscall}
use Rattle.rz_isa.specs.Nodes.{direct_by}
use Rattle.rz_aset.specs.Sets.{has}
use Rattle.rz_classes.specs.declared.listed.Function.{Function}
use Rattle.rz_paths.specs.declared.node.Node.{Node}
use Rattle.rz_paths.specs.Sets.{In, Reached}
use Rattle.rz_paths.specs.Program.{Program, is_free}
use Rattle.rz_paths.specs.Walks.{is_passing, is_outside, OnWalk}

-- whether a body may hold the instruction
abbrev pub is_inner : (ℕ → Bool) → Kind → Option ℕ → Bool
is_inner passing Call target = is_passing passing target
is_inner passing Ret target = true
is_inner passing Syscall target = true
is_inner passing kind target = is_free kind

abbrev pub inner_of : (ℕ → Bool) → Option Node → Bool
inner_of passing None = false
inner_of passing (Some n) = is_inner passing n.kind n.target

abbrev pub is_inner_at : Program → (ℕ → Bool) → ℕ → Bool
is_inner_at program passing a = inner_of passing (program a)

-- where a body goes on to from a member: over calls, nowhere from a return
abbrev pub inner_next : Kind → Option ℕ → ℕ → List ℕ
inner_next Call target next = next ∷ []
inner_next Ret target next = []
inner_next kind target next = direct_by kind target next

abbrev pub inner_next_of : Option Node → List ℕ
inner_next_of None = []
inner_next_of (Some n) = inner_next n.kind n.target n.next

abbrev pub inner_next_at : Program → ℕ → List ℕ
inner_next_at program a = inner_next_of (program a)

abbrev pub at_place : List Function → Option ℕ → Option Function
at_place functions None = None
at_place functions (Some i) = slice_get functions i

-- the listed function that starts at an address
abbrev pub function_at : List Function → ℕ → Option Function
function_at functions f = at_place functions (position (λ g. g.lo == f) functions)

abbrev pub is_in : Option Function → ℕ → Bool
is_in None a = false
is_in (Some g) a = nat_le g.lo a && nat_lt a g.hi

abbrev pub called_by : (ℕ → Bool) → Kind → Option ℕ → ℕ → Bool
called_by passing Call (Some target) f = target == f && passing f
called_by passing _ target f = false

abbrev pub called_of : (ℕ → Bool) → Option Node → ℕ → Bool
called_of passing None f = false
called_of passing (Some n) f = called_by passing n.kind n.target f

module _ (program : Program) (passing : ℕ → Bool) where
  -- from a member of a body to another of the function's range
  abbrev pub body_leads : Option Function → ℕ → ℕ → Bool
  body_leads function a b = has (inner_next_at program a) b && (is_inner_at program passing b && is_in function b)

  -- the body of the listed function that starts at f
  abbrev pub InBody : List Function → ℕ → ℕ → Type 0
  InBody functions f = Reached (λ a. (f ≡ a) × (is_inner_at program passing a ≡ true)) (body_leads (function_at functions f))

  -- a passing call of f stands at the address, which wasn't recorded
  abbrev pub calls : List ℕ → ℕ → ℕ → Bool
  calls recorded c f = is_outside program recorded c && called_of passing (program c) f

-- the least set that has the recorded nodes and those of walks, and the body of each function that a passing call in it
-- calls that wasn't recorded
pub data InFunctions (program : Program) (passing : ℕ → Bool) (functions : List Function) (recorded : List ℕ) : ℕ → Type 0 where
  kept : {a : ℕ} → In recorded a → InFunctions program passing functions recorded a
  walk : {a : ℕ} → OnWalk program passing recorded a → InFunctions program passing functions recorded a
  body : {c f a : ℕ} → InFunctions program passing functions recorded c → calls program passing recorded c f ≡ true →
      InBody program passing functions f a → InFunctions program passing functions recorded a
