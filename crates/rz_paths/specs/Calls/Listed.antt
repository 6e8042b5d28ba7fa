-- Instructions of a program that were listed, and those that are listed after one.
use Rattle.std.specs.Prelude.{◌≡◌, ℕ, nat_eq, List, [], ◌∷◌, ◌++◌, Option, IfSome}
use Rattle.indexmap.specs.IndexMap.{IndexMap, get}
use Rattle.rz_isa.specs.declared.instruction.Kind.{Kind}
use Rattle.rz_isa.specs.declared.instruction.Kind.TheVariants.{Call}
use Rattle.rz_isa.specs.Nodes.{direct_by}
use Rattle.rz_paths.specs.declared.node.Node.{Node}
use Rattle.rz_paths.specs.Program.{Program}

-- what is listed at an address is what stands there
abbrev pub IsListed : {S : Type 0} → Program → IndexMap ℕ (Option Node) S → Type 0
IsListed program nodes = (a : ℕ) → IfSome (get nat_eq nodes a) (λ n. n ≡ program a)

-- where control may come to from an instruction: its static successors, and what follows a direct call
abbrev pub ahead_by : Kind → Option ℕ → ℕ → List ℕ
ahead_by Call target next = direct_by Call target next ++ next ∷ []
ahead_by kind target next = direct_by kind target next
