-- The levels: which instructions and which edges each keeps.
use Rattle.std.specs.Prelude.{◌≡◌, ℕ, Bool, true, false, ◌==◌, ◌&&◌, ◌⊎◌, ◌↔◌, List, bytes_eq}
use Rattle.std.specs.List.{list_any}
use Rattle.rz_aset.specs.Sets.{has}
use Rattle.rz_aset.specs.declared.kept.Record.{Record}
use Rattle.rz_classes.specs.declared.listed.Function.{Function}
use Rattle.rz_paths.specs.declared.level.Level.{Level}
use Rattle.rz_paths.specs.declared.level.Level.TheVariants.{Exact, Zcode, Zcall, Zlib, Zfunc}
use Rattle.rz_paths.specs.Sets.{In, Edges, joins}
use Rattle.rz_paths.specs.Program.{Program}
use Rattle.rz_paths.specs.Walks.{OnWalk}
use Rattle.rz_paths.specs.Bodies.{InFunctions}
use Rattle.rz_paths.specs.Returns.{IsKept}

-- a function of the class was recorded at its start
abbrev pub is_live : List Function → List ℕ → List ℕ → Bool
is_live functions recorded class = list_any (λ f. bytes_eq class f.class && has recorded f.lo) functions

-- the targets whose calls a level steps over, by the listed functions and the recorded nodes: at zlib, the recorded
-- starts of listed functions; at zfunc, the starts of listed functions of a class that was recorded
abbrev pub passes : Level → List Function → List ℕ → ℕ → Bool
passes Zlib functions recorded t = list_any (λ f. f.lo == t) functions && has recorded t
passes Zfunc functions recorded t = list_any (λ f. f.lo == t && is_live functions recorded f.class) functions
passes _ functions recorded t = false

-- a node that a level keeps, where calls of these targets are stepped over
abbrev pub IsNodeAt : Level → Program → (ℕ → Bool) → List Function → List ℕ → ℕ → Type 0
IsNodeAt Exact program passing functions recorded a = In recorded a
IsNodeAt Zcode program passing functions recorded a = In recorded a
IsNodeAt Zcall program passing functions recorded a = In recorded a ⊎ OnWalk program passing recorded a
IsNodeAt Zlib program passing functions recorded a = In recorded a ⊎ OnWalk program passing recorded a
IsNodeAt Zfunc program passing functions recorded a = InFunctions program passing functions recorded a

-- an edge that a level keeps among its nodes
abbrev pub IsEdgeAt : Level → Program → Edges → List ℕ → ℕ → ℕ → Type 0
IsEdgeAt Exact program recorded nodes a b = joins recorded a b ≡ true
IsEdgeAt level program recorded nodes a b = IsKept program recorded nodes a b

-- the level before, which keeps no more; at exact, itself
abbrev pub before : Level → Level
before Exact = Exact
before Zcode = Exact
before Zcall = Zcode
before Zlib = Zcall
before Zfunc = Zlib

-- the sets are what a level keeps of a record, where calls of these targets are stepped over
pub record KeepsOver (level : Level) (program : Program) (passing : ℕ → Bool) (functions : List Function) (recorded kept : Record) : Type 0 where
  pub nodes : (a : ℕ) → In kept.nodes a ↔ IsNodeAt level program passing functions recorded.nodes a
  pub edges : (a b : ℕ) → (joins kept.edges a b ≡ true) ↔ IsEdgeAt level program recorded.edges kept.nodes a b

-- the sets are what a level keeps of a record, with these listed functions
abbrev pub Keeps : Level → Program → List Function → Record → Record → Type 0
Keeps level program functions recorded kept =
    KeepsOver level program (passes level functions recorded.nodes) functions recorded kept

-- each member of one record is one of another
pub record IsWithin (few many : Record) : Type 0 where
  pub nodes : (a : ℕ) → In few.nodes a → In many.nodes a
  pub edges : (a b : ℕ) → joins few.edges a b ≡ true → joins many.edges a b ≡ true
