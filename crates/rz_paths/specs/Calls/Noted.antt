-- Names that were noted, each as a reference to its bytes.
use Rattle.std.specs.Prelude.{ℕ, Bool, List, bytes_eq}
use Rattle.std.specs.List.{list_any}
use Rattle.std.specs.Borrow.{Bor}
use Rattle.indexmap.specs.IndexSet.{IndexSet}

-- whether a name is among those noted
abbrev pub is_noted : {S : Type 0} → IndexSet (Bor (List ℕ)) S → List ℕ → Bool
is_noted set name = list_any (λ noted. bytes_eq name noted.now) set.keys
