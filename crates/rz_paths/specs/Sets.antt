-- Members of sets of addresses and of edges, and the least set that is closed under steps.
use Rattle.std.specs.Prelude.{◌≡◌, ℕ, Bool, true, List}
use Rattle.rz_aset.specs.Sets.{has, has_edge}

-- an address is in a set
abbrev pub In : List ℕ → ℕ → Type 0
In set a = has set a ≡ true

abbrev pub Edges : Type 0
Edges = List (ℕ × ℕ)

-- whether a set has the edge from an address to another
abbrev pub joins : Edges → ℕ → ℕ → Bool
joins edges a b = has_edge edges (a, b)

-- the least set that has each start and, with each member, the addresses that it leads to
pub data Reached (start : ℕ → Type 0) (leads : ℕ → ℕ → Bool) : ℕ → Type 0 where
  begin : {a : ℕ} → start a → Reached start leads a
  go : {a b : ℕ} → Reached start leads a → leads a b ≡ true → Reached start leads b
