-- The kept edges that leave sites, counted site by site.
use Rattle.std.proofs.Common.{◌≡◌, ℕ, ◌+◌, ◌*◌, ◌<◌, ◌≤◌, Bool, true, false, ◌==◌, if◌then◌else◌, List, [], ◌∷◌, length, filter, refl, sym, subst, arith, eqb-true, ne_eqb}
use Rattle.std.specs.List.{AllByRecursion}
use Rattle.std.proofs.lemmas.List.{length-map}
use Rattle.rz_machine.specs.Kept.{Edges, IsAscending}
use Rattle.rz_rewrite.specs.Fragments.{targets_from, tables_sum}

-- the number of edges that leave each site among some nodes, in all
abbrev pub site_sum : (ℕ → Bool) → Edges → List ℕ → ℕ
site_sum site edges [] = 0
site_sum site edges (a ∷ rest) = (if site a then length (filter (λ e. e.0 == a) edges) else 0) + site_sum site edges rest

-- how often an address stands among the sites of some nodes
abbrev hits : (ℕ → Bool) → ℕ → List ℕ → ℕ
hits site b [] = 0
hits site b (a ∷ rest) = (if site a then (if b == a then 1 else 0) else 0) + hits site b rest

sum_one : (site : ℕ → Bool) (e : ℕ × ℕ) (edges : Edges) (nodes : List ℕ) → site_sum site (e ∷ edges) nodes ≡ hits site e.0 nodes + site_sum site edges nodes
sum_one site e edges [] = refl
sum_one site e edges (a ∷ rest) = go (site a) (e.0 == a) (sum_one site e edges rest)
  where
    go : (s h : Bool) → site_sum site (e ∷ edges) rest ≡ hits site e.0 rest + site_sum site edges rest
        → (if s then length (if h then e ∷ filter (λ d. d.0 == a) edges else filter (λ d. d.0 == a) edges) else 0) + site_sum site (e ∷ edges) rest
        ≡ (if s then (if h then 1 else 0) else 0) + hits site e.0 rest + ((if s then length (filter (λ d. d.0 == a) edges) else 0) + site_sum site edges rest)
    go true true ih = omega (arith, ih)
    go true false ih = omega (arith, ih)
    go false h ih = omega (arith, ih)

no_hits : (site : ℕ → Bool) (b : ℕ) (nodes : List ℕ) → AllByRecursion (λ c. b < c) nodes → hits site b nodes ≡ 0
no_hits site b [] h = refl
no_hits site b (a ∷ rest) h = go (site a) (b == a) (ne_eqb b a (λ e. let lt = h.0 in omega arith)) (no_hits site b rest h.1)
  where
    go : (s e : Bool) → e ≡ false → hits site b rest ≡ 0 → (if s then (if e then 1 else 0) else 0) + hits site b rest ≡ 0
    go true true f ih = cc
    go true false f ih = omega (arith, ih)
    go false e f ih = omega (arith, ih)

one_hit : (site : ℕ → Bool) (b : ℕ) (nodes : List ℕ) → IsAscending nodes → hits site b nodes ≤ (if site b then 1 else 0)
one_hit site b [] up = omega arith
one_hit site b (a ∷ rest) up = go (b == a) refl (one_hit site b rest up.1)
  where
    go : (e : Bool) → (b == a) ≡ e → hits site b rest ≤ (if site b then 1 else 0) → (if site a then (if e then 1 else 0) else 0) + hits site b rest ≤ (if site b then 1 else 0)
    go true e ih =
        let same : b ≡ a = eqb-true b a e in
        let none : hits site b rest ≡ 0 = subst (λ c. hits site c rest ≡ 0) (sym same) (no_hits site a rest up.0) in
        let P : ℕ → Type 0 = λ c. (if site a then 1 else 0) + hits site b rest ≤ (if site c then 1 else 0) in
        subst P (sym same) (omega (arith, none))
    go false e ih = here (site a)
      where
        here : (s : Bool) → (if s then 0 else 0) + hits site b rest ≤ (if site b then 1 else 0)
        here true = omega (arith, ih)
        here false = omega (arith, ih)

-- it is at most the number of edges that leave sites
pub sum_most : (site : ℕ → Bool) (nodes : List ℕ) → IsAscending nodes → (edges : Edges) → site_sum site edges nodes ≤ length (filter (λ e. site e.0) edges)
sum_most site nodes up [] = let e = nothing nodes in omega (arith, e)
  where
    nothing : (l : List ℕ) → site_sum site [] l ≡ 0
    nothing [] = refl
    nothing (a ∷ rest) = go (site a) (nothing rest)
      where
        go : (s : Bool) → site_sum site [] rest ≡ 0 → (if s then 0 else 0) + site_sum site [] rest ≡ 0
        go true h = omega (arith, h)
        go false h = omega (arith, h)
sum_most site nodes up (e ∷ edges) = go (site e.0) (one_hit site e.0 nodes up) (sum_most site nodes up edges)
  where
    go : (s : Bool) → hits site e.0 nodes ≤ (if s then 1 else 0) → site_sum site edges nodes ≤ length (filter (λ d. site d.0) edges) → site_sum site (e ∷ edges) nodes ≤ length (if s then e ∷ filter (λ d. site d.0) edges else filter (λ d. site d.0) edges)
    go true h ih = let s = sum_one site e edges nodes in omega (arith, s, h, ih)
    go false h ih = let s = sum_one site e edges nodes in omega (arith, s, h, ih)

-- what fragments take at most: 32 bytes a node, and where it is a site 128 and 48 for each of its targets
abbrev pub most_of : (ℕ → Bool) → Edges → ℕ → ℕ
most_of site edges a = if site a then 128 + 48 * length (filter (λ e. e.0 == a) edges) else 32

abbrev pub most_sum : (ℕ → Bool) → Edges → List ℕ → ℕ
most_sum site edges [] = 0
most_sum site edges (a ∷ rest) = most_of site edges a + most_sum site edges rest

sums : (site : ℕ → Bool) (edges : Edges) (nodes : List ℕ) → most_sum site edges nodes ≡ 32 * length nodes + 96 * length (filter site nodes) + 48 * site_sum site edges nodes
sums site edges [] = refl
sums site edges (a ∷ rest) = go (site a) (sums site edges rest)
  where
    go : (s : Bool) → most_sum site edges rest ≡ 32 * length rest + 96 * length (filter site rest) + 48 * site_sum site edges rest
        → (if s then 128 + 48 * length (filter (λ e. e.0 == a) edges) else 32) + most_sum site edges rest
        ≡ 32 * length (a ∷ rest) + 96 * length (if s then a ∷ filter site rest else filter site rest) + 48 * ((if s then length (filter (λ e. e.0 == a) edges) else 0) + site_sum site edges rest)
    go true ih = omega (arith, ih)
    go false ih = omega (arith, ih)

-- so all of them take what the code part has for them
pub most_room : (site : ℕ → Bool) (edges : Edges) (nodes : List ℕ) → IsAscending nodes
    → most_sum site edges nodes ≤ 32 * length nodes + 96 * length (filter site nodes) + 48 * length (filter (λ e. site e.0) edges)
most_room site edges nodes up = let s = sums site edges nodes in let h = sum_most site nodes up edges in omega (arith, s, h)

table_sums : (site : ℕ → Bool) (edges : Edges) (nodes : List ℕ)
    → tables_sum (targets_from edges) (filter site nodes) ≡ 16 * length (filter site nodes) + 8 * site_sum site edges nodes
table_sums site edges [] = refl
table_sums site edges (a ∷ rest) = go (site a) (table_sums site edges rest)
  where
    count : length (targets_from edges a) ≡ length (filter (λ e. e.0 == a) edges)
    count = length-map (filter (λ e. e.0 == a) edges) (λ (e : ℕ × ℕ). e.1)

    go : (s : Bool) → tables_sum (targets_from edges) (filter site rest) ≡ 16 * length (filter site rest) + 8 * site_sum site edges rest
        → tables_sum (targets_from edges) (if s then a ∷ filter site rest else filter site rest)
        ≡ 16 * length (if s then a ∷ filter site rest else filter site rest) + 8 * ((if s then length (filter (λ e. e.0 == a) edges) else 0) + site_sum site edges rest)
    go true ih = omega (arith, ih, count)
    go false ih = omega (arith, ih)

-- so all of them take what the tables part has for them
pub tables_room : (site : ℕ → Bool) (edges : Edges) (nodes : List ℕ) → IsAscending nodes
    → tables_sum (targets_from edges) (filter site nodes) ≤ 16 * length (filter site nodes) + 8 * length (filter (λ e. site e.0) edges)
tables_room site edges nodes up = let s = table_sums site edges nodes in let h = sum_most site nodes up edges in omega (arith, s, h)

-- the edges that leave one site leave sites
pub one_site : (site : ℕ → Bool) (b : ℕ) → site b ≡ true → (edges : Edges) → length (filter (λ e. e.0 == b) edges) ≤ length (filter (λ e. site e.0) edges)
one_site site b is [] = omega arith
one_site site b is (e ∷ edges) = go (e.0 == b) refl (site e.0) refl (one_site site b is edges)
  where
    go : (v : Bool) → (e.0 == b) ≡ v → (s : Bool) → site e.0 ≡ s → length (filter (λ d. d.0 == b) edges) ≤ length (filter (λ d. site d.0) edges)
        → length (if v then e ∷ filter (λ d. d.0 == b) edges else filter (λ d. d.0 == b) edges) ≤ length (if s then e ∷ filter (λ d. site d.0) edges else filter (λ d. site d.0) edges)
    go true f true g ih = omega (arith, ih)
    go true f false g ih = let h : site b ≡ false = subst (λ c. site c ≡ false) (eqb-true e.0 b f) g in cc
    go false f true g ih = omega (arith, ih)
    go false f false g ih = ih
