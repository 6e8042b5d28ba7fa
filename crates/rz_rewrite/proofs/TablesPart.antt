-- The tables part: where the table of a site stands, and what it takes.
use Rattle.std.proofs.Common.{◌≡◌, ℕ, zero, suc, ◌+◌, ◌-◌, ◌*◌, ◌^◌, ◌<◌, ◌≤◌, Bool, true, false, ◌||◌, ◌==◌, if◌then◌else◌, List, [], ◌∷◌, ◌++◌, length, map, filter, get_or, Some, IsSomeAnd, refl, sym, ap, ap₂, ◌∙◌, subst, arith, length-append, append_assoc, eqb-true, eq-eqb, ne_eqb}
use Rattle.std.specs.List.{AllByRecursion}
use Rattle.std.proofs.lemmas.List.{length-map}
use Rattle.rz_isa.specs.declared.rows.Row.{Row}
use Rattle.rz_isa.specs.declared.item_list.Item.{Item}
use Rattle.rz_isa.specs.declared.item_list.Label.{Label}
use Rattle.rz_isa.specs.declared.item_list.Label.TheVariants as label
use Rattle.rz_isa.specs.Sizes.{OfLabel, IsSized}
use Rattle.rz_isa.specs.declared.fragment_list.Fragments.{Fragments}
use Rattle.rz_isa.specs.Items.{slots, slots_from, list_slots, item_count, first_number, beside}
use Rattle.rz_machine.specs.Kept.{Kept, Edges, has_node, sorted, sorted_edges, targets_of, IsAscending}
use Rattle.rz_machine.specs.Tables.{pairs_bytes, table_of, table_size, placed}
use Rattle.rz_lookup.specs.Routine.{lookup_items}
use Rattle.rz_lookup.specs.Laws.LookupRows.{lookup_closed, closed_own}
use Rattle.rz_rewrite.specs.Fragments.{table_pairs, tables_sum, all_tables, routine_for}
use Rattle.rz_rewrite.specs.Rewritten.{place_or_zero}
use Rattle.rz_rewrite.proofs.NodeFragments.{slots_long}
use Rattle.rz_rewrite.proofs.SiteSums.{tables_room}
use Rattle.rz_rewrite.proofs.PartRoom.{tables_room as part_room}
use Rattle.rz_rewrite.specs.Rewritten.{HasRoom}
use Rattle.rz_isa.specs.Nodes.{Decoder, is_site_at}
use Rattle.rz_elf.specs.Elf.{Image}
use Rattle.rz_machine.specs.Added.{sites, site_count, site_edge_count, added}
use Rattle.rz_machine.specs.Nodes.{code_in}
use Rattle.rz_machine.specs.Laws.Sets.{IsAscending-sorted}

-- ---- how long tables are

length-pairs_bytes : (pairs : List (ℕ × ℕ)) → length (pairs_bytes pairs) ≡ 8 * length pairs
length-pairs_bytes [] = refl
length-pairs_bytes (p ∷ rest) = let e = length-pairs_bytes rest in omega (arith, e)

pub length-table_of : (stub : ℕ) (pairs : List (ℕ × ℕ)) → length (table_of stub pairs) ≡ table_size (length pairs)
length-table_of stub pairs = let e = length-pairs_bytes pairs in omega (arith, e)

module _ (edges : Edges) (place stub : ℕ → ℕ) where
  abbrev pub table : ℕ → List ℕ
  table a = table_of (stub a) (placed place (targets_of edges a))

  pub length-table : (a : ℕ) → length (table a) ≡ table_size (length (targets_of edges a))
  length-table a = length-table_of (stub a) (placed place (targets_of edges a)) ∙ ap table_size (length-map (targets_of edges a) (λ t. (t, place t)))

  pub length-all_tables : (sites : List ℕ) → length (all_tables (targets_of edges) place stub sites) ≡ tables_sum (targets_of edges) sites
  length-all_tables [] = refl
  length-all_tables (a ∷ rest) =
      length-append (table a) (all_tables (targets_of edges) place stub rest)
      ∙ ap₂ ◌+◌ (length-table a) (length-all_tables rest)

  -- ---- where the table of a site stands among the bytes: at the place beside it

  pub table_in : (sites : List ℕ) (from a : ℕ) (fill : List ℕ) → has_node sites a ≡ true
      → (front : List ℕ) × (back : List ℕ) × (all_tables (targets_of edges) place stub sites ++ fill ≡ front ++ (table a ++ back)) × (beside (table_pairs (targets_of edges) from sites) a ≡ Some (from + length front))
  table_in [] from a fill e = absurd (cc)
  table_in (c ∷ rest) from a fill e = go (c == a) refl e (table_in rest (from + table_size (length (targets_of edges c))) a fill)
    where
      cut : all_tables (targets_of edges) place stub (c ∷ rest) ++ fill ≡ table c ++ (all_tables (targets_of edges) place stub rest ++ fill)
      cut = append_assoc (table c) (all_tables (targets_of edges) place stub rest) fill

      go : (v : Bool) → (c == a) ≡ v → (v || has_node rest a) ≡ true
          → (has_node rest a ≡ true → (front : List ℕ) × (back : List ℕ) × (all_tables (targets_of edges) place stub rest ++ fill ≡ front ++ (table a ++ back))
          × (beside (table_pairs (targets_of edges) (from + table_size (length (targets_of edges c))) rest) a ≡ Some (from + table_size (length (targets_of edges c)) + length front)))
          → (front : List ℕ) × (back : List ℕ) × (all_tables (targets_of edges) place stub (c ∷ rest) ++ fill ≡ front ++ (table a ++ back))
          × ((if v then Some from else beside (table_pairs (targets_of edges) (from + table_size (length (targets_of edges c))) rest) a) ≡ Some (from + length front))
      go true f e ih =
          let same : c ≡ a = eqb-true c a f in
          let n : from ≡ from + 0 = omega arith in
          ([], all_tables (targets_of edges) place stub rest ++ fill, cut ∙ ap (λ b. table b ++ (all_tables (targets_of edges) place stub rest ++ fill)) same, ap Some n)
      go false f e ih =
          let h = ih e in
          let long = length-append (table c) h.0 in
          let one = length-table c in
          let n : from + table_size (length (targets_of edges c)) + length h.0 ≡ from + length (table c ++ h.0) = omega (arith, long, one) in
          (table c ++ h.0, h.1, cut ∙ ap (λ l. table c ++ l) h.2 ∙ sym (append_assoc (table c) h.0 (table a ++ h.1)), h.3 ∙ ap Some n)

-- ---- what stands in a table

-- what stands in the middle of a list
pub get_middle : (front mid back : List ℕ) (k : ℕ) → k < length mid → get_or (front ++ (mid ++ back)) (length front + k) 0 ≡ get_or mid k 0
get_middle [] mid back k h = let e : 0 + k ≡ k = omega arith in ap (λ i. get_or (mid ++ back) i 0) e ∙ get_front mid k h
  where
    get_front : (mid : List ℕ) (k : ℕ) → k < length mid → get_or (mid ++ back) k 0 ≡ get_or mid k 0
    get_front [] k h = absurd (omega (arith, h))
    get_front (x ∷ mid) zero h = refl
    get_front (x ∷ mid) (suc k) h = get_front mid k (omega (arith, h))
get_middle (x ∷ front) mid back k h =
    let e : length (x ∷ front) + k ≡ suc (length front + k) = omega arith in
    ap (λ i. get_or (x ∷ (front ++ (mid ++ back))) i 0) e ∙ get_middle front mid back k h

-- ---- sites among nodes

pub has_site : (site : ℕ → Bool) (nodes : List ℕ) (b : ℕ) → has_node nodes b ≡ true → site b ≡ true → has_node (filter site nodes) b ≡ true
has_site site [] b m is = cc
has_site site (c ∷ rest) b m is = go (c == b) refl m (site c) refl (λ f. has_site site rest b f is)
  where
    go : (v : Bool) → (c == b) ≡ v → (v || has_node rest b) ≡ true → (s : Bool) → site c ≡ s → (has_node rest b ≡ true → has_node (filter site rest) b ≡ true)
        → has_node (if s then c ∷ filter site rest else filter site rest) b ≡ true
    go true f m true g ih = ap (λ v. v || has_node (filter site rest) b) f
    go true f m false g ih = let h : site b ≡ false = subst (λ d. site d ≡ false) (eqb-true c b f) g in cc
    go false f m true g ih = ap (λ v. v || has_node (filter site rest) b) f ∙ ih m
    go false f m false g ih = ih m

pub site_among : (site : ℕ → Bool) (nodes : List ℕ) (b : ℕ) → has_node (filter site nodes) b ≡ true → site b ≡ true
site_among site [] b m = cc
site_among site (c ∷ rest) b m = go (site c) refl m (site_among site rest b)
  where
    go : (s : Bool) → site c ≡ s → has_node (if s then c ∷ filter site rest else filter site rest) b ≡ true → (has_node (filter site rest) b ≡ true → site b ≡ true) → site b ≡ true
    go true g m ih = here (c == b) refl m
      where
        here : (v : Bool) → (c == b) ≡ v → (v || has_node (filter site rest) b) ≡ true → site b ≡ true
        here true f m = subst (λ d. site d ≡ true) (eqb-true c b f) g
        here false f m = ih m
    go false g m ih = ih m

-- where there is a site, the routine is
pub routine_is : (scratch b : ℕ) (sites : List ℕ) → has_node sites b ≡ true → routine_for scratch sites ≡ lookup_items scratch
routine_is scratch b [] m = cc
routine_is scratch b (c ∷ rest) m = refl

pub first_is : (first : ℕ) (items : List Item) → 0 < length items → first_number first items ≡ Some first
first_is first [] h = absurd (omega (arith, h))
first_is first (i ∷ rest) h = refl

-- there is a slot for each item of the fragments
pub item_slots : (f : Fragments) → item_count f.list ≤ length (slots f)
item_slots f =
    let e = slots_long 0 f.list in
    let all = length-append (slots_from 0 f.list) (list_slots (item_count f.list) f.routine) in
    omega (arith, e, all)

-- ---- the place beside a site, and the sites in order

-- a site's table has a place below the end of the tables
pub tabled : (edges : Edges) (sites : List ℕ) (from b : ℕ) → has_node sites b ≡ true → from + tables_sum (targets_of edges) sites < 2 ^ 31 → IsSomeAnd (beside (table_pairs (targets_of edges) from sites) b) (λ p. p < 2 ^ 31)
tabled edges [] from b m low = cc
tabled edges (c ∷ rest) from b m low =
    go (c == b) m (λ f. tabled edges rest (from + table_size (length (targets_of edges c))) b f (omega (arith, low)))
  where
    go : (v : Bool) → (v || has_node rest b) ≡ true → (has_node rest b ≡ true → IsSomeAnd (beside (table_pairs (targets_of edges) (from + table_size (length (targets_of edges c))) rest) b) (λ p. p < 2 ^ 31))
        → IsSomeAnd (if v then Some from else beside (table_pairs (targets_of edges) (from + table_size (length (targets_of edges c))) rest) b) (λ p. p < 2 ^ 31)
    go true m ih = omega (arith, low)
    go false m ih = ih m

pub table_keys : (edges : Edges) (from : ℕ) (sites : List ℕ) → map (λ (p : ℕ × ℕ). p.0) (table_pairs (targets_of edges) from sites) ≡ sites
table_keys edges from [] = refl
table_keys edges from (a ∷ rest) = ap (λ l. a ∷ l) (table_keys edges (from + table_size (length (targets_of edges a))) rest)

all_filtered : (P : ℕ → Type 0) (site : ℕ → Bool) (nodes : List ℕ) → AllByRecursion P nodes → AllByRecursion P (filter site nodes)
all_filtered P site [] h = tt
all_filtered P site (a ∷ rest) h = go (site a) (all_filtered P site rest h.1)
  where
    go : (v : Bool) → AllByRecursion P (filter site rest) → AllByRecursion P (if v then a ∷ filter site rest else filter site rest)
    go true ih = (h.0, ih)
    go false ih = ih

pub sites_ascend : (site : ℕ → Bool) (nodes : List ℕ) → IsAscending nodes → IsAscending (filter site nodes)
sites_ascend site [] h = tt
sites_ascend site (a ∷ rest) h = go (site a) (sites_ascend site rest h.1)
  where
    go : (v : Bool) → IsAscending (filter site rest) → IsAscending (if v then a ∷ filter site rest else filter site rest)
    go true ih = (all_filtered (λ b. a < b) site rest h.0, ih)
    go false ih = ih

-- ---- what the routine takes

abbrev pub routine_most : (sites : List ℕ) → ℕ
routine_most [] = 0
routine_most (a ∷ rest) = 512

pub routine_room : (sites : List ℕ) → routine_most sites < 64 * length sites + 512
routine_room [] = omega arith
routine_room (a ∷ rest) = omega arith

pub routine_sized_for : (rows : List Row) (scratch : ℕ) (sites : List ℕ) → ((b : ℕ) → has_node sites b ≡ true → IsSized rows (lookup_items scratch) 512) → IsSized rows (routine_for scratch sites) (routine_most sites)
routine_sized_for rows scratch [] h = record { can_move = tt; own = tt; few = omega arith; placed = λ at from low fits. tt }
routine_sized_for rows scratch (a ∷ rest) h = h a (ap (λ v. v || has_node rest a) (eq-eqb a a refl))

pub routine_names : (P : Label → Type 0) → ((k : ℕ) → P (label.Item k)) → (scratch : ℕ) (sites : List ℕ) → AllByRecursion (OfLabel P) (routine_for scratch sites)
routine_names P own scratch [] = tt
routine_names P own scratch (a ∷ rest) = closed_own P own (length (lookup_items scratch)) (lookup_items scratch) (lookup_closed scratch).own

pub routine_slots : (f : Fragments) → length f.routine ≤ length (slots f)
routine_slots f =
    let all = length-append (slots_from 0 f.list) (list_slots (item_count f.list) f.routine) in
    let back : length (list_slots (item_count f.list) f.routine) ≡ length f.routine = length-map f.routine _ in
    omega (arith, all, back)

-- ---- tables by equal places

pairs_same : (p q : ℕ → ℕ) (ts : List ℕ) → AllByRecursion (λ t. p t ≡ q t) ts → placed p ts ≡ placed q ts
pairs_same p q [] h = refl
pairs_same p q (t ∷ ts) h = ap₂ (λ n l. (t, n) ∷ l) h.0 (pairs_same p q ts h.1)

-- at some sites the stubs are the same, and at their targets the places are
pub tables_same : (edges : Edges) (p q s t : ℕ → ℕ) (sites : List ℕ) → AllByRecursion (λ a. (s a ≡ t a) × AllByRecursion (λ b. p b ≡ q b) (targets_of edges a)) sites
    → all_tables (targets_of edges) p s sites ≡ all_tables (targets_of edges) q t sites
tables_same edges p q s t [] h = refl
tables_same edges p q s t (a ∷ rest) h =
    ap₂ ◌++◌ (ap₂ table_of h.0.0 (pairs_same p q (targets_of edges a) h.0.1)) (tables_same edges p q s t rest h.1)

-- ascending pairs by their first numbers
pub keyed : (pairs : List (ℕ × ℕ)) (f : ℕ → ℕ) → IsAscending (map (λ (p : ℕ × ℕ). p.0) pairs)
    → ((a : ℕ) → has_node (map (λ (p : ℕ × ℕ). p.0) pairs) a ≡ true → place_or_zero (beside pairs a) ≡ f a) → pairs ≡ map (λ a. (a, f a)) (map (λ (p : ℕ × ℕ). p.0) pairs)
keyed [] f up is = refl
keyed (p ∷ rest) f up is =
    ap₂ (λ n l. (p.0, n) ∷ l) (sym (ap (λ v. place_or_zero (if v then Some p.1 else beside rest p.0)) (eq-eqb p.0 p.0 refl)) ∙ is p.0 (ap (λ v. v || has_node (map (λ (q : ℕ × ℕ). q.0) rest) p.0) (eq-eqb p.0 p.0 refl)))
    (keyed rest f up.1 later)
  where
    above : (l : List ℕ) → AllByRecursion (λ b. p.0 < b) l → (b : ℕ) → has_node l b ≡ true → p.0 < b
    above [] h b e = cc
    above (c ∷ l) h b e = go (c == b) refl e (above l h.1 b)
      where
        go : (v : Bool) → (c == b) ≡ v → (v || has_node l b) ≡ true → (has_node l b ≡ true → p.0 < b) → p.0 < b
        go true f e ih = let g : c ≡ b = eqb-true c b f in let k = h.0 in omega (arith, g, k)
        go false f e ih = ih e

    later : (a : ℕ) → has_node (map (λ (q : ℕ × ℕ). q.0) rest) a ≡ true → place_or_zero (beside rest a) ≡ f a
    later a m =
        let less = above (map (λ (q : ℕ × ℕ). q.0) rest) up.0 a m in
        let apart : (p.0 == a) ≡ false = ne_eqb p.0 a (λ e. omega (arith, less, e)) in
        sym (ap (λ v. place_or_zero (if v then Some p.1 else beside rest a)) apart) ∙ is a (either (p.0 == a) m)
      where
        either : (u : Bool) → has_node (map (λ (q : ℕ × ℕ). q.0) rest) a ≡ true → (u || has_node (map (λ (q : ℕ × ℕ). q.0) rest) a) ≡ true
        either true h = refl
        either false h = h

pub site_node : (site : ℕ → Bool) (nodes : List ℕ) (b : ℕ) → has_node (filter site nodes) b ≡ true → has_node nodes b ≡ true
site_node site [] b m = m
site_node site (c ∷ rest) b m = go (site c) (c == b) m (site_node site rest b)
  where
    either : (v : Bool) → has_node rest b ≡ true → (v || has_node rest b) ≡ true
    either true h = refl
    either false h = h

    here : (v : Bool) → (v || has_node (filter site rest) b) ≡ true → (has_node (filter site rest) b ≡ true → has_node rest b ≡ true) → (v || has_node rest b) ≡ true
    here true m ih = refl
    here false m ih = ih m

    go : (s v : Bool) → has_node (if s then c ∷ filter site rest else filter site rest) b ≡ true → (has_node (filter site rest) b ≡ true → has_node rest b ≡ true) → ((c == b) || has_node rest b) ≡ true
    go true v m ih = here (c == b) m ih
    go false v m ih = either (c == b) (ih m)

-- the tables fit their part
pub tables_fit : (dec : Decoder) (x : Image) (kept : Kept) → HasRoom dec x kept → (place stub : ℕ → ℕ)
    → length (all_tables (targets_of kept.edges) place stub (sites dec (code_in x.loads) (sorted kept.nodes))) ≤ (added dec x kept).code - (added dec x kept).tables
tables_fit dec x kept room place stub =
    let list = sites dec (code_in x.loads) (sorted kept.nodes) in
    let long = length-all_tables kept.edges place stub list in
    let most = tables_room (is_site_at dec (code_in x.loads)) (sorted_edges kept.edges) (sorted kept.nodes) (IsAscending-sorted kept.nodes) in
    go _ _ (site_count dec x kept) (site_edge_count dec x kept) (added dec x kept).tables (added dec x kept).code long most (part_room dec x kept room)
  where
    go : (l t j e f c : ℕ) → l ≡ t → t ≤ 16 * j + 8 * e → f + (16 * j + 8 * e) ≤ c → l ≤ c - f
    go l t j e f c h i k = omega (arith, h, i, k)
