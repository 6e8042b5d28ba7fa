-- The tables of the new code: what stands beside an address in its places and stubs, and that each table is one.
use Rattle.std.proofs.Common.{◌≡◌, ℕ, ◌+◌, ◌*◌, ◌^◌, ◌<◌, ◌≤◌, Bool, true, false, ◌||◌, ◌==◌, List, [], ◌∷◌, length, map, refl, sym, ap, ap₂, ◌∙◌, subst, arith, eq-eqb, eqb-true, ne_eqb}
use Rattle.std.specs.List.{AllByRecursion}
use Rattle.std.specs.List.Sorted.{IsNonDecreasingBy}
use Rattle.std.proofs.lemmas.Bool.{cond-true, cond-false}
use Rattle.rz_isa.specs.declared.rows.Row.{Row}
use Rattle.rz_isa.specs.Decoded.{decoded}
use Rattle.rz_isa.specs.declared.fragment_list.Fragments.{Fragments}
use Rattle.rz_isa.specs.Nodes.{Decoder, is_site_at}
use Rattle.rz_elf.specs.Elf.{Image, image_of}
use Rattle.rz_elf.specs.Format.{stub_size}
use Rattle.rz_elf.specs.AddedRange.{Added}
use Rattle.rz_machine.specs.Added.{sites, added, layout_of, index_of}
use Rattle.rz_machine.specs.Kept.{Kept, Edges, has_node, sorted, sorted_edges, targets_of, IsAscending}
use Rattle.rz_machine.specs.Nodes.{code_in}
use Rattle.rz_machine.specs.Tables.{IsTable, placed, site_steps}
use Rattle.rz_machine.specs.Laws.Sets.{has_node-sorted, IsAscending-sorted}
use Rattle.rz_rewrite.specs.declared.added.AddedRange.{AddedRange}
use Rattle.rz_rewrite.specs.declared.code.NewCode.{NewCode}
use Rattle.rz_rewrite.specs.Fragments.{stub_pairs, all_tables, targets_from}
use Rattle.rz_rewrite.specs.Rewritten.{IsFit, fragments_of, place_by, greatest, greatest_bound, site_targets}
use Rattle.rz_rewrite.specs.Calls.Places.{beside_or_zero}
use Rattle.rz_rewrite.specs.Calls.Plan.{IsPlanned, IsNewCode}
use Rattle.rz_rewrite.specs.Calls.Table.{TableFacts}
use Rattle.rz_rewrite.proofs.KeptTargets.{each_member, has_target}
use Rattle.rz_rewrite.proofs.NewCodeLaws.{beside_map, site_table, stubs_end}
use Rattle.rz_rewrite.proofs.Parts.{index_low}
use Rattle.rz_rewrite.proofs.Planned.{fit_of}
use Rattle.rz_rewrite.proofs.TablesPart.{tables_same, site_node, site_among}
use Rattle.rz_rewrite.proofs.TargetRange.{placed_ascend}

-- the stubs of ascending nodes, each with its rank
rank_pairs : (l : List ℕ) (p : ℕ) (f : ℕ → ℕ) → IsAscending l → ((a : ℕ) → has_node l a ≡ true → p + stub_size * index_of l a ≡ f a) → stub_pairs p l ≡ map (λ a. (a, f a)) l
rank_pairs [] p f up is = refl
rank_pairs (c ∷ l) p f up is = ap₂ (λ q r. (c, q) ∷ r) first (rank_pairs l (p + stub_size) f up.1 rest)
  where
    first : p ≡ f c
    first =
        let zero_on : index_of (c ∷ l) c ≡ 0 = cond-true (c == c) _ _ (eq-eqb c c refl) in
        let e : p + stub_size * index_of (c ∷ l) c ≡ p = omega (arith, zero_on) in
        sym e ∙ is c (ap (λ v. v || has_node l c) (eq-eqb c c refl))

    above : (nodes : List ℕ) → AllByRecursion (λ b. c < b) nodes → (b : ℕ) → has_node nodes b ≡ true → c < b
    above [] h b e = cc
    above (d ∷ nodes) h b e = go (d == b) refl e (above nodes h.1 b)
      where
        go : (v : Bool) → (d == b) ≡ v → (v || has_node nodes b) ≡ true → (has_node nodes b ≡ true → c < b) → c < b
        go true f e ih = let g : d ≡ b = eqb-true d b f in let k = h.0 in omega (arith, g, k)
        go false f e ih = ih e

    rest : (a : ℕ) → has_node l a ≡ true → p + stub_size + stub_size * index_of l a ≡ f a
    rest a m =
        let less = above l up.0 a m in
        let next : index_of (c ∷ l) a ≡ 1 + index_of l a = cond-false (c == a) _ _ (ne_eqb c a (λ e. omega (arith, less, e))) in
        let e : p + stub_size + stub_size * index_of l a ≡ p + stub_size * index_of (c ∷ l) a = omega (arith, next) in
        e ∙ is a (or_true (c == a) m)
      where
        or_true : (u : Bool) → has_node l a ≡ true → (u || has_node l a) ≡ true
        or_true true h = refl
        or_true false h = h

-- tables and the greatest bound of sorted edges are those of a kept set
pub tables_alike : (edges given places p stubs s : Edges) (sites list : List ℕ) → edges ≡ sorted_edges given → places ≡ p → stubs ≡ s → sites ≡ list
    → all_tables (targets_from edges) (beside_or_zero places) (beside_or_zero stubs) sites ≡ all_tables (targets_of given) (beside_or_zero p) (beside_or_zero s) list
tables_alike edges given places p stubs s sites list e f g h = λ i. all_tables (targets_from (e i)) (beside_or_zero (f i)) (beside_or_zero (g i)) (h i)

pub each_table_alike : (edges given places p stubs s : Edges) (sites list : List ℕ) → edges ≡ sorted_edges given → places ≡ p → stubs ≡ s → sites ≡ list
    → AllByRecursion (λ b. IsTable (beside_or_zero s b) (placed (beside_or_zero p) (targets_of given b))) list
    → AllByRecursion (λ b. IsTable (beside_or_zero stubs b) (placed (beside_or_zero places) (targets_from edges b))) sites
each_table_alike edges given places p stubs s sites list e f g h =
    let same : AllByRecursion (λ b. IsTable (beside_or_zero stubs b) (placed (beside_or_zero places) (targets_from edges b))) sites
    ≡ AllByRecursion (λ b. IsTable (beside_or_zero s b) (placed (beside_or_zero p) (targets_of given b))) list =
    λ i. AllByRecursion (λ b. IsTable (beside_or_zero (g i) b) (placed (beside_or_zero (f i)) (targets_from (e i) b))) (h i) in
    λ all. subst (λ (T : Type 0). T) (sym same) all

pub bounds_alike : (dec : Decoder) (x : Image) (kept : Kept) (edges : Edges) (nodes : List ℕ) → edges ≡ sorted_edges kept.edges → nodes ≡ sorted kept.nodes
    → greatest (λ a. site_steps (site_targets dec x (targets_from edges) a)) nodes ≡ greatest_bound dec x kept
bounds_alike dec x kept edges nodes e f = λ i. greatest (λ a. site_steps (site_targets dec x (targets_from (e i)) a)) (f i)

module _ (rows : List Row) (facts : TableFacts rows) (x : List ℕ) (kept : Kept) (range : AddedRange) (q : IsPlanned (decoded rows) x kept range) (code : NewCode) (is : IsNewCode rows (image_of x) kept range code) where
  abbrev dec : Decoder
  dec = decoded rows

  abbrev a : Added
  a = added dec (image_of x) kept

  fit : IsFit dec (image_of x) kept
  fit = fit_of dec x kept range q

  code_at : range.code ≡ a.code
  code_at = ap (λ (b : Added). b.code) q.range_is

  stubs_at : range.stubs ≡ a.stubs
  stubs_at = ap (λ (b : Added). b.stubs) q.range_is

  abbrev frags : Fragments
  frags = fragments_of dec (image_of x) kept

  abbrev list : List ℕ
  list = sites dec (code_in (image_of x).loads) (sorted kept.nodes)

  abbrev place : ℕ → ℕ
  place = place_by rows (fragments_of dec (image_of x) kept) a.code is.forms

  abbrev stub : ℕ → ℕ
  stub b = (layout_of dec (image_of x) kept).stub b

  -- where the code says that fragments and stubs stand
  pub places_are : code.places ≡ map (λ b. (b, place b)) (sorted kept.nodes)
  places_are = is.places ∙ ap (λ c. map (λ b. (b, place_by rows frags c is.forms b)) (sorted kept.nodes)) code_at

  pub stubs_are : code.stubs ≡ map (λ b. (b, stub b)) (sorted kept.nodes)
  stubs_are = is.stubs ∙ ap (λ s. stub_pairs s (sorted kept.nodes)) stubs_at ∙ rank_pairs (sorted kept.nodes) a.stubs (λ b. (layout_of dec (image_of x) kept).stub b) (IsAscending-sorted kept.nodes) (λ b m. refl)

  pub places_ascend : IsNonDecreasingBy (λ p. p.0) code.places
  places_ascend = placed_ascend place (sorted kept.nodes) (IsAscending-sorted kept.nodes) code.places places_are

  pub stubs_ascend : IsNonDecreasingBy (λ p. p.0) code.stubs
  stubs_ascend = placed_ascend stub (sorted kept.nodes) (IsAscending-sorted kept.nodes) code.stubs stubs_are

  at_stub : (b : ℕ) → has_node (sorted kept.nodes) b ≡ true → beside_or_zero code.stubs b ≡ stub b
  at_stub b m = ap (λ l. beside_or_zero l b) stubs_are ∙ beside_map stub (sorted kept.nodes) b m

  at_place : (t : ℕ) → has_node (sorted kept.nodes) t ≡ true → beside_or_zero code.places t ≡ place t
  at_place t m = ap (λ l. beside_or_zero l t) places_are ∙ beside_map place (sorted kept.nodes) t m

  -- so the tables are those of the layout
  pub tables_are : all_tables (targets_of kept.edges) (beside_or_zero code.places) (beside_or_zero code.stubs) list ≡ all_tables (targets_of kept.edges) place stub list
  tables_are =
      tables_same kept.edges (beside_or_zero code.places) place (beside_or_zero code.stubs) stub list
      (each_member (λ b. (beside_or_zero code.stubs b ≡ stub b) × AllByRecursion (λ t. beside_or_zero code.places t ≡ place t) (targets_of kept.edges b)) list
      (λ b m. (at_stub b (site_node (is_site_at dec (code_in (image_of x).loads)) (sorted kept.nodes) b m), each_member (λ t. beside_or_zero code.places t ≡ place t) (targets_of kept.edges b) (λ t h. at_place t (target t b h)))))
    where
      target : (t b : ℕ) → has_node (targets_of kept.edges b) t ≡ true → has_node (sorted kept.nodes) t ≡ true
      target t b h = has_node-sorted kept.nodes t ∙ fit.plausible.stands.ends b t (sym (has_target kept.edges b t) ∙ h)

  -- and each of them is one
  pub each_table : AllByRecursion (λ b. IsTable (beside_or_zero code.stubs b) (placed (beside_or_zero code.places) (targets_of kept.edges b))) list
  each_table =
      each_member (λ b. IsTable (beside_or_zero code.stubs b) (placed (beside_or_zero code.places) (targets_of kept.edges b))) list
      (λ b m. site_table rows facts (image_of x) kept fit range q.range_is code is (beside_or_zero code.places) (beside_or_zero code.stubs b) b
      (site_among (is_site_at dec (code_in (image_of x).loads)) (sorted kept.nodes) b m) (stub_low b (site_node (is_site_at dec (code_in (image_of x).loads)) (sorted kept.nodes) b m)) at_place)
    where
      stub_low : (b : ℕ) → has_node (sorted kept.nodes) b ≡ true → beside_or_zero code.stubs b < 2 ^ 31
      stub_low b m =
          let e = at_stub b m in
          go _ (stub b) a.stubs (index_of (sorted kept.nodes) b) (length (sorted kept.nodes)) e refl (index_low (sorted kept.nodes) b) (stubs_end rows facts (image_of x) kept fit)
        where
          go : (p q t i n : ℕ) → p ≡ q → q ≡ t + stub_size * i → i ≤ n → t + stub_size * n < 2 ^ 31 → p < 2 ^ 31
          go p q t i n e f h k = omega (arith, e, f, h, k)
