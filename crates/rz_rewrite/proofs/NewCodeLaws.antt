-- The code of a new file: its fragments can be laid out, and what was laid out and emitted is the new code.
use Rattle.std.proofs.Common.{◌≡◌, ℕ, ◌+◌, ◌-◌, ◌*◌, ◌^◌, ◌<◌, ◌≤◌, Bool, true, false, ◌||◌, ◌==◌, if◌then◌else◌, List, [], ◌∷◌, length, map, Option, Some, is_some, refl, sym, ap, ap₂, ◌∙◌, subst, subst₂, arith, eqb-true, eq-eqb, ne_eqb}
use Rattle.std.specs.List.{AllByRecursion}
use Rattle.std.specs.Option.{option_map}
use Rattle.std.specs.Prelude.{slice_index}
use Rattle.std.proofs.lemmas.Bool.{cond-true, cond-false}
use Rattle.std.proofs.lemmas.List.{length-append, length-map}
use Rattle.std.proofs.lemmas.List.Elements.{All-from_recursion}
use Rattle.rz_isa.specs.declared.rows.Row.{Row}
use Rattle.rz_isa.specs.declared.rows.Form.{Form}
use Rattle.rz_isa.specs.declared.decoding.Decoded.{Decoded}
use Rattle.rz_isa.specs.declared.decoding.Decoded.TheVariants as decodeds
use Rattle.rz_isa.specs.declared.instruction.Insn.{Insn}
use Rattle.rz_isa.specs.declared.item_list.Label.TheVariants as label
use Rattle.rz_isa.specs.declared.item_list.Item.{Item}
use Rattle.rz_isa.specs.declared.fragment_list.Fragment.{Fragment}
use Rattle.rz_isa.specs.declared.fragment_list.Fragments.{Fragments}
use Rattle.rz_isa.specs.Decoded.{decoded}
use Rattle.rz_isa.specs.Insn.{kind_of}
use Rattle.rz_isa.specs.Items.{slots, slots_from, list_slots, item_count, fragment_number, first_number}
use Rattle.rz_isa.specs.Nodes.{Decoder, is_site, is_site_at, spelled_at}
use Rattle.rz_isa.specs.Plan.{place, code_end, IsPlan, IsLeastPlan}
use Rattle.rz_isa.specs.Sizes.{IsSized}
use Rattle.rz_image.specs.Memory.{wrap}
use Rattle.rz_elf.specs.Elf.{Image}
use Rattle.rz_elf.specs.Format.{stub_size}
use Rattle.rz_elf.specs.AddedRange.{Added, filled}
use Rattle.rz_machine.specs.Added.{added, sites, node_count, site_count, site_edge_count}
use Rattle.rz_machine.specs.Kept.{Kept, Edges, has_node, sorted, sorted_edges, targets_of, IsAscending}
use Rattle.rz_machine.specs.Nodes.{code_in}
use Rattle.rz_machine.specs.Laws.Sets.{has_node-sorted, IsAscending-sorted}
use Rattle.rz_layout.specs.declared.plan.Layout.{Layout}
use Rattle.rz_layout.specs.Layout.{nodes_of, all_near, AreLow, AreFirst, ArePlaces}
use Rattle.rz_layout.specs.Layout.{IsAscending as IsUp}
use Rattle.rz_layout.specs.NearPlan.{IsKnown, IsSizedFragment, most_total, CanStand, StandsNear}
use Rattle.rz_layout.specs.Laws.{LeastIsShortest, SizedStandNear}
use Rattle.rz_emit.specs.Emitted.{keys_of, code_bytes, emitted}
use Rattle.rz_machine.specs.Sequence.{items_for, node_items}
use Rattle.rz_lookup.specs.Routine.{lookup_items}
use Rattle.rz_lookup.specs.Laws.LookupRows.{lookup_closed, site_has_lookup}
use Rattle.rz_rewrite.specs.Fragments.{trimmed, first_node, fragment_list, stub_pairs, table_pairs, tables_sum, routine_for}
use Rattle.rz_rewrite.specs.Reach.{is_out_of_reach}
use Rattle.rz_rewrite.specs.Rewritten.{IsFit, fragments_of, place_by, place_or_zero}
use Rattle.rz_rewrite.specs.Calls.Places.{places_from, routine_in, beside_or_zero}
use Rattle.rz_rewrite.specs.declared.added.AddedRange.{AddedRange}
use Rattle.rz_rewrite.specs.declared.code.LaidCode.{LaidCode}
use Rattle.rz_rewrite.specs.declared.code.NewCode.{NewCode}
use Rattle.rz_rewrite.specs.Calls.Laid.{MayLay, IsLaid}
use Rattle.rz_rewrite.specs.Calls.Plan.{range_of, IsMovable, CanMoveAt, AreMovable, IsNewCode}
use Rattle.rz_rewrite.specs.Calls.Table.{TableFacts}
use Rattle.rz_rewrite.proofs.KeptTargets.{each_member, has_target, target_count}
use Rattle.rz_rewrite.proofs.TargetsAscend.{targets_ascend}
use Rattle.rz_machine.specs.Tables.{IsTable, placed}
use Rattle.rz_machine.specs.Laws.Lookups.{targets_table}
use Rattle.rz_rewrite.proofs.KnownLabels.{Known, decoded_known, numbered, stubbed, trimmed_front}
use Rattle.rz_rewrite.proofs.NodeFragments.{node_some, slots_long}
use Rattle.rz_rewrite.proofs.NodeItems.{in_reach, names_low, items_sized}
use Rattle.rz_rewrite.proofs.PartRoom.{scratch_room, stubs_room, stop_low, code_room, tables_room}
use Rattle.rz_rewrite.proofs.PlainNodes.{Stands, stands}
use Rattle.rz_rewrite.proofs.Standing.{all_from, ascends, code_long}
use Rattle.rz_rewrite.proofs.StandingFragments.{Found, found}
use Rattle.rz_rewrite.proofs.SiteSums.{most_of, most_sum, most_room, one_site, tables_room as tables_most}
use Rattle.rz_rewrite.proofs.TablesPart.{item_slots, has_site, site_node, site_among, tabled, table_keys, sites_ascend, routine_most, routine_room, routine_sized_for, routine_names, routine_is, first_is}

-- ---- lists

up : (l : List ℕ) → IsAscending l → IsUp l
up [] h = tt
up (a ∷ rest) h = (h.0, up rest h.1)

list_nodes : (items : ℕ → List Item) (nodes : List ℕ) → nodes_of (fragment_list items nodes) ≡ nodes
list_nodes items [] = refl
list_nodes items (a ∷ rest) = ap (λ l. a ∷ l) (list_nodes items rest)

stub_keys : (from : ℕ) (nodes : List ℕ) → keys_of (stub_pairs from nodes) ≡ nodes
stub_keys from [] = refl
stub_keys from (a ∷ rest) = ap (λ l. a ∷ l) (stub_keys (from + stub_size) rest)

stubs_low : (from : ℕ) (nodes : List ℕ) → from + stub_size * length nodes < 2 ^ 31 → AllByRecursion (λ p. p.1 < 2 ^ 31) (stub_pairs from nodes)
stubs_low from [] h = tt
stubs_low from (a ∷ rest) h = (omega (arith, h), stubs_low (from + stub_size) rest (omega (arith, h)))

total_is : (site : ℕ → Bool) (edges : Edges) (items : ℕ → List Item) (nodes : List ℕ) → most_total (most_of site edges) (fragment_list items nodes) ≡ most_sum site edges nodes
total_is site edges items [] = refl
total_is site edges items (a ∷ rest) = ap (λ n. most_of site edges a + n) (total_is site edges items rest)

pub beside_map : (f : ℕ → ℕ) (nodes : List ℕ) (e : ℕ) → has_node nodes e ≡ true → beside_or_zero (map (λ a. (a, f a)) nodes) e ≡ f e
beside_map f [] e h = cc
beside_map f (a ∷ rest) e h = go (a == e) refl h (beside_map f rest e)
  where
    go : (v : Bool) → (a == e) ≡ v → (v || has_node rest e) ≡ true → (has_node rest e ≡ true → beside_or_zero (map (λ c. (c, f c)) rest) e ≡ f e) → (if v then f a else beside_or_zero (map (λ c. (c, f c)) rest) e) ≡ f e
    go true g h ih = ap f (eqb-true a e g)
    go false g h ih = ih h

-- each fragment by itself
each_fragment : (P : Fragment → Type 0) (items : ℕ → List Item) (nodes : List ℕ) → ((a : ℕ) (o : Option ℕ) → has_node nodes a ≡ true → P (record { at = a; items = trimmed o (items a) })) → AllByRecursion P (fragment_list items nodes)
each_fragment P items [] h = tt
each_fragment P items (a ∷ rest) h = (h a (first_node rest) (here a rest), each_fragment P items rest (λ b o m. h b o (later a b (has_node rest b) m)))
  where
    here : (a : ℕ) (rest : List ℕ) → has_node (a ∷ rest) a ≡ true
    here a rest = ap (λ v. v || has_node rest a) (eq-eqb a a refl)

    later : (a b : ℕ) (v : Bool) → v ≡ true → ((a == b) || v) ≡ true
    later a b v e = go (a == b)
      where
        go : (u : Bool) → (u || v) ≡ true
        go true = refl
        go false = e

-- a member of a list is above what is below all of it
above : (a : ℕ) (nodes : List ℕ) → AllByRecursion (λ b. a < b) nodes → (b : ℕ) → has_node nodes b ≡ true → a < b
above a [] h b e = cc
above a (c ∷ nodes) h b e = go (c == b) refl e (above a nodes h.1 b)
  where
    go : (v : Bool) → (c == b) ≡ v → (v || has_node nodes b) ≡ true → (has_node nodes b ≡ true → a < b) → a < b
    go true f e ih = let g : c ≡ b = eqb-true c b f in let k = h.0 in omega (arith, g, k)
    go false f e ih = ih e

-- the places of fragments one after the other are those of their numbers
module _ (items : ℕ → List Item) (some : (a : ℕ) (o : Option ℕ) → (i : Item) × (rest : List Item) × (trimmed o (items a) ≡ i ∷ rest)) (at : ℕ → ℕ) (places : List ℕ) (f : ℕ → ℕ) where
  pub places_are : (nodes : List ℕ) (first : ℕ) → IsAscending nodes → ((k : ℕ) → k < first + item_count (fragment_list items nodes) → slice_index places k ≡ at k)
      → ((b : ℕ) → has_node nodes b ≡ true → place_or_zero (option_map at (fragment_number first (fragment_list items nodes) b)) ≡ f b)
      → places_from places first (fragment_list items nodes) ≡ map (λ a. (a, f a)) nodes
  places_are [] first up same is = refl
  places_are (c ∷ nodes) first up same is = ap₂ (λ p l. (c, p) ∷ l) here (places_are nodes (first + length mine) up.1 (λ k lt. same k (omega (arith, lt))) there)
    where
      mine : List Item
      mine = trimmed (first_node nodes) (items c)

      is_some_first : first_number first mine ≡ Some first
      is_some_first = let s = some c (first_node nodes) in ap (first_number first) s.2

      long : 0 < length mine
      long = let s = some c (first_node nodes) in let e = ap length s.2 in omega (arith, e)

      number : fragment_number first (fragment_list items (c ∷ nodes)) c ≡ Some first
      number = cond-true (c == c) _ _ (eq-eqb c c refl) ∙ is_some_first

      here : slice_index places first ≡ f c
      here = same first (omega (arith, long)) ∙ sym (ap (λ o. place_or_zero (option_map at o)) number) ∙ is c (ap (λ v. v || has_node nodes c) (eq-eqb c c refl))

      there : (b : ℕ) → has_node nodes b ≡ true → place_or_zero (option_map at (fragment_number (first + length mine) (fragment_list items nodes) b)) ≡ f b
      there b m =
          let less = above c nodes up.0 b m in
          let apart : (c == b) ≡ false = ne_eqb c b (λ e. omega (arith, less, e)) in
          let skip : fragment_number first (fragment_list items (c ∷ nodes)) b ≡ fragment_number (first + length mine) (fragment_list items nodes) b = cond-false (c == b) _ _ apart in
          sym (ap (λ o. place_or_zero (option_map at o)) skip) ∙ is b (either (c == b) m)
        where
          either : (u : Bool) → has_node nodes b ≡ true → (u || has_node nodes b) ≡ true
          either true h = refl
          either false h = h

-- where the routine stands
routine_place : (rows : List Row) (f : Fragments) (base : ℕ) (forms : List Form) (places : List ℕ) → ArePlaces rows f base forms places
    → routine_in places f.routine ≡ place_or_zero (option_map (place rows f base forms) (first_number (item_count f.list) f.routine))
routine_place rows f base forms places are = go f.routine refl
  where
    go : (l : List Item) → f.routine ≡ l → routine_in places l ≡ place_or_zero (option_map (place rows f base forms) (first_number (item_count f.list) l))
    go [] e = refl
    go (i ∷ rest) e =
        let all = length-append (slots_from 0 f.list) (list_slots (item_count f.list) f.routine) in
        let front = slots_long 0 f.list in
        let back : length (list_slots (item_count f.list) f.routine) ≡ length f.routine = length-map f.routine _ in
        let long = ap length e in
        let each = are.each in
        let n : length places - length (i ∷ rest) ≡ item_count f.list = omega (arith, each, all, front, back, long) in
        ap (slice_index places) n ∙ are.at (item_count f.list) (omega (arith, all, front, back, long))

-- ---- what is kept of a plain image, where it fits

module _ (rows : List Row) (facts : TableFacts rows) (x : Image) (kept : Kept) (fit : IsFit (decoded rows) x kept) where
  abbrev dec : Decoder
  dec = decoded rows

  abbrev a : Added
  a = added dec x kept

  abbrev nodes : List ℕ
  nodes = sorted kept.nodes

  abbrev pub frags : Fragments
  frags = fragments_of dec x kept

  abbrev site : ℕ → Bool
  site = is_site_at dec (code_in x.loads)

  abbrev pub most : ℕ → ℕ
  most = most_of site (sorted_edges kept.edges)

  -- the kept sites
  abbrev pub list : List ℕ
  list = sites dec (code_in x.loads) nodes

  top : a.stop ≤ 0x70000000
  top = stop_low dec x kept fit.room fit.plain

  -- the code with its items near ends before the stubs
  pub near_room : a.code + most_total most frags.list + routine_most list < a.stubs
  near_room =
      let e = total_is site (sorted_edges kept.edges) (node_items dec (code_in x.loads) a.scratch kept.edges) nodes in
      go a.code (most_total most frags.list) (most_sum site (sorted_edges kept.edges) nodes) (length nodes) (length list) (site_edge_count dec x kept) (routine_most list) a.stubs e
      (most_room site (sorted_edges kept.edges) nodes (IsAscending-sorted kept.nodes)) (routine_room list) (code_room dec x kept fit.room)
    where
      go : (c m t n j e r s : ℕ) → m ≡ t → t ≤ 32 * n + 96 * j + 48 * e → r < 64 * j + 512 → c + (32 * n + 160 * j + 48 * e + 512) ≤ s → c + m + r < s
      go c m t n j e r s f g h k = omega (arith, f, g, h, k)

  pub stubs_end : a.stubs + stub_size * length nodes < 2 ^ 31
  stubs_end = go a.stubs (length nodes) a.stop (stubs_room dec x kept fit.room) top
    where
      go : (t n stop : ℕ) → t + stub_size * n ≤ stop → stop ≤ 0x70000000 → t + stub_size * n < 2 ^ 31
      go t n stop h k = omega (arith, h, k)

  pub scratch_low : a.scratch + 4096 < 2 ^ 31
  scratch_low = go a.scratch a.code (most_total most frags.list) (routine_most list) a.stubs (length nodes) (scratch_room dec x kept fit.room) near_room stubs_end
    where
      go : (s c m r t n : ℕ) → s + 4096 ≤ c → c + m + r < t → t + stub_size * n < 2 ^ 31 → s + 4096 < 2 ^ 31
      go s c m r t n h i j = omega (arith, h, i, j)

  page : a.scratch + 16 < 2 ^ 31
  page = omega (arith, scratch_low)

  is_kept : (b : ℕ) → has_node nodes b ≡ true → has_node kept.nodes b ≡ true
  is_kept b m = sym (has_node-sorted kept.nodes b) ∙ m

  in_order : (b : ℕ) → has_node kept.nodes b ≡ true → has_node nodes b ≡ true
  in_order b m = has_node-sorted kept.nodes b ∙ m

  node_low : (b : ℕ) → has_node kept.nodes b ≡ true → b < 2 ^ 31
  node_low b m =
      let node = fit.plausible.stands.nodes b m in
      let h = (stands rows facts x fit.plain b node.insn node.len node.spelled).low in
      omega (arith, h)

  -- what stands at a node
  record At (b : ℕ) : Type 0 where
    insn : Insn
    len : ℕ
    there : Stands rows facts x fit.plain b insn len

  at_node : (b : ℕ) → has_node kept.nodes b ≡ true → At b
  at_node b m =
      let node = fit.plausible.stands.nodes b m in
      record { insn = node.insn; len = node.len; there = stands rows facts x fit.plain b node.insn node.len node.spelled }

  -- where there is a site, the routine is sized
  pub sized_routine : (b : ℕ) → has_node list b ≡ true → IsSized rows (lookup_items a.scratch) 512
  sized_routine b m =
      let n = at_node b (is_kept b (site_node site nodes b m)) in
      facts.routine_sized a.scratch (omega (arith, scratch_low)) (site_has_lookup rows _ b n.insn n.there.spells (sym (ap site_in_of n.there.spelled) ∙ site_among site nodes b m))
    where
      site_in_of : Decoded → Bool
      site_in_of d = is_site_at (λ bs at. d) (code_in x.loads) b

  -- a site has few targets
  pub few_targets : (b : ℕ) → site b ≡ true → length (targets_of kept.edges b) < 2 ^ 28
  few_targets b is =
      let count = one_site site b is (sorted_edges kept.edges) in
      let room = few_edges a.code (node_count kept) (site_count dec x kept) (site_edge_count dec x kept) a.stubs (stub_size * length nodes) (code_room dec x kept fit.room) stubs_end in
      below (length (targets_of kept.edges b)) _ (site_edge_count dec x kept) (target_count kept.edges b) count room
    where
      few_edges : (c n j e s t : ℕ) → c + (32 * n + 160 * j + 48 * e + 512) ≤ s → s + t < 2 ^ 31 → e < 2 ^ 28
      few_edges c n j e s t h k = omega (arith, h, k)

      below : (t c e : ℕ) → t ≡ c → c ≤ e → e < 2 ^ 28 → t < 2 ^ 28
      below t c e h i j = omega (arith, h, i, j)

  -- each node can be moved
  pub movable : AreMovable dec (code_in x.loads) a.scratch kept.edges nodes
  movable = each_member (λ b. CanMoveAt a.scratch kept.edges b (spelled_at dec (code_in x.loads) b)) nodes one
    where
      low_next : (v : ℕ) → v ≤ 0x70000000 → v < 2 ^ 31
      low_next v h = omega (arith, h)

      one : (b : ℕ) → has_node nodes b ≡ true → CanMoveAt a.scratch kept.edges b (spelled_at dec (code_in x.loads) b)
      one b m =
          let n = at_node b (is_kept b m) in
          let low : b + n.len < 2 ^ 31 = low_next (b + n.len) n.there.low in
          let move : IsMovable a.scratch kept.edges b n.len n.insn = record {
            low = low;
            site = λ e. record {
              kind = e;
              next_low = low;
              targets_low = each_member (λ t. t < 2 ^ 31) (targets_of kept.edges b) (λ t h. node_low t (fit.plausible.stands.ends b t (sym (has_target kept.edges b t) ∙ h)));
              few = few_targets b (ap site_in_of n.there.spelled ∙ e);
              scratch_low = page;
            };
          } in
          subst (CanMoveAt a.scratch kept.edges b) (sym n.there.spelled) move
        where
          site_in_of : Decoded → Bool
          site_in_of d = is_site_at (λ bs at. d) (code_in x.loads) b

  -- the tables end at a low address
  pub tables_low : a.tables + tables_sum (targets_of kept.edges) list < 2 ^ 31
  tables_low =
      go a.tables (tables_sum (targets_of kept.edges) list) (site_count dec x kept) (site_edge_count dec x kept) a.code (most_total most frags.list) (routine_most list) a.stubs (stub_size * length nodes)
      (tables_most site (sorted_edges kept.edges) nodes (IsAscending-sorted kept.nodes)) (tables_room dec x kept fit.room) near_room stubs_end
    where
      go : (f t j e c m r s n : ℕ) → t ≤ 16 * j + 8 * e → f + (16 * j + 8 * e) ≤ c → c + m + r < s → s + n < 2 ^ 31 → f + t < 2 ^ 31
      go f t j e c m r s n h i k l = omega (arith, h, i, k, l)

  -- the fragments can be laid out with each item near
  pub can_stand : CanStand rows frags a.code most (routine_most list)
  can_stand = record {
    fragments = each_fragment (IsSizedFragment rows frags most) (node_items dec (code_in x.loads) a.scratch kept.edges) nodes one;
    routine_sized = routine_sized_for rows a.scratch list sized_routine;
    routine_known = routine_names (IsKnown frags) (λ k. tt) a.scratch list;
    low = lower a.code (most_total most frags.list) (routine_most list) a.stubs (stub_size * length nodes) near_room stubs_end;
  }
    where
      lower : (c m r s t : ℕ) → c + m + r < s → s + t < 2 ^ 31 → c + m + r < 2 ^ 31
      lower c m r s t h k = omega (arith, h, k)

      wrapped : (v : ℕ) → v ≤ 0x70000000 → wrap v < 2 ^ 31
      wrapped v h = omega (arith, h)

      whole : ℕ → List Item
      whole b = node_items dec (code_in x.loads) a.scratch kept.edges b

      sized : (b : ℕ) → has_node nodes b ≡ true → IsSized rows (node_items dec (code_in x.loads) a.scratch kept.edges b) (most b)
      sized b m =
          let n = at_node b (is_kept b m) in
          let reach : is_out_of_reach (decodeds.Insn n.insn n.len) ≡ false = ap is_out_of_reach (sym n.there.spelled) ∙ in_reach dec (code_in x.loads) nodes b fit.reach m in
          let same : site b ≡ is_site (kind_of n.insn) = ap site_in_of n.there.spelled in
          let h = items_sized rows facts x kept a.scratch page node_low fit.plausible.stands.ends b (wrap (b + n.len)) n.insn (wrapped (b + n.len) n.there.low) (names_low n.insn reach) (_, b, n.there.spells) (λ e. few_targets b (same ∙ e)) site same in
          subst (λ d. IsSized rows (items_for a.scratch kept.edges b d) (most b)) (sym n.there.spelled) h
        where
          site_in_of : Decoded → Bool
          site_in_of d = is_site_at (λ bs at. d) (code_in x.loads) b

      known : (b : ℕ) → has_node nodes b ≡ true → Known (IsKnown frags) (λ k. tt) (node_items dec (code_in x.loads) a.scratch kept.edges b)
      known b m =
          decoded_known (IsKnown frags) (λ k. tt) kept.edges b (stubbed nodes a.stubs b m stubs_end)
          (λ t e. numbered (node_items dec (code_in x.loads) a.scratch kept.edges) (node_some dec (code_in x.loads) a.scratch kept.edges) nodes 0 t (in_order t (fit.plausible.stands.ends b t e)))
          a.scratch (spelled_at dec (code_in x.loads) b) lookup
        where
          site_in_of : Decoded → Bool
          site_in_of d = is_site_at (λ bs at. d) (code_in x.loads) b

          lookup : (y : Insn) (len : ℕ) → spelled_at dec (code_in x.loads) b ≡ decodeds.Insn y len → is_site (kind_of y) ≡ true → IsKnown frags (label.Table b) × IsKnown frags label.Routine
          lookup y len e is =
              let among = has_site site nodes b m (ap site_in_of e ∙ is) in
              let some = (lookup_closed a.scratch).some in
              let numbered : first_number (item_count frags.list) frags.routine ≡ Some (item_count frags.list) =
              ap (first_number (item_count frags.list)) (routine_is a.scratch b list among) ∙ first_is (item_count frags.list) (lookup_items a.scratch) some in
              (tabled kept.edges list a.tables b among tables_low, ap is_some numbered)

      one : (b : ℕ) (o : Option ℕ) → has_node nodes b ≡ true → IsSizedFragment rows frags most (record { at = b; items = trimmed o (node_items dec (code_in x.loads) a.scratch kept.edges b) })
      one b o m =
          let front = trimmed_front o (node_items dec (code_in x.loads) a.scratch kept.edges b) in
          record {
            rest = front.0;
            few = front.1;
            sized = subst (λ l. IsSized rows l (most b)) (sym front.2) (sized b m);
            known = subst (Known (IsKnown frags) (λ k. tt)) (sym front.2) (known b m);
          }

  pub list_up : IsUp (nodes_of frags.list)
  list_up = subst IsUp (sym (list_nodes (node_items dec (code_in x.loads) a.scratch kept.edges) nodes)) (up nodes (IsAscending-sorted kept.nodes))

  pub tables_up : IsUp (keys_of frags.tables)
  tables_up = subst IsUp (sym (table_keys kept.edges a.tables list)) (up list (sites_ascend site nodes (IsAscending-sorted kept.nodes)))

  pub stubs_up : IsUp (keys_of frags.stubs)
  stubs_up = subst IsUp (sym (stub_keys a.stubs nodes)) (up nodes (IsAscending-sorted kept.nodes))

  pub all_stubs_low : AreLow frags.stubs
  all_stubs_low = All-from_recursion (λ p. p.1 < 2 ^ 31) frags.stubs (stubs_low a.stubs nodes stubs_end)

  -- a least plan ends no later than the near one
  pub least_ends : LeastIsShortest → (forms : List Form) → StandsNear rows frags a.code most (routine_most list) → IsLeastPlan rows frags a.code forms → code_end rows frags a.code forms < a.stubs
  least_ends shortest forms near least =
      let h = (shortest rows frags a.code forms (all_near frags) least near.plan).places (length (slots frags)) in
      go (code_end rows frags a.code forms) (code_end rows frags a.code (all_near frags)) (a.code + most_total most frags.list + routine_most list) a.stubs h near.ends near_room
    where
      go : (u v w s : ℕ) → u ≤ v → v ≤ w → w < s → u < s
      go u v w s h i j = omega (arith, h, i, j)

  -- where each fragment stands
  pub node_places : (forms : List Form) (places : List ℕ) → AreFirst (length (slots frags)) (place rows frags a.code forms) places
      → places_from places 0 frags.list ≡ map (λ b. (b, place_by rows frags a.code forms b)) nodes
  node_places forms places are =
      places_are (node_items dec (code_in x.loads) a.scratch kept.edges) (node_some dec (code_in x.loads) a.scratch kept.edges) (place rows frags a.code forms) places (place_by rows frags a.code forms) nodes 0 (IsAscending-sorted kept.nodes)
      (λ k lt. are.at k (let count = item_slots frags in omega (arith, lt, count))) (λ b m. refl)

  pub entry_place : (forms : List Form) → beside_or_zero (map (λ b. (b, place_by rows frags a.code forms b)) nodes) x.entry ≡ place_by rows frags a.code forms x.entry
  entry_place forms = beside_map (place_by rows frags a.code forms) nodes x.entry (in_order x.entry fit.plausible.entry_kept)

  -- ---- from what the code makes

  -- fragments that are made for these nodes, in such a range
  pub record Made (range : AddedRange) (f : Fragments) : Type 0 where
    pub range_is : range_of range ≡ a
    pub list : f.list ≡ fragment_list (node_items dec (code_in x.loads) range.scratch kept.edges) nodes
    pub routine : f.routine ≡ routine_for range.scratch (sites dec (code_in x.loads) nodes)
    pub tables : f.tables ≡ table_pairs (targets_of kept.edges) range.tables (sites dec (code_in x.loads) nodes)
    pub stubs : f.stubs ≡ stub_pairs range.stubs nodes

  pub made_is : (range : AddedRange) (f : Fragments) → Made range f → f ≡ frags
  made_is range f m =
      let scratch : range.scratch ≡ a.scratch = ap (λ (b : Added). b.scratch) m.range_is in
      let stubs : range.stubs ≡ a.stubs = ap (λ (b : Added). b.stubs) m.range_is in
      let l : f.list ≡ frags.list = m.list ∙ ap (λ p. fragment_list (node_items dec (code_in x.loads) p kept.edges) nodes) scratch in
      let s : f.stubs ≡ frags.stubs = m.stubs ∙ ap (λ p. stub_pairs p nodes) stubs in
      let r : f.routine ≡ frags.routine = m.routine ∙ ap (λ p. routine_for p list) scratch in
      let t : f.tables ≡ frags.tables = m.tables ∙ ap (λ p. table_pairs (targets_of kept.edges) p list) (ap (λ (b : Added). b.tables) m.range_is) in
      λ i. record { list = l i; routine = r i; tables = t i; stubs = s i }

  -- they meet what their layout and emission ask
  pub may_lay : SizedStandNear → (range : AddedRange) (f : Fragments) → Made range f → MayLay rows range.code range.stubs f
  may_lay law range f m =
      let near = law rows frags a.code most (routine_most list) can_stand in
      let code : a.code ≡ range.code = sym (ap (λ (b : Added). b.code) m.range_is) in
      let stubs : a.stubs ≡ range.stubs = sym (ap (λ (b : Added). b.stubs) m.range_is) in
      let all : MayLay rows a.code a.stubs frags = record {
        ascending = list_up;
        near = near.plan;
        ends = below (code_end rows frags a.code (all_near frags)) (a.code + most_total most frags.list + routine_most list) a.stubs near.ends near_room;
        low = under a.stubs (stub_size * length nodes) stubs_end;
        items = near.items;
        low_stubs = all_stubs_low;
        ordered = record { fragments = list_up; stubs = stubs_up; tables = tables_up };
      } in
      subst (λ c. MayLay rows c range.stubs f) code (subst (λ s. MayLay rows a.code s f) stubs (subst (MayLay rows a.code a.stubs) (sym (made_is range f m)) all))
    where
      below : (e t s : ℕ) → e ≤ t → t < s → e ≤ s
      below e t s h k = omega (arith, h, k)

      under : (s n : ℕ) → s + n < 2 ^ 31 → s < 2 ^ 31
      under s n h = omega (arith, h)

  -- what was laid out of them has the places of the nodes
  pub laid_places : (range : AddedRange) (f : Fragments) (code : LaidCode) → range_of range ≡ a → f ≡ frags → (h : IsLaid rows range f code)
      → code.places ≡ map (λ b. (b, place_by rows frags range.code h.laid.forms b)) nodes
  laid_places range f code range_is same h =
      let laid : Layout = h.laid in
      let begins : range.code ≡ a.code = ap (λ (b : Added). b.code) range_is in
      let places : ArePlaces rows frags range.code laid.forms laid.places = subst (λ g. ArePlaces rows g range.code laid.forms laid.places) same h.places in
      subst (λ c. ArePlaces rows frags c laid.forms laid.places → code.places ≡ map (λ b. (b, place_by rows frags c laid.forms b)) nodes) (sym begins)
      (λ p. h.spots ∙ ap (λ (g : Fragments). places_from laid.places 0 g.list) same ∙ node_places laid.forms laid.places p) places

  -- what was laid out of them and emitted is the new code, which begins beside the entry
  pub new_code_is : SizedStandNear → LeastIsShortest → (range : AddedRange) (f : Fragments) (code : LaidCode) (entry : ℕ) → range_of range ≡ a → f ≡ frags → IsLaid rows range f code
      → entry ≡ beside_or_zero code.places x.entry
      → IsNewCode rows x kept range record { bytes = code.bytes; places = code.places; stubs = f.stubs; tables = f.tables; routine = code.routine; entry = entry }
  new_code_is law shortest range f code entry range_is same h beside_entry =
      let laid : Layout = h.laid in
      let begins : range.code ≡ a.code = ap (λ (b : Added). b.code) range_is in
      let stubs : range.stubs ≡ a.stubs = ap (λ (b : Added). b.stubs) range_is in
      let forms = laid.forms in
      let plan : IsPlan rows frags range.code forms = subst (λ g. IsPlan rows g range.code forms) same h.plan in
      let least : IsLeastPlan rows frags range.code forms = subst (λ g. IsLeastPlan rows g range.code forms) same h.least in
      let places : ArePlaces rows frags range.code forms laid.places = subst (λ g. ArePlaces rows g range.code forms laid.places) same h.places in
      let spots : code.places ≡ map (λ b. (b, place_by rows frags range.code forms b)) nodes = laid_places range f code range_is same h in
      record {
        forms = forms;
        plan = plan;
        least = least;
        ends =
            subst₂ (λ c s. IsLeastPlan rows frags c forms → code_end rows frags c forms < s) (sym begins) (sym stubs)
            (λ l. least_ends shortest forms (law rows frags a.code most (routine_most list) can_stand) l) least;
        bytes = h.bytes ∙ ap (λ (g : Fragments). emitted rows g laid) same ∙ ap₂ (λ b s. filled (s - b) (code_bytes rows frags b forms)) h.base h.stop;
        places = spots;
        stubs = ap (λ (g : Fragments). g.stubs) same ∙ ap (λ s. stub_pairs s nodes) (sym stubs);
        tables = ap (λ (g : Fragments). g.tables) same;
        routine = h.routine ∙ ap (λ (g : Fragments). routine_in laid.places g.routine) same ∙ routine_place rows frags range.code forms laid.places places;
        entry =
            beside_entry ∙ ap (λ l. beside_or_zero l x.entry) spots
            ∙ subst (λ c. beside_or_zero (map (λ b. (b, place_by rows frags c forms b)) nodes) x.entry ≡ place_by rows frags c forms x.entry) (sym begins) (entry_place forms);
      }

  -- each kept address has its place in the code part
  pub place_inside : (range : AddedRange) → range_of range ≡ a → (code : NewCode) (is : IsNewCode rows x kept range code) (b : ℕ) → has_node nodes b ≡ true
      → (a.code ≤ place_by rows frags a.code is.forms b) × (place_by rows frags a.code is.forms b < a.stubs)
  place_inside range same code is b node = (high, low)
    where
      begins : range.code ≡ a.code
      begins = ap (λ (b : Added). b.code) same

      ends : code_end rows frags a.code is.forms < a.stubs
      ends = subst₂ (λ c s. code_end rows frags c is.forms < s) begins (ap (λ (b : Added). b.stubs) same) is.ends

      spot : Found (node_items dec (code_in x.loads) a.scratch kept.edges) (node_some dec (code_in x.loads) a.scratch kept.edges) (λ k s. Unit {0}) 0 nodes b
      spot =
          found (node_items dec (code_in x.loads) a.scratch kept.edges) (node_some dec (code_in x.loads) a.scratch kept.edges) (λ k s. Unit {0}) nodes 0 b (IsAscending-sorted kept.nodes) node
          (all_from (λ k s. Unit {0}) 0 (slots_from 0 frags.list) (λ i s e. tt))

      place_is : place_by rows frags a.code is.forms b ≡ place rows frags a.code is.forms spot.number
      place_is = ap (λ o. place_or_zero (option_map (place rows frags a.code is.forms) o)) spot.is

      high : a.code ≤ place_by rows frags a.code is.forms b
      high = from a.code _ (place_by rows frags a.code is.forms b) place_is
        where
          from : (b o e : ℕ) → e ≡ b + o → b ≤ e
          from b o e f = omega (arith, f)

      few : spot.number ≤ length (slots frags)
      few = go spot.number _ (item_count frags.list) (length (slots frags)) spot.within (item_slots frags)
        where
          go : (n l c s : ℕ) → n + l ≤ 0 + c → c ≤ s → n ≤ s
          go n l c s h e = omega (arith, h, e)

      low : place_by rows frags a.code is.forms b < a.stubs
      low =
          let d : ℕ = length (slots frags) - spot.number in
          let e : spot.number + d ≡ length (slots frags) = fill_up spot.number (length (slots frags)) few in
          let h = ascends rows frags a.code is.forms spot.number d in
          lower (place_by rows frags a.code is.forms b) a.code _ _ (code_end rows frags a.code is.forms) a.stubs place_is h (ap (place rows frags a.code is.forms) e) ends
        where
          fill_up : (n l : ℕ) → n ≤ l → n + (l - n) ≡ l
          fill_up n l h = omega (arith, h)

          lower : (p b u v e s : ℕ) → p ≡ b + u → u ≤ v → b + v ≡ e → e < s → p < s
          lower p b u v e s f g h k = omega (arith, f, g, h, k)

  -- the new entry lies there, and the code fits its part
  pub entry_inside : (range : AddedRange) → range_of range ≡ a → (code : NewCode) (is : IsNewCode rows x kept range code)
      → (a.code ≤ code.entry) × (code.entry < a.stubs) × (length (code_bytes rows frags a.code is.forms) ≤ a.stubs - a.code)
  entry_inside range same code is =
      let begins : range.code ≡ a.code = ap (λ (b : Added). b.code) same in
      let entry_is : code.entry ≡ place_by rows frags a.code is.forms x.entry = is.entry ∙ ap (λ c. place_by rows frags c is.forms x.entry) begins in
      let inside = place_inside range same code is x.entry (in_order x.entry fit.plausible.entry_kept) in
      (subst (λ e. a.code ≤ e) (sym entry_is) inside.0, subst (λ e. e < a.stubs) (sym entry_is) inside.1, fits)
    where
      plan : IsPlan rows frags a.code is.forms
      plan = subst (λ c. IsPlan rows frags c is.forms) (ap (λ (b : Added). b.code) same) is.plan

      ends : code_end rows frags a.code is.forms < a.stubs
      ends = subst₂ (λ c s. code_end rows frags c is.forms < s) (ap (λ (b : Added). b.code) same) (ap (λ (b : Added). b.stubs) same) is.ends

      end_low : code_end rows frags a.code is.forms < 2 ^ 64
      end_low = go (code_end rows frags a.code is.forms) a.stubs (stub_size * length nodes) ends stubs_end
        where
          go : (e s n : ℕ) → e < s → s + n < 2 ^ 31 → e < 2 ^ 64
          go e s n h k = omega (arith, h, k)

      fits : length (code_bytes rows frags a.code is.forms) ≤ a.stubs - a.code
      fits = go (length (code_bytes rows frags a.code is.forms)) a.code (code_end rows frags a.code is.forms) a.stubs (code_long rows frags a.code is.forms plan end_low) ends
        where
          go : (l c e s : ℕ) → l + c ≡ e → e < s → l ≤ s - c
          go l c e s h k = omega (arith, h, k)

  -- the table of a site, with its targets in those places and the stubs in theirs
  pub site_table : (range : AddedRange) → range_of range ≡ a → (code : NewCode) (is : IsNewCode rows x kept range code) (place : ℕ → ℕ) (stub b : ℕ) → site b ≡ true
      → stub < 2 ^ 31 → ((t : ℕ) → has_node nodes t ≡ true → place t ≡ place_by rows frags a.code is.forms t) → IsTable stub (placed place (targets_of kept.edges b))
  site_table range same code is place stub b here low placed_by =
      targets_table place stub (targets_of kept.edges b) (omega (arith, low)) (few_targets b here) (targets_ascend kept.edges b)
      (each_member (λ t. t < 2 ^ 32) (targets_of kept.edges b) (λ t m. let h = node_low t (target t m) in omega (arith, h)))
      (each_member (λ t. place t < 2 ^ 32) (targets_of kept.edges b) (λ t m. place_low t (in_order t (target t m))))
    where
      target : (t : ℕ) → has_node (targets_of kept.edges b) t ≡ true → has_node kept.nodes t ≡ true
      target t m = fit.plausible.stands.ends b t (sym (has_target kept.edges b t) ∙ m)

      place_low : (t : ℕ) → has_node nodes t ≡ true → place t < 2 ^ 32
      place_low t m = let h = (place_inside range same code is t m).1 in let e = placed_by t m in go (place t) (place_by rows frags a.code is.forms t) a.stubs (stub_size * length nodes) e h stubs_end
        where
          go : (p q s n : ℕ) → p ≡ q → q < s → s + n < 2 ^ 31 → p < 2 ^ 32
          go p q s n e h k = omega (arith, e, h, k)
