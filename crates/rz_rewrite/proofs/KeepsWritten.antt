-- A rewritten file keeps each run of the original.
use Rattle.std.proofs.Common.{◌≡◌, ℕ, suc, inl, get_or, ◌+◌, ◌-◌, ◌*◌, ◌^◌, ◌<◌, ◌≤◌, Bool, true, false, nat_le, if◌then◌else◌, List, [], ◌∷◌, ◌++◌, length, drop, map, replicate, Some, None, IsTrue, IsSomeAnd, refl, sym, ap, ◌∙◌, subst, subst₂, arith, append_assoc, length-append}
use Rattle.std.specs.Option.{option_map}
use Rattle.rz_num.specs.Bytes.{are_bytes}
use Rattle.rz_isa.specs.declared.rows.Row.{Row}
use Rattle.rz_isa.specs.declared.rows.Form.{Form}
use Rattle.rz_isa.specs.declared.rows.Form.TheVariants.{Near}
use Rattle.rz_isa.specs.declared.decoding.Decoded.{Decoded}
use Rattle.rz_isa.specs.declared.decoding.Decoded.TheVariants as decodeds
use Rattle.rz_isa.specs.declared.instruction.Insn.{Insn}
use Rattle.rz_isa.specs.declared.instruction.Insn.TheVariants as insn
use Rattle.rz_isa.specs.declared.item_list.Item.{Item}
use Rattle.rz_isa.specs.declared.item_list.Label.TheVariants as label
use Rattle.rz_isa.specs.declared.item_list.Slot.{Slot}
use Rattle.rz_isa.specs.declared.fragment_list.Fragments.{Fragments}
use Rattle.rz_isa.specs.Decoded.{decoded}
use Rattle.rz_isa.specs.Items.{Addresses, slots, list_slots, slots_from, item_count, first_number, beside, label_address, resolved}
use Rattle.rz_isa.specs.Insn.{kind_of}
use Rattle.rz_isa.specs.Nodes.{Decoder, is_site, is_site_at}
use Rattle.rz_isa.specs.Plan.{place as place_of, code_end}
use Rattle.rz_image.specs.Memory.{Regions, IsInside, IsOutside, SameCell, Alike, NoSelfWritten, cell_at, fetch, wrap, zeros}
use Rattle.rz_image.specs.Laws.Cells.{IsFixed, none_self_written}
use Rattle.rz_elf.specs.Elf.{Image}
use Rattle.rz_elf.specs.Format.{int3, stub_size, stub_front, stub_bytes, all_stubs}
use Rattle.rz_elf.specs.AddedRange.{Added}
use Rattle.rz_elf.specs.PlainImage.{IsPlainImage}
use Rattle.rz_elf.specs.WrittenFile.{Parts, added_regions, without_code, new_image}
use Rattle.rz_sys.specs.declared.input.Input.{Input}
use Rattle.rz_machine.specs.declared.machine.Machine.{Machine}
use Rattle.rz_machine.specs.Added.{Layout, Places, sites, node_count, added, layout_of, index_of}
use Rattle.rz_machine.specs.Keeps.{KeepsRun}
use Rattle.rz_machine.specs.Kept.{Kept, has_node, sorted, targets_of}
use Rattle.rz_machine.specs.Lookup.{IsLookup, FixedAt, HasLookup}
use Rattle.rz_machine.specs.Tables.{IsTable, table_of, placed, site_steps}
use Rattle.rz_machine.specs.Laws.Lookups.{targets_table}
use Rattle.rz_lookup.specs.Routine.{lookup_items}
use Rattle.rz_lookup.specs.Laws.LookupRows.{lookup_closed}
use Rattle.rz_machine.specs.Nodes.{code_in}
use Rattle.rz_machine.specs.Pace.{Paced}
use Rattle.rz_machine.specs.Placement.{FragmentAt, IsPlacement, IsPlaced}
use Rattle.rz_machine.specs.Simulates.{InsnAt, ItemsFrom, HasScratch, Simulates, label_at}
use Rattle.rz_machine.specs.Start.{start, heap_region, stack_region}
use Rattle.rz_machine.specs.Laws.Code.{fetch_same}
use Rattle.rz_machine.specs.Laws.Placed.{BytesAt, bytes_front, insn_of_bytes}
use Rattle.rz_machine.specs.Laws.PlacedRuns.{placements_keep}
use Rattle.rz_machine.specs.Laws.Sets.{has_node-sorted, IsAscending-sorted}
use Rattle.rz_machine.specs.Laws.StartCode.{start_code}
use Rattle.rz_emit.specs.Emitted.{code_bytes}
use Rattle.rz_machine.specs.Sequence.{items_of, items_for, node_items}
use Rattle.rz_rewrite.specs.Fragments.{trimmed, all_tables}
use Rattle.rz_rewrite.specs.Reach.{is_out_of_reach}
use Rattle.rz_rewrite.specs.Rewritten.{IsFit, IsRewritten, bound_of, fragments_of, place_by, places_by, place_or_zero}
use Rattle.rz_rewrite.specs.Calls.Table.{TableFacts}
use Rattle.rz_rewrite.proofs.HeapRoom.{stop_below, written_room}
use Rattle.rz_rewrite.proofs.Images.{all_append, stripped_fixed, stripped_same, Whole, tables_at, code_at, stubs_at, stop_at, scratch_there, tables_there, code_there, stubs_there, beside as beside_parts, added_fixed}
use Rattle.rz_rewrite.proofs.NodeFragments.{node_some, slots_long, stub_beside}
use Rattle.rz_rewrite.proofs.KeptTargets.{each_member, has_target}
use Rattle.rz_rewrite.proofs.NewCodeLaws.{few_targets}
use Rattle.rz_rewrite.proofs.NodeItems.{in_reach, names_low, items_simulate}
use Rattle.rz_rewrite.proofs.TablesPart.{table_in, get_middle, routine_is, first_is, has_site, site_among, item_slots}
use Rattle.rz_rewrite.proofs.TargetsAscend.{targets_ascend}
use Rattle.rz_rewrite.proofs.PartRoom.{scratch_room, stubs_room, stop_low, tables_begin, lie}
use Rattle.rz_rewrite.proofs.Parts.{Lie, stub_found, index_low}
use Rattle.rz_rewrite.proofs.PlainNodes.{plain_fixed, Stands, stands, fetched_bytes}
use Rattle.rz_rewrite.proofs.Standing.{AllFrom, all_append as split_all, items_stand, ascends}
use Rattle.rz_rewrite.proofs.Standing.{Stands as StandsAt}
use Rattle.rz_rewrite.proofs.StandingFragments.{Extends, extended, EachAt, whole_stands, Found, found}

module _ (rows : List Row) (facts : TableFacts rows) (x : Image) (kept : Kept) (parts : Parts) (entry : ℕ) (forms : List Form) (fit : IsFit (decoded rows) x kept)
    (are : IsRewritten rows x kept parts entry forms) (new_plain : IsPlainImage (new_image x parts entry)) where
  abbrev dec : Decoder
  dec = decoded rows

  abbrev w : Image
  w = new_image x parts entry

  abbrev a : Added
  a = added dec x kept

  abbrev lay : Layout
  lay = layout_of dec x kept

  abbrev frags : Fragments
  frags = fragments_of dec x kept

  abbrev at : ℕ → ℕ
  at = place_of rows frags a.code forms

  abbrev place : ℕ → ℕ
  place = place_by rows frags a.code forms

  abbrev bound : ℕ → ℕ
  bound = bound_of dec x kept

  abbrev spots : Places
  spots = places_by rows frags a.code forms

  abbrev list : List ℕ
  list = sites dec (code_in x.loads) (sorted kept.nodes)

  abbrev IsKept : ℕ → Type 0
  IsKept b = has_node kept.nodes b ≡ true

  -- none of the new loads is both written and executed
  w_fixed : NoSelfWritten w.loads
  w_fixed = none_self_written w.loads (all_append IsFixed (added_regions parts) (map without_code x.loads) (added_fixed parts (map without_code x.loads)) (stripped_fixed x.loads))

  x_fixed : NoSelfWritten x.loads
  x_fixed = none_self_written x.loads (plain_fixed x.loads fit.plain)

  -- the parts lie as the layout says, at low addresses
  where_parts_lie : Lie a parts.base (length parts.tables) (length parts.code) (length parts.stubs)
  where_parts_lie = lie dec x kept fit.room parts entry are.parts_added

  top : a.stop ≤ 0x70000000
  top = stop_low dec x kept fit.room fit.plain

  page : a.scratch + 16 < 2 ^ 31
  page =
      let h = scratch_room dec x kept fit.room in
      let k = stubs_room dec x kept fit.room in
      let e = are.ends in
      go a.scratch a.code (code_end rows frags a.code forms) a.stubs (node_count kept) a.stop h (from_base a.code _) e k top
    where
      from_base : (b o : ℕ) → b ≤ b + o
      from_base b o = omega arith

      go : (s c e t n stop : ℕ) → s + 4096 ≤ c → c ≤ e → e < t → t + stub_size * n ≤ stop → stop ≤ 0x70000000 → s + 16 < 2 ^ 31
      go s c e t n stop h g i j k = omega arith

  code_below : code_end rows frags a.code forms < a.stubs
  code_below = are.ends

  code_low : code_end rows frags a.code forms < 2 ^ 64
  code_low = let k = stubs_room dec x kept fit.room in go (code_end rows frags a.code forms) a.stubs (node_count kept) a.stop code_below k top
    where
      go : (e t n stop : ℕ) → e < t → t + stub_size * n ≤ stop → stop ≤ 0x70000000 → e < 2 ^ 64
      go e t n stop h i j = omega arith

  code_before : a.code ≤ a.stubs
  code_before = go a.code _ a.stubs code_below
    where
      go : (c o s : ℕ) → c + o < s → c ≤ s
      go c o s h = omega (arith, h)

  code_top : a.code < 2 ^ 31
  code_top = go a.code a.stubs (node_count kept) a.stop code_before (stubs_room dec x kept fit.room) top
    where
      go : (c s n stop : ℕ) → c ≤ s → s + stub_size * n ≤ stop → stop ≤ 0x70000000 → c < 2 ^ 31
      go c s n stop h i j = omega (arith, h, i, j)

  scratch_low : a.scratch + 4096 < 2 ^ 31
  scratch_low = let h = scratch_room dec x kept fit.room in let k = code_top in omega (arith, h, k)

  node_low : (b : ℕ) → IsKept b → b < 2 ^ 31
  node_low b m =
      let node = fit.plausible.stands.nodes b m in
      let h = (stands rows facts x fit.plain b node.insn node.len node.spelled).low in
      omega (arith, h)

  module _ (input : Input) where
    abbrev old : Machine
    old = start x input

    abbrev new : Machine
    new = start w input

    -- the heap and the stack
    abbrev ends : Regions
    ends = heap_region x.first_break ∷ stack_region input ∷ []

    abbrev rest : Regions
    rest = map without_code x.loads ++ ends

    -- the new run's memory begins with the added parts
    new_mem : new.mem ≡ Whole parts rest
    new_mem = append_assoc (added_regions parts) (map without_code x.loads) ends

    -- both memories are alike at the start
    alike : Alike lay.added old.mem new.mem
    alike = record { at = same }
      where
        outside : (b : ℕ) → IsOutside lay.added b → IsOutside (record { low = parts.base; high = stop_at parts rest }) b
        outside b out =
            let P : ℕ → ℕ → Type 0 = λ l h. IsOutside (record { low = l; high = h }) b in
            subst₂ P (sym where_parts_lie.scratch) (sym where_parts_lie.stop) out

        same : (b : ℕ) → IsOutside lay.added b → SameCell (cell_at old.mem b) (cell_at new.mem b)
        same b out = rw (new_mem, beside_parts parts rest b (outside b out)) (stripped_same x.loads ends b)

    -- the scratch page may be read and written
    scratch_page : HasScratch lay.added.low lay.added new.mem
    scratch_page = record {
      first = refl;
      last =
          let h = scratch_room dec x kept fit.room in
          let k = stubs_room dec x kept fit.room in
          last a.scratch a.code (code_end rows frags a.code forms) a.stubs (node_count kept) a.stop h (from_base a.code _) are.ends k;
      top = top;
      readable = λ b low high. (page_cell b low high).0;
      writable = λ b low high. (page_cell b low high).1;
    }
      where
        from_base : (b o : ℕ) → b ≤ b + o
        from_base b o = omega arith

        last : (s c e t n stop : ℕ) → s + 4096 ≤ c → c ≤ e → e < t → t + stub_size * n ≤ stop → s + 4096 ≤ stop
        last s c e t n stop h g i j = omega arith

        page_cell : (b : ℕ) → a.scratch ≤ b → b < a.scratch + 4096 → ((cell_at new.mem b).read ≡ true) × ((cell_at new.mem b).write ≡ true)
        page_cell b low high =
            let P : Regions → Type 0 = λ m. ((cell_at m b).read ≡ true) × ((cell_at m b).write ≡ true) in
            let base = where_parts_lie.scratch in
            subst P (sym new_mem) (scratch_there parts rest b (omega (arith, low, base)) (omega (arith, high, base)))

    -- the items stand in the code part
    abbrev fill : List ℕ
    fill = replicate (a.stubs - a.code - length (code_bytes rows frags a.code forms)) int3

    code_there_new : BytesAt new.mem a.code (code_bytes rows frags a.code forms ++ fill)
    code_there_new =
        let P : Regions → ℕ → Type 0 = λ m p. BytesAt m p (code_bytes rows frags a.code forms ++ fill) in
        subst (λ p. P new.mem p) where_parts_lie.code (subst (λ m. P m (code_at parts rest)) (sym new_mem) (subst (BytesAt (Whole parts rest) (code_at parts rest)) are.code (code_there parts rest)))

    -- and the stubs in theirs
    stubs_there_new : BytesAt new.mem a.stubs parts.stubs
    stubs_there_new =
        subst (λ p. BytesAt new.mem p parts.stubs) where_parts_lie.stubs (subst (λ m. BytesAt m (stubs_at parts rest) parts.stubs) (sym new_mem) (stubs_there parts rest))

    -- what may be executed are bytes
    executed : (p : ℕ) → IsTrue (are_bytes (fetch new.mem p 15))
    executed p =
        let P : List ℕ → Type 0 = λ l. IsTrue (are_bytes l) in
        subst P (fetch_same w.loads new.mem p 15 (start_code w input w_fixed).same) (fetched_bytes w new_plain p)

    abbrev Each : ℕ → Slot → Type 0
    Each = StandsAt rows facts.back facts.short frags a.code forms new.mem executed are.plan code_low

    both_items : AllFrom Each 0 (slots_from 0 frags.list) × AllFrom Each (0 + length (slots_from 0 frags.list)) (list_slots (item_count frags.list) frags.routine)
    both_items = split_all Each 0 (slots_from 0 frags.list) (list_slots (item_count frags.list) frags.routine) (items_stand rows facts.back facts.short frags a.code forms new.mem executed are.plan code_low fill code_there_new)

    abbrev its : ℕ → List Item
    its = node_items dec (code_in x.loads) a.scratch kept.edges

    -- items of one list that stand in the order, from a number on
    module _ (first long : ℕ) where
      abbrev far : Addresses
      far = label_at lay spots (λ k. at (first + k))

      abbrev slot : Item → Slot
      slot i = record { item = i; first = first; stop = first + long }

      -- what their labels name
      more : (i : Item) → Extends (label_address frags at (slot i)) far
      more i (label.Place c) t e = ap (λ o. Some (place_or_zero o)) e
      more i (label.Stub c) t e = ap Some (stub_beside (sorted kept.nodes) a.stubs c t e)
      more i (label.Item k) t e = go (nat_le (first + k) (first + long)) e
        where
          go : (v : Bool) → option_map at (if v then Some (first + k) else None) ≡ Some t → Some (at (first + k)) ≡ Some t
          go true f = f
          go false f = absurd (cc)
      more i (label.Table c) t e = ap (λ o. Some (place_or_zero o)) e
      more i label.Routine t e = ap (λ o. Some (place_or_zero o)) e

      each_at : (k : ℕ) (l : List Item) → AllFrom Each (first + k) (map slot l) → EachAt dec new.mem far (λ k. at (first + k)) k l
      each_at k [] h = tt
      each_at k (i ∷ l) h =
          let e : suc (first + k) ≡ first + suc k = omega arith in
          let here = extended (label_address frags at (slot i)) far (more i) (λ y. InsnAt dec new.mem (at (first + k)) y (at (suc (first + k)))) i h.0 in
          (subst (λ q. IsSomeAnd (resolved far i) (λ y. InsnAt dec new.mem (at (first + k)) y (at q))) e here, each_at (suc k) l (subst (λ n. AllFrom Each n (map slot l)) e h.1))

      -- a whole list
      all_stand : (k : ℕ) (l : List Item) → EachAt dec new.mem far (λ k. at (first + k)) k l → ItemsFrom dec new.mem far (λ k. at (first + k)) k (at (first + k)) l
      all_stand k [] h = refl
      all_stand k (i ∷ l) h = (refl, inl (at (first + suc k), h.0, all_stand (suc k) l h.1))

    -- the fragment of each kept node stands
    module _ (b : ℕ) (node : IsKept b) where
      spot : Found its (node_some dec (code_in x.loads) a.scratch kept.edges) Each 0 (sorted kept.nodes) b
      spot = found its (node_some dec (code_in x.loads) a.scratch kept.edges) Each (sorted kept.nodes) 0 b (IsAscending-sorted kept.nodes) (has_node-sorted kept.nodes b ∙ node) both_items.0

      abbrev own : ℕ → ℕ
      own k = at (spot.number + k)

      abbrev trim : List Item
      trim = trimmed spot.following (its b)

      begins : own 0 ≡ place b
      begins = let e : spot.number + 0 ≡ spot.number = omega arith in ap at e ∙ sym (ap (λ o. place_or_zero (option_map at o)) spot.is)

      whole : ItemsFrom dec new.mem (far spot.number (length trim)) own 0 (place b) (its b)
      whole =
          let zero_on : spot.number ≡ spot.number + 0 = omega arith in
          let each = each_at spot.number (length trim) 0 trim (subst (λ n. AllFrom Each n (list_slots spot.number trim)) zero_on spot.pass) in
          let ends : (c : ℕ) → spot.following ≡ Some c → own (0 + length trim) ≡ place c =
          λ c f. let e : spot.number + (0 + length trim) ≡ spot.number + length trim = omega arith in ap at e ∙ sym (ap (λ o. place_or_zero (option_map at o)) (spot.next c f)) in
          subst (λ p. ItemsFrom dec new.mem (far spot.number (length trim)) own 0 p (its b)) begins (whole_stands dec new.mem (far spot.number (length trim)) own place (λ c. refl) spot.following 0 (its b) ends each)

      inside : IsInside lay.code (place b)
      inside = subst (IsInside lay.code) begins (from_base a.code _, lower (own 0) (code_end rows frags a.code forms) a.stubs before code_below)
        where
          from_base : (b o : ℕ) → b ≤ b + o
          from_base b o = omega arith

          lower : (p e t : ℕ) → p ≤ e → e < t → p < t
          lower p e t h k = omega arith

          few : spot.number ≤ length (slots frags)
          few = go spot.number (length trim) (item_count frags.list) _ spot.within (item_slots frags)
            where
              go : (n l c s : ℕ) → n + l ≤ 0 + c → c ≤ s → n ≤ s
              go n l c s h e = omega (arith, h, e)

          before : own 0 ≤ code_end rows frags a.code forms
          before =
              let d : ℕ = length (slots frags) - spot.number in
              let e : spot.number + d ≡ length (slots frags) = fill_up spot.number (length (slots frags)) few in
              let f : spot.number + 0 ≡ spot.number = omega arith in
              let h = ascends rows frags a.code forms spot.number d in
              let P : ℕ → Type 0 = λ n. at (spot.number + 0) ≤ at n in
              subst P e (subst (λ n. at n ≤ at (spot.number + d)) (sym f) (up a.code _ _ h))
            where
              up : (b u v : ℕ) → u ≤ v → b + u ≤ b + v
              up b u v h = omega (arith, h)

              fill_up : (n l : ℕ) → n ≤ l → n + (l - n) ≡ l
              fill_up n l h = omega (arith, h)

      fragment_at : (y : Insn) (len : ℕ) → Stands rows facts x fit.plain b y len → FragmentAt dec kept.edges lay spots (bound b) new.mem b (wrap (b + len)) y
      fragment_at y len s =
          let n : ℕ = wrap (b + len) in
          let low : n < 2 ^ 31 = wrapped (b + len) s.low in
          let same : its b ≡ items_of a.scratch kept.edges b n y = ap (items_for a.scratch kept.edges b) s.spelled in
          let site : is_site (kind_of y) ≡ is_site_at dec (code_in x.loads) b = sym (ap site_in_of s.spelled) in
          let reach : is_out_of_reach (decodeds.Insn y len) ≡ false = ap is_out_of_reach (sym s.spelled) ∙ in_reach dec (code_in x.loads) (sorted kept.nodes) b fit.reach (has_node-sorted kept.nodes b ∙ node) in
          let steps : Bool → ℕ = λ v. site_steps (if v then length (targets_of kept.edges b) else 0) in
          let P : Bool → Type 0 = λ v. Simulates dec a.scratch (steps v) (targets_of kept.edges b) b n y (items_of a.scratch kept.edges b n y) in
          let few : is_site (kind_of y) ≡ true → length (targets_of kept.edges b) < 2 ^ 28 = λ is. few_targets rows facts x kept fit b (sym site ∙ is) in
          record {
            items = items_of a.scratch kept.edges b n y;
            own = own;
            simulates = subst P site (items_simulate rows facts x kept a.scratch page node_low fit.plausible.stands.ends b n y low (names_low y reach) (_, b, s.spells) few);
            stand = subst (ItemsFrom dec new.mem (far spot.number (length trim)) own 0 (place b)) same whole;
            inside = inside;
          }
        where
          wrapped : (v : ℕ) → v ≤ 0x70000000 → wrap v < 2 ^ 31
          wrapped v h = omega arith

          site_in_of : Decoded → Bool
          site_in_of d = is_site_at (λ bs at. d) (code_in x.loads) b

    -- where there is a site, the routine stands
    routine_at : (b : ℕ) → has_node list b ≡ true → IsLookup dec lay new.mem a.scratch spots.routine
    routine_at b site =
        facts.routine_looks_up a.scratch lay (far count (length frags.routine)) (λ k. at (count + k)) new.mem spots.routine (λ k. refl)
        (subst₂ (λ p l. ItemsFrom dec new.mem (far count (length frags.routine)) (λ k. at (count + k)) 0 p l) begin same (all_stand count (length frags.routine) 0 frags.routine (each_at count (length frags.routine) 0 frags.routine there)))
        scratch_page
      where
        count : ℕ
        count = item_count frags.list

        same : frags.routine ≡ lookup_items a.scratch
        same = routine_is a.scratch b (sites dec (code_in x.loads) (sorted kept.nodes)) site

        there : AllFrom Each (item_count frags.list + 0) (list_slots (item_count frags.list) frags.routine)
        there =
            let e : 0 + length (slots_from 0 frags.list) ≡ item_count frags.list + 0 = let l = slots_long 0 frags.list in omega (arith, l) in
            subst (λ n. AllFrom Each n (list_slots (item_count frags.list) frags.routine)) e both_items.1

        begin : at (item_count frags.list + 0) ≡ spots.routine
        begin =
            let e : item_count frags.list + 0 ≡ item_count frags.list = omega arith in
            let some = (lookup_closed a.scratch).some in
            ap at e ∙ sym (ap (λ o. place_or_zero (option_map at o)) (ap (first_number (item_count frags.list)) same ∙ first_is (item_count frags.list) (lookup_items a.scratch) some))

    -- and so does the site's table
    has_lookup : (b : ℕ) → IsKept b → has_node list b ≡ true → HasLookup dec a.scratch lay spots (targets_of kept.edges b) b new.mem
    has_lookup b node site = record { routine = routine_at b site; is_table = is; table = there }
      where
        ts : List ℕ
        ts = targets_of kept.edges b

        target_kept : (t : ℕ) → has_node (targets_of kept.edges b) t ≡ true → IsKept t
        target_kept t m = fit.plausible.stands.ends b t (sym (has_target kept.edges b t) ∙ m)

        place_low : (t : ℕ) → IsKept t → place t < 2 ^ 31
        place_low t m = let i = inside t m in go (place t) a.stubs (node_count kept) a.stop i.1 (stubs_room dec x kept fit.room) top
          where
            go : (p s n stop : ℕ) → p < s → s + stub_size * n ≤ stop → stop ≤ 0x70000000 → p < 2 ^ 31
            go p s n stop h i j = omega arith

        stub_low : lay.stub b < 2 ^ 31
        stub_low = go a.stubs (index_of (sorted kept.nodes) b) (node_count kept) a.stop (index_low (sorted kept.nodes) b) (stubs_room dec x kept fit.room) top
          where
            go : (t i n stop : ℕ) → i ≤ n → t + stub_size * n ≤ stop → stop ≤ 0x70000000 → t + stub_size * i < 2 ^ 31
            go t i n stop h g j = omega arith

        is : IsTable (lay.stub b) (placed place (targets_of kept.edges b))
        is =
            targets_table place (lay.stub b) (targets_of kept.edges b) (omega (arith, stub_low))
            (few_targets rows facts x kept fit b (site_among (is_site_at dec (code_in x.loads)) (sorted kept.nodes) b site)) (targets_ascend kept.edges b)
            (each_member (λ t. t < 2 ^ 32) (targets_of kept.edges b) (λ t m. let h = node_low t (target_kept t m) in omega (arith, h)))
            (each_member (λ t. place t < 2 ^ 32) (targets_of kept.edges b) (λ t m. let h = place_low t (target_kept t m) in omega (arith, h)))

        fill : List ℕ
        fill = zeros (a.code - a.tables - length (all_tables (targets_of kept.edges) place lay.stub (sites dec (code_in x.loads) (sorted kept.nodes))))

        found_in : (front : List ℕ) × (back : List ℕ) × (parts.tables ≡ front ++ (table_of (lay.stub b) (placed place (targets_of kept.edges b)) ++ back))
            × (beside frags.tables b ≡ Some (a.tables + length front))
        found_in =
            let t = table_in kept.edges place lay.stub (sites dec (code_in x.loads) (sorted kept.nodes)) a.tables b fill site in
            (t.0, t.1, are.tables ∙ t.2, t.3)

        abbrev_bytes : List ℕ
        abbrev_bytes = table_of (lay.stub b) (placed place (targets_of kept.edges b))

        long : length found_in.0 + (length (table_of (lay.stub b) (placed place (targets_of kept.edges b))) + length found_in.1) ≡ length parts.tables
        long =
            sym (ap length found_in.2 ∙ length-append found_in.0 (table_of (lay.stub b) (placed place (targets_of kept.edges b)) ++ found_in.1)
            ∙ ap (λ n. length found_in.0 + n) (length-append (table_of (lay.stub b) (placed place (targets_of kept.edges b))) found_in.1))

        begin : spots.table b ≡ tables_at parts rest + length found_in.0
        begin =
            let at_base : parts.base + 4096 ≡ a.tables = ap (λ n. n + 4096) where_parts_lie.scratch ∙ tables_begin dec x kept fit.room in
            ap place_or_zero found_in.3 ∙ ap (λ n. n + length found_in.0) (sym at_base)

        cell : (k : ℕ) → k < length (table_of (lay.stub b) (placed place (targets_of kept.edges b)))
            → ((cell_at new.mem (spots.table b + k)).byte ≡ get_or (table_of (lay.stub b) (placed place (targets_of kept.edges b))) k 0)
            × ((cell_at new.mem (spots.table b + k)).read ≡ true) × ((cell_at new.mem (spots.table b + k)).write ≡ false)
        cell k h =
            let i : ℕ = length found_in.0 + k in
            let c = tables_there parts rest i (let l = long in omega (arith, l, h)) in
            let e : tables_at parts rest + i ≡ spots.table b + k = let f = begin in omega (arith, f) in
            let Q : Regions → ℕ → Type 0 = λ m p. ((cell_at m p).byte ≡ get_or parts.tables i 0) × ((cell_at m p).read ≡ true) × ((cell_at m p).write ≡ false) in
            let d = subst (λ m. Q m (spots.table b + k)) (sym new_mem) (subst (Q (Whole parts rest)) e c) in
            (d.0 ∙ ap (λ l. get_or l i 0) found_in.2 ∙ get_middle found_in.0 (table_of (lay.stub b) (placed place (targets_of kept.edges b))) found_in.1 k h, d.1, d.2)

        there : FixedAt a.scratch lay.added new.mem (spots.table b) (table_of (lay.stub b) (placed place (targets_of kept.edges b)))
        there = record {
          behind = lower (spots.table b) parts.base a.scratch (length found_in.0) begin where_parts_lie.scratch;
          inside = upper (spots.table b) parts.base (length found_in.0) _ (length found_in.1) (length parts.tables) a.code a.stubs (node_count kept) a.stop begin long where_parts_lie.code code_before (stubs_room dec x kept fit.room);
          stand = record { same = λ k h. (cell k h).0; readable = λ k h. (cell k h).1 };
          fixed = λ k h. (cell k h).2;
        }
          where
            lower : (p base s f : ℕ) → p ≡ base + 4096 + f → base ≡ s → s + 4096 ≤ p
            lower p base s f e g = omega (arith, e, g)

            upper : (p base f m l t c s n stop : ℕ) → p ≡ base + 4096 + f → f + (m + l) ≡ t → base + 4096 + t ≡ c → c ≤ s → s + stub_size * n ≤ stop → p + m ≤ stop
            upper p base f m l t c s n stop e g h i j = omega (arith, e, g, h, i, j)

    -- a kept node's stub begins with UD2
    stub_at : (b : ℕ) → IsKept b → InsnAt dec new.mem (lay.stub b) insn.Ud2 (lay.stub b + 2)
    stub_at b node =
        let p : ℕ = lay.stub b in
        let nodes : List ℕ = sorted kept.nodes in
        let pad : List ℕ = replicate (a.stop - a.stubs - length (all_stubs a.stubs nodes)) int3 in
        let bytes : BytesAt new.mem a.stubs (all_stubs a.stubs nodes ++ pad) = subst (BytesAt new.mem a.stubs) are.parts_added.stubs stubs_there_new in
        let whole : BytesAt new.mem p (stub_bytes p b) = stub_found new.mem a.stubs b nodes pad (has_node-sorted kept.nodes b ∙ node) bytes in
        let there : BytesAt new.mem p stub_front = bytes_front new.mem p stub_front (drop (length stub_front) (stub_bytes p b)) whole in
        let low : p + 2 < 2 ^ 64 = far a.stubs (index_of nodes b) (node_count kept) a.stop (index_low nodes b) (stubs_room dec x kept fit.room) top in
        insn_of_bytes dec new.mem p insn.Ud2 stub_front there (omega arith) low (executed p) (facts.back insn.Ud2 p Near stub_front (facts.emits.ud2 p))
      where
        far : (t i n stop : ℕ) → i ≤ n → t + stub_size * n ≤ stop → stop ≤ 0x70000000 → t + stub_size * i + 2 < 2 ^ 64
        far t i n stop h g j = omega arith

    abbrev site_in_of : ℕ → Decoded → Bool
    site_in_of b d = is_site_at (λ bs at. d) (code_in x.loads) b

    -- so the new memory has a placement of what is kept
    placement : IsPlacement dec x kept lay spots bound new.mem
    placement =
        record {
          fragments = λ b node y len fetched. fragment_at b node y len (stands rows facts x fit.plain b y len fetched);
          stubs = λ b node. (stub_at b node, tt);
          lookups = λ b node y len fetched is.
              let site = has_site (is_site_at dec (code_in x.loads)) (sorted kept.nodes) b (has_node-sorted kept.nodes b ∙ node) (ap (site_in_of b) fetched ∙ is) in
              has_lookup b node site;
          scratch = scratch_page;
        }

  pub placed_written : IsPlaced dec x w kept lay spots bound
  placed_written =
      let below = stop_below dec x kept fit.heap in
      let stop = where_parts_lie.stop in
      record {
        begins = are.begins;
        first_break = refl;
        old_heap = fit.heap;
        new_heap = written_room x parts entry fit.heap (omega (arith, below, stop));
        below = below;
        alike = alike;
        placement = placement;
      }

  -- the new file's run keeps the old one's, with one to so many steps for each
  pub both_written : (input : Input) → KeepsRun dec kept.edges lay (start x input) (start w input) × Paced dec kept.edges lay bound (start x input) (start w input)
  both_written input = placements_keep dec x w kept lay spots bound fit.plausible x_fixed w_fixed placed_written input
