-- The stubs of a written file: each is found at its place, with its address as its word.
use Rattle.std.proofs.Common.{◌≡◌, ℕ, ◌+◌, ◌-◌, ◌*◌, ◌%◌, ◌^◌, ◌≤◌, ◌<◌, Bool, true, false, ◌&&◌, ◌||◌, nat_le, if◌then◌else◌, ◌==◌, List, [], ◌∷◌, ◌++◌, length, map, drop, Option, Some, None, refl, sym, ap, ap₂, ◌∙◌, arith, length-append, length-drop, append_assoc, eqb-true}
use Rattle.std.specs.Prelude.{option_and_then}
use Rattle.std.specs.List.{AllByRecursion, slice_get}
use Rattle.std.proofs.lemmas.List.{drop-drop}
use Rattle.std.proofs.lemmas.Bool.Decides.{nat_tests}
use Rattle.byteorder.specs.Endian.{little_number}
use Rattle.byteorder.specs.Numbers.{little_number-reads_back}
use Rattle.rz_image.specs.declared.region.Region.{Region}
use Rattle.rz_image.specs.Perm.{read_execute}
use Rattle.rz_image.specs.Memory.{Regions, contains, whole_region}
use Rattle.rz_elf.specs.declared.placed.Placed.{Placed}
use Rattle.rz_elf.specs.Format.{stub_size, stub_word_at, stubs_load, stub_filler, stub_bytes, all_stubs, stamp_number}
use Rattle.rz_elf.specs.AddedRange.{Added, scratch_size, stubs_part, parts_below}
use Rattle.rz_elf.specs.Elf.{Image, image_of}
use Rattle.rz_elf.specs.Loaded.{elf_of, load_of, loaded, loaded_region}
use Rattle.rz_elf.specs.Stamped.{stamp_of}
use Rattle.rz_elf.specs.WrittenFile.{Parts, new_image}
use Rattle.rz_elf.specs.Laws.Reading.{load_headers, accepted_loads, loaded-elf_of}
use Rattle.rz_elf.specs.Laws.Sound.{IsSoundLoad}
use Rattle.rz_elf.specs.Laws.Stamp.{written_stamped}
use Rattle.rz_machine.specs.declared.machine.End.{End}
use Rattle.rz_machine.specs.Added.{added, index_of}
use Rattle.rz_machine.specs.Kept.{has_node, sorted}
use Rattle.rz_machine.specs.Stub.{word_in, stub_in, stub_at, illegal_stub, StubsNameNodes}
use Rattle.rz_machine.specs.Laws.Sets.{has_node-sorted}

-- a list from the stub of an address on, wherever that stands
record StubFrom (stubs : List ℕ) (place a : ℕ) : Type 0 where
  at : ℕ
  rest : List ℕ
  begins : drop place stubs ≡ stub_bytes at a ++ rest

-- the stubs in turn, and what fills them up
found : (from : ℕ) (nodes : List ℕ) (a : ℕ) (fill : List ℕ) → has_node nodes a ≡ true → StubFrom (all_stubs from nodes ++ fill) (stub_size * index_of nodes a) a
found from [] a fill h = absurd (cc)
found from (b ∷ nodes) a fill h = go (b == a) refl (found (from + stub_size) nodes a fill)
  where
    here : Bool → ℕ
    here t = if t then 0 else 1 + index_of nodes a

    others : List ℕ
    others = all_stubs (from + stub_size) nodes ++ fill

    go : (t : Bool) → (b == a) ≡ t → (has_node nodes a ≡ true → StubFrom others (stub_size * index_of nodes a) a) → StubFrom (all_stubs from (b ∷ nodes) ++ fill) (stub_size * here (b == a)) a
    go true e ih =
        let same : b ≡ a = eqb-true b a e in
        record {
          at = from;
          rest = others;
          begins =
              ap (λ t. drop (stub_size * here t) (all_stubs from (b ∷ nodes) ++ fill)) e
              ∙ append_assoc (stub_bytes from b) (all_stubs (from + stub_size) nodes) fill
              ∙ ap (λ (n : ℕ). stub_bytes from n ++ others) same;
        }
    go false e ih =
        let later : has_node nodes a ≡ true = ap (λ t. t || has_node nodes a) (sym e) ∙ h in
        let r = ih later in
        let on : stub_size * here false ≡ stub_size + stub_size * index_of nodes a = omega arith in
        record {
          at = r.at;
          rest = r.rest;
          begins =
              ap (λ t. drop (stub_size * here t) (all_stubs from (b ∷ nodes) ++ fill)) e
              ∙ ap (λ (n : ℕ). drop n (all_stubs from (b ∷ nodes) ++ fill)) on
              ∙ sym (drop-drop (stub_size * index_of nodes a) stub_size (all_stubs from (b ∷ nodes) ++ fill))
              ∙ r.begins;
        }

-- where a stub begins, it is found with its address
stub_in-begins : (r : Region) (place a : ℕ) → a < 2 ^ 64 → place % stub_size ≡ 0 → StubFrom r.bytes place a → stub_in (r.base + place) r ≡ Some a
stub_in-begins r place a low whole f =
    let long = ap length f.begins in
    let left = length-drop place r.bytes in
    let size = length-append (stub_bytes f.at a) f.rest in
    let room : place + stub_size ≤ length r.bytes = omega arith in
    let off : r.base + place - r.base ≡ place = omega arith in
    let inside : contains r (r.base + place) ≡ true = grind (arith, nat_tests) in
    let first : ((r.base + place - r.base) % stub_size == 0) ≡ true = rw off (grind (arith, nat_tests)) in
    let fits : nat_le (place + stub_word_at + 8) (length r.bytes) ≡ true = grind (arith, nat_tests) in
    let word : drop (place + stub_word_at) r.bytes ≡ drop stub_word_at (stub_bytes f.at a ++ f.rest) = sym (drop-drop stub_word_at place r.bytes) ∙ ap (drop stub_word_at) f.begins in
    let number : little_number 8 (drop (place + stub_word_at) r.bytes) ≡ a = ap (little_number 8) word ∙ little_number-reads_back 8 a (stub_filler ++ f.rest) low in
    ap (λ b. if b then word_in r (r.base + place - r.base + stub_word_at) else None) (ap₂ ◌&&◌ inside first)
    ∙ ap (λ n. word_in r (n + stub_word_at)) off
    ∙ ap (λ b. if b then Some (little_number 8 (drop (place + stub_word_at) r.bytes)) else None) fits
    ∙ ap Some number

-- the lowest load of an accepted file
low_first : (len : ℕ) (bytes : List ℕ) (ps : List Placed) (r : Region) (rest : Regions) → AllByRecursion (IsSoundLoad len) ps → map (loaded_region bytes) (map load_of ps) ≡ r ∷ rest → 0x10000 ≤ r.base
low_first len bytes [] r rest h e = absurd (cc)
low_first len bytes (p ∷ ps) r rest h e =
    let base : p.segment.vaddr ≡ r.base = let all = e in cc in
    let low = h.0.low in
    omega arith

-- where the stubs begin, by the sizes of the parts before them
stubs_behind : (t c s stop tables code : ℕ) → 0x10000 ≤ (parts_below t c s stop).scratch → tables ≡ (parts_below t c s stop).code - (parts_below t c s stop).tables → code ≡ (parts_below t c s stop).stubs - (parts_below t c s stop).code
    → (parts_below t c s stop).stubs ≡ (parts_below t c s stop).scratch + scratch_size + tables + code
stubs_behind t c s stop tables code low e f = omega arith

pub stubs_name_nodes : StubsNameNodes
stubs_name_nodes dec x w kept inert n low node s ended =
    let a : Added = added dec (image_of x) kept in
    let nodes : List ℕ = sorted kept.nodes in
    let p : Parts = record { base = a.scratch; tables = inert.tables; code = inert.code; stubs = stubs_part a nodes } in
    let r : Region = whole_region (p.base + scratch_size + length p.tables + length p.code) p.stubs read_execute in
    let stamped : stamp_of (elf_of w) ≡ Some stamp_number = written_stamped w x p inert.entry inert.bytes inert.image in
    let loads : (loaded (elf_of w)).loads ≡ (new_image (image_of x) p inert.entry).loads = ap (λ (i : Image). i.loads) (loaded-elf_of w ∙ inert.image) in
    let fourth : slice_get (loaded (elf_of w)).loads stubs_load ≡ Some r = ap (λ (l : Regions). slice_get l stubs_load) loads in
    let base : 0x10000 ≤ a.scratch = low_first (length w) w (load_headers w) _ _ (accepted_loads w inert.accepted) loads in
    let begin : a.stubs ≡ r.base = stubs_behind _ _ _ _ (length inert.tables) (length inert.code) base inert.tables_long inert.code_long in
    let place : ℕ = stub_size * index_of nodes n in
    let whole : place % stub_size ≡ 0 = omega arith in
    let at : a.stubs + place ≡ r.base + place = ap (λ (k : ℕ). k + place) begin in
    let stub : StubFrom r.bytes place n = found a.stubs nodes n _ (has_node-sorted kept.nodes n ∙ node) in
    ap (λ (o : Option End). option_and_then (λ why. option_and_then (λ (k : ℕ). illegal_stub (elf_of w) why) (stamp_of (elf_of w))) o) ended
    ∙ ap (λ (o : Option ℕ). option_and_then (λ (k : ℕ). stub_at (elf_of w) (a.stubs + place)) o) stamped
    ∙ ap (λ (o : Option Region). option_and_then (stub_in (a.stubs + place)) o) fourth
    ∙ ap (λ (k : ℕ). stub_in k r) at
    ∙ stub_in-begins r place n low whole stub
