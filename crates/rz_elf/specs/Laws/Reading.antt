-- What the passes over a file say of its fault.
use Rattle.std.proofs.Common.{◌≡◌, ℕ, ◌+◌, ◌*◌, ◌≤◌, List, [], ◌∷◌, ◌++◌, length, map, filter, Some, None, refl, sym, ap, ◌∙◌, arith}
use Rattle.std.specs.List.{AllByRecursion}
use Rattle.std.proofs.lemmas.Bool.Decides.{nat_tests}
use Rattle.rz_num.specs.Page.{page_up}
use Rattle.rz_elf.specs.declared.fault.ElfFault.{ElfFault}
use Rattle.rz_elf.specs.Elf.{Placed, Condition, first_of, file_header, placed, loads, file_conditions, header_conditions, load_conditions, fault_of, highest_end, load_region, image_of}
use Rattle.rz_elf.specs.Loaded.{is_load_header, load_of, elf_of, loaded_region, loaded, IsLow}
use Rattle.rz_elf.specs.Laws.Conditions.{none_holds, first_of_none, first_none, second_none, first_left, first_right}
use Rattle.rz_elf.specs.Laws.HeaderList.{loads_placed, few_loads}
use Rattle.rz_elf.specs.Laws.Sound.{IsSoundLoad, sound, sound_loads, low_loads}

module _ (x : List ℕ) where
  abbrev of_file : List Condition
  of_file = file_conditions x

  abbrev of_headers : List Condition
  of_headers = header_conditions (length x) (placed x)

  -- the headers that are loads
  abbrev pub load_headers : List Placed
  load_headers = filter is_load_header (placed x)

  abbrev of_loads : List Condition
  of_loads = load_conditions (file_header x).entry (map (λ (p : Placed). p.segment) load_headers)

  same_loads : of_loads ≡ load_conditions (file_header x).entry (loads x)
  same_loads = ap (load_conditions (file_header x).entry) (loads_placed x)

  pub file_faulty : (f : ElfFault) → Some f ≡ first_of of_file → fault_of x ≡ Some f
  unfolding fault_of
  file_faulty f h = first_left of_file (of_headers ++ load_conditions (file_header x).entry (loads x)) f (sym h)

  pub header_faulty : (f : ElfFault) → None ≡ first_of of_file → Some f ≡ first_of of_headers → fault_of x ≡ Some f
  unfolding fault_of
  header_faulty f h k = first_right of_file (of_headers ++ load_conditions (file_header x).entry (loads x)) (sym h) ∙ first_left of_headers (load_conditions (file_header x).entry (loads x)) f (sym k)

  pub load_faulty : (f : ElfFault) → None ≡ first_of of_file → None ≡ first_of of_headers → Some f ≡ first_of of_loads → fault_of x ≡ Some f
  unfolding fault_of
  load_faulty f h k l = first_right of_file (of_headers ++ load_conditions (file_header x).entry (loads x)) (sym h) ∙ first_right of_headers (load_conditions (file_header x).entry (loads x)) (sym k) ∙ ap first_of (sym same_loads) ∙ sym l

  pub faultless : None ≡ first_of of_file → None ≡ first_of of_headers → None ≡ first_of of_loads → fault_of x ≡ None
  unfolding fault_of
  faultless h k l = first_right of_file (of_headers ++ load_conditions (file_header x).entry (loads x)) (sym h) ∙ first_right of_headers (load_conditions (file_header x).entry (loads x)) (sym k) ∙ ap first_of (sym same_loads) ∙ sym l

  -- a file without a fault has none at its headers
  pub headers_faultless : fault_of x ≡ None → first_of of_headers ≡ None
  unfolding fault_of
  headers_faultless h =
      let ls = load_conditions (file_header x).entry (loads x) in
      first_of_none of_headers (first_none of_headers ls (second_none of_file (of_headers ++ ls) (none_holds (of_file ++ (of_headers ++ ls)) h)))

  -- nor as a whole
  pub file_faultless : fault_of x ≡ None → None ≡ first_of of_file
  unfolding fault_of
  file_faultless h =
      let rest = of_headers ++ load_conditions (file_header x).entry (loads x) in
      sym (first_of_none of_file (first_none of_file rest (none_holds (of_file ++ rest) h)))

  -- nor at its loads
  pub loads_faultless : fault_of x ≡ None → first_of (load_conditions (file_header x).entry (loads x)) ≡ None
  unfolding fault_of
  loads_faultless h =
      let ls = load_conditions (file_header x).entry (loads x) in
      first_of_none ls (second_none of_headers ls (second_none of_file (of_headers ++ ls) (none_holds (of_file ++ (of_headers ++ ls)) h)))

  -- the file header is whole
  pub whole_header : fault_of x ≡ None → 64 ≤ length x
  whole_header h = let t = (none_holds of_file (sym (file_faultless h))).1.0 in grind (arith, nat_tests, t)

  -- the program headers are in the file
  pub table_fits : None ≡ first_of of_file → (file_header x).table_at + 56 * (file_header x).count ≤ length x
  table_fits h = let t = (none_holds of_file (sym h)).1.1.1.1.1.1.1.1.1.1.1.0 in grind (arith, nat_tests, t)

  pub few_headers : None ≡ first_of of_file → (file_header x).count ≤ 64
  few_headers h = let t = (none_holds of_file (sym h)).1.1.1.1.1.1.1.1.1.1.0 in grind (arith, nat_tests, t)

  pub few_load_headers : None ≡ first_of of_file → length load_headers ≤ 64
  few_load_headers h = let a = few_headers h in let b = few_loads x in omega (arith, a, b)

  -- the loads of an accepted file, in numbers
  pub accepted_loads : fault_of x ≡ None → AllByRecursion (IsSoundLoad (length x)) load_headers
  accepted_loads h = sound_loads (length x) (placed x) (sound (length x) (placed x) (headers_faultless h))

  pub low_load_headers : fault_of x ≡ None → AllByRecursion IsLow load_headers
  low_load_headers h = low_loads (length x) load_headers (accepted_loads h)

  pub first_break_of : page_up (highest_end (map (λ (p : Placed). p.segment) load_headers)) ≡ (image_of x).first_break
  unfolding image_of
  first_break_of = ap (λ l. page_up (highest_end l)) (loads_placed x)

  same_regions : (ps : List Placed) → map (loaded_region x) (map load_of ps) ≡ map (load_region x) (map (λ (p : Placed). p.segment) ps)
  same_regions [] = refl
  same_regions (p ∷ ps) = ap (λ l. load_region x p.segment ∷ l) (same_regions ps)

  -- what is read is what is loaded
  pub loaded-elf_of : loaded (elf_of x) ≡ image_of x
  unfolding image_of
  loaded-elf_of = ap (λ l. record { loads = l; entry = (file_header x).entry; first_break = page_up (highest_end (loads x)) }) (same_regions load_headers ∙ ap (map (load_region x)) (loads_placed x))
