-- The memory of a new file: its added parts, and the old loads without the permission to execute.
use Rattle.std.proofs.Common.{◌≡◌, ℕ, ◌+◌, ◌-◌, ◌/◌, ◌%◌, ◌==◌, nat_lt, ◌<◌, ◌≤◌, inl, inr, ⊎_elim, Bool, true, false, ◌&&◌, if◌then◌else◌, List, [], ◌∷◌, ◌++◌, length, map, get_or, Some, None, refl, ap, ◌∙◌, arith, lt-ltb}
use Rattle.std.specs.List.{AllByRecursion}
use Rattle.std.proofs.lemmas.Bool.{cond-true, cond-false}
use Rattle.std.proofs.lemmas.Bool.Decides.{nat_tests}
use Rattle.rz_image.specs.declared.region.Region.{Region}
use Rattle.rz_image.specs.Perm.{has_flag}
use Rattle.rz_image.specs.Memory.{Cell, Regions, contains, cell_in, cell_at, code_of, IsOutside, SameCell, zeros, whole_region}
use Rattle.rz_elf.specs.AddedRange.{scratch_size}
use Rattle.rz_elf.specs.WrittenFile.{Parts, added_regions, without_code}
use Rattle.rz_image.specs.Perm.{read_write, read_only, read_execute}
use Rattle.rz_machine.specs.Laws.Placed.{BytesAt, bytes_from}
use Rattle.rz_image.specs.Laws.Zeros.{length-zeros}
use Rattle.rz_image.specs.Laws.Cells.{apart, inside, IsFixed}

-- two lists of regions
pub all_append : (P : Region → Type 0) (m n : Regions) → AllByRecursion P m → AllByRecursion P n → AllByRecursion P (m ++ n)
all_append P [] n h k = k
all_append P (r ∷ rs) n h k = (h.0, all_append P rs n h.1 k)

-- what is left of permissions without the one to execute
no_execute : (p : ℕ) → has_flag (p - p % 2) 1 ≡ false
no_execute p = let even : (p - p % 2) % 2 ≡ 0 = omega arith in grind (arith, nat_tests, even)

same_write : (p : ℕ) → has_flag p 2 ≡ has_flag (p - p % 2) 2
same_write p = let half : p / 2 ≡ (p - p % 2) / 2 = omega arith in ap (λ n. n % 2 == 1) half

same_read : (p : ℕ) → has_flag p 4 ≡ has_flag (p - p % 2) 4
same_read p = let quarter : p / 4 ≡ (p - p % 2) / 4 = omega arith in ap (λ n. n % 2 == 1) quarter

-- without the permission to execute no region is both written and executed
pub stripped_fixed : (m : Regions) → AllByRecursion IsFixed (map without_code m)
stripped_fixed [] = tt
stripped_fixed (r ∷ rs) = (λ e. no_execute r.perm.0, stripped_fixed rs)

-- and each cell is the same
pub stripped_same : (m n : Regions) (a : ℕ) → SameCell (cell_at (m ++ n) a) (cell_at (map without_code m ++ n) a)
unfolding cell_at
stripped_same [] n a = record { byte = refl; read = refl; write = refl }
stripped_same (r ∷ rs) n a = go (contains r a) (stripped_same rs n a)
  where
    go : (c : Bool) → SameCell (cell_at (rs ++ n) a) (cell_at (map without_code rs ++ n) a) → SameCell (if c then cell_in r (a - r.base) else cell_at (rs ++ n) a) (if c then cell_in (without_code r) (a - r.base) else cell_at (map without_code rs ++ n) a)
    go true ih = record {
      byte = refl;
      read = ap (λ b. nat_lt (a - r.base) r.opened && b) (same_read r.perm.0);
      write = ap (λ b. nat_lt (a - r.base) r.opened && b) (same_write r.perm.0);
    }
    go false ih = ih

-- a cell of a region of code
code_cell : (base : ℕ) (bytes : List ℕ) (i : ℕ) → i < length bytes → code_of (cell_in (whole_region base bytes read_execute) i) ≡ Some (get_or bytes i 0)
code_cell base bytes i h = ap (λ b. if b && true then Some (get_or bytes i 0) else None) (lt-ltb i (length bytes) h)

module _ (p : Parts) (rest : Regions) where
  abbrev pub Whole : Regions
  Whole = added_regions p ++ rest

  -- where the parts begin, and where the last one ends
  abbrev pub tables_at : ℕ
  tables_at = p.base + scratch_size

  abbrev pub code_at : ℕ
  code_at = p.base + scratch_size + length p.tables

  abbrev pub stubs_at : ℕ
  stubs_at = p.base + scratch_size + length p.tables + length p.code

  abbrev pub stop_at : ℕ
  stop_at = p.base + scratch_size + length p.tables + length p.code + length p.stubs

  -- the four added parts as regions
  scratch : Region
  scratch = whole_region p.base (zeros scratch_size) read_write

  tables : Region
  tables = whole_region tables_at p.tables read_only

  code : Region
  code = whole_region code_at p.code read_execute

  stubs : Region
  stubs = whole_region stubs_at p.stubs read_execute

  -- the scratch page may be read and written
  pub scratch_there : (a : ℕ) → p.base ≤ a → a < p.base + scratch_size → ((cell_at Whole a).read ≡ true) × ((cell_at Whole a).write ≡ true)
  unfolding cell_at scratch
  scratch_there a low high =
      let long = length-zeros scratch_size in
      let e = inside scratch a low (omega (arith, high, long)) in
      let f : nat_lt (a - p.base) (length (zeros scratch_size)) ≡ true = lt-ltb (a - p.base) (length (zeros scratch_size)) (omega (arith, low, high, long)) in
      let cell : cell_at Whole a ≡ cell_in scratch (a - p.base) = cond-true (contains scratch a) _ _ e in
      (ap (λ (c : Cell). c.read) cell ∙ ap (λ b. b && true) f, ap (λ (c : Cell). c.write) cell ∙ ap (λ b. b && true) f)

  -- the tables part may be read and not be written
  pub tables_there : (i : ℕ) → i < length p.tables
      → ((cell_at Whole (tables_at + i)).byte ≡ get_or p.tables i 0) × ((cell_at Whole (tables_at + i)).read ≡ true) × ((cell_at Whole (tables_at + i)).write ≡ false)
  unfolding cell_at scratch tables
  tables_there i h =
      let a = tables_at + i in
      let e1 = apart scratch a (inr (omega (arith, length-zeros 4096))) in
      let e2 = inside tables a (omega arith) (omega arith) in
      let j : tables_at + i - tables_at ≡ i = omega arith in
      let f : nat_lt i (length p.tables) ≡ true = lt-ltb i (length p.tables) h in
      let cell : cell_at Whole (tables_at + i) ≡ cell_in tables i = cond-false (contains scratch a) _ _ e1 ∙ cond-true (contains tables a) _ _ e2 ∙ ap (cell_in tables) j in
      (ap (λ (c : Cell). c.byte) cell, ap (λ (c : Cell). c.read) cell ∙ ap (λ b. b && true) f, ap (λ (c : Cell). c.write) cell ∙ ap (λ b. b && false) f)

  -- the code part may be executed
  pub code_there : BytesAt Whole code_at p.code
  unfolding cell_at scratch tables code stubs
  code_there = bytes_from Whole code_at p.code here
    where
      here : (i : ℕ) → i < length p.code → code_of (cell_at Whole (code_at + i)) ≡ Some (get_or p.code i 0)
      here i h =
          let a = code_at + i in
          let e1 = apart scratch a (inr (omega (arith, length-zeros 4096))) in
          let e2 = apart tables a (inr (omega arith)) in
          let e3 = inside code a (omega arith) (omega arith) in
          let j : code_at + i - code_at ≡ i = omega arith in
          ap code_of (cond-false (contains scratch a) _ _ e1 ∙ cond-false (contains tables a) _ _ e2 ∙ cond-true (contains code a) _ _ e3 ∙ ap (cell_in code) j)
          ∙ code_cell code_at p.code i h

  -- and the stubs
  pub stubs_there : BytesAt Whole stubs_at p.stubs
  unfolding cell_at scratch tables code stubs
  stubs_there = bytes_from Whole stubs_at p.stubs here
    where
      here : (i : ℕ) → i < length p.stubs → code_of (cell_at Whole (stubs_at + i)) ≡ Some (get_or p.stubs i 0)
      here i h =
          let a = stubs_at + i in
          let e1 = apart scratch a (inr (omega (arith, length-zeros 4096))) in
          let e2 = apart tables a (inr (omega arith)) in
          let e3 = apart code a (inr (omega arith)) in
          let e4 = inside stubs a (omega arith) (omega arith) in
          let j : stubs_at + i - stubs_at ≡ i = omega arith in
          ap code_of (cond-false (contains scratch a) _ _ e1 ∙ cond-false (contains tables a) _ _ e2 ∙ cond-false (contains code a) _ _ e3 ∙ cond-true (contains stubs a) _ _ e4 ∙ ap (cell_in stubs) j)
          ∙ code_cell stubs_at p.stubs i h

  -- outside the added range stands the rest
  pub beside : (a : ℕ) → IsOutside (record { low = p.base; high = stop_at }) a → cell_at Whole a ≡ cell_at rest a
  unfolding cell_at scratch tables code stubs
  beside a out =
      cond-false (contains scratch a) _ _ (away scratch (omega arith) (omega (arith, length-zeros 4096)))
      ∙ cond-false (contains tables a) _ _ (away tables (omega arith) (omega arith))
      ∙ cond-false (contains code a) _ _ (away code (omega arith) (omega arith))
      ∙ cond-false (contains stubs a) _ _ (away stubs (omega arith) (omega arith))
    where
      away : (r : Region) → p.base ≤ r.base → r.base + length r.bytes ≤ stop_at → contains r a ≡ false
      away r low high = apart r a (⊎_elim (λ h. inl (omega arith)) (λ h. inr (omega arith)) out)

  -- none of the added parts is both written and executed
  pub added_fixed : AllByRecursion IsFixed (added_regions p)
  added_fixed = (λ e. refl, (λ e. refl, (λ e. absurd (cc), (λ e. absurd (cc), tt))))
