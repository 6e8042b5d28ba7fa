-- What the items of the lookup routine take: each has a spelling wherever they end below 2^31.
use Rattle.std.proofs.Common.{◌≡◌, ℕ, zero, suc, ◌+◌, ◌^◌, ◌<◌, ◌≤◌, true, if◌then◌else◌, List, [], ◌∷◌, ◌++◌, length, take, Option, Some, None, IsTrue, IsSome, IsSomeAnd, refl, sym, subst, arith, le-leb, lt-ltb}
use Rattle.std.specs.List.{AllByRecursion}
use Rattle.std.specs.Prelude.{pos}
use Rattle.rz_num.specs.declared.width.Width.TheVariants.{W32, W64}
use Rattle.rz_flags.specs.declared.ArithOp.TheVariants.{Cmp}
use Rattle.rz_isa.specs.declared.rows.Row.{Row}
use Rattle.rz_isa.specs.declared.rows.Form.TheVariants.{Near}
use Rattle.rz_isa.specs.declared.instruction.Insn.{Insn}
use Rattle.rz_isa.specs.declared.instruction.Insn.TheVariants as insn
use Rattle.rz_isa.specs.declared.instruction.Mem.{Mem}
use Rattle.rz_isa.specs.declared.instruction.Operand.TheVariants as operand
use Rattle.rz_isa.specs.declared.instruction.Place.TheVariants as place
use Rattle.rz_isa.specs.declared.item_list.Label.TheVariants as label
use Rattle.rz_isa.specs.declared.item_list.Item.{Item}
use Rattle.rz_isa.specs.declared.item_list.Item.TheVariants as item
use Rattle.rz_isa.specs.Canonical.{Chosen, chosen, canonical, spelled_at}
use Rattle.rz_isa.specs.Emitted.{Emits, EmitsLookup, has_lookup, register}
use Rattle.rz_isa.specs.Having.{is_disp, is_memory}
use Rattle.rz_isa.specs.Insn.{target_of}
use Rattle.rz_isa.specs.Items.{Addresses, absolute}
use Rattle.rz_isa.specs.Plan.{spelled_len}
use Rattle.rz_isa.specs.Sizes.{IsSized, CanMove, OfLabel, IsOneOf, AllPlaced, near_len, near_address}
use Rattle.rz_isa.specs.Targets.{NamesLow}
use Rattle.rz_isa.specs.Within.{SpelledWithin}
use Rattle.rz_isa.specs.Laws.NearItems.{whole_item, jump_item, branch_item}
use Rattle.rz_encode.specs.Length.{chosen_len, ChosenLengths}
use Rattle.rz_lookup.specs.Routine.{RoutineIsSized, lookup_items, enter, search, decide, search_odd, leave, store, load, load_number, halve, compare, compare_low, advance, based, paired}

module _ (rows : List Row) (emits : Emits rows) (lookup : EmitsLookup rows) (within : SpelledWithin rows) (most : ChosenLengths rows) where
  -- ---- instructions with a spelling at every low address

  record IsMovable (x : Insn) : Type 0 where
    some : IsSome (chosen rows Near x)
    none : target_of x ≡ None
    low : NamesLow x

  some_chosen : (P : List ℕ → Type 0) (x : Insn) → IsSomeAnd (canonical rows x 0 Near) P → IsSome (chosen rows Near x)
  some_chosen P x h = go (chosen rows Near x) h
    where
      go : (o : Option Chosen) → IsSomeAnd (spelled_at 0 o) P → IsSome o
      go None h = absurd h
      go (Some c) h = refl

  short : (x : Insn) → spelled_len (chosen rows Near x) ≤ 15
  short x = subst (λ n. n ≤ 15) (same (chosen rows Near x)) (most x Near)
    where
      same : (o : Option Chosen) → chosen_len o ≡ spelled_len o
      same None = refl
      same (Some c) = refl

  low_disp : (n : ℕ) → n < 2 ^ 31 → is_disp (pos n) ≡ true
  low_disp n h = lt-ltb n (2 ^ 31) h

  store_moves : (a r : ℕ) → a < 2 ^ 31 → r < 16 → IsMovable (store a r)
  store_moves a r h k = record { some = some_chosen _ _ (emits.store r 0 (absolute a) k (low_disp a h)); none = refl; low = λ b e. absurd (cc) }

  load_moves : (r : ℕ) (m : Mem) → r < 16 → IsTrue (is_memory m) → IsMovable (load W64 r m)
  load_moves r m k h = record { some = some_chosen _ _ (emits.load r 0 (place.Mem m) k h refl); none = refl; low = λ b e. absurd (cc) }

  half_moves : (r : ℕ) (m : Mem) → r < 16 → IsTrue (is_memory m) → IsMovable (load W32 r m)
  half_moves r m k h = record { some = some_chosen _ _ (emits.load_32 r 0 m k h); none = refl; low = λ b e. absurd (cc) }

  number_moves : (r n : ℕ) → r < 16 → n < 2 ^ 32 → IsMovable (load_number r n)
  number_moves r n k h = record { some = some_chosen _ _ (emits.mov r n 0 k h); none = refl; low = λ b e. absurd (cc) }

  push_flags_moves : IsMovable insn.PushFlags
  push_flags_moves = record { some = some_chosen _ _ (lookup.push_flags 0); none = refl; low = λ b e. absurd (cc) }

  pop_flags_moves : IsMovable insn.PopFlags
  pop_flags_moves = record { some = some_chosen _ _ (lookup.pop_flags 0); none = refl; low = λ b e. absurd (cc) }

  halve_moves : IsMovable (halve 0)
  halve_moves = record { some = some_chosen _ _ (lookup.shr_once W64 0 0 refl (omega arith)); none = refl; low = λ b e. absurd (cc) }

  compare_moves : IsMovable (compare 0 (operand.Place (register 1)))
  compare_moves = record { some = some_chosen _ _ (lookup.arith Cmp W64 0 1 0 refl refl (omega arith) (omega arith)); none = refl; low = λ b e. absurd (cc) }

  compare_one_moves : IsMovable (compare 0 (operand.Imm 1))
  compare_one_moves = record { some = some_chosen _ _ (lookup.arith_byte Cmp W64 0 1 0 refl refl (omega arith) refl); none = refl; low = λ b e. absurd (cc) }

  compare_low_moves : IsMovable (compare_low 1 (paired 16))
  compare_low_moves = record { some = some_chosen _ _ (lookup.arith_load Cmp W32 1 0 (paired 16) refl refl (omega arith) refl); none = refl; low = λ b e. absurd (cc) }

  advance_moves : (r : ℕ) (m : Mem) → r < 16 → IsTrue (is_memory m) → IsMovable (advance r m)
  advance_moves r m k h = record { some = some_chosen _ _ (emits.lea r 0 m k h); none = refl; low = λ b e. absurd (cc) }

  jump_moves : (a : ℕ) → a < 2 ^ 31 → IsMovable (insn.JmpInd (place.Mem (absolute a)))
  jump_moves a h = record { some = some_chosen _ _ (lookup.jmp_ind 0 (absolute a) (low_disp a h)); none = refl; low = λ b e. absurd (cc) }

  -- ---- items that are such instructions, and jumps to one of so many items

  abbrev Moves : ℕ → Item → Type 0
  Moves count (item.Whole x) = IsMovable x
  Moves count (item.Jump c (label.Item k)) = k < count
  Moves count _ = ⊥

  all_move : (count : ℕ) (xs : List Item) → AllByRecursion (Moves count) xs → AllByRecursion CanMove xs
  all_move count [] h = tt
  all_move count (item.Whole x ∷ xs) h = ((h.0.none, h.0.low), all_move count xs h.1)
  all_move count (item.Jump c (label.Item k) ∷ xs) h = (refl, all_move count xs h.1)
  all_move count (_ ∷ xs) h = absurd h.0

  all_own : (count : ℕ) (xs : List Item) → AllByRecursion (Moves count) xs → AllByRecursion (OfLabel (IsOneOf count)) xs
  all_own count [] h = tt
  all_own count (item.Whole x ∷ xs) h = (tt, all_own count xs h.1)
  all_own count (item.Jump c (label.Item k) ∷ xs) h = (h.0, all_own count xs h.1)
  all_own count (_ ∷ xs) h = absurd h.0

  -- 15 bytes for an instruction, and 6 for a jump
  abbrev at_most : List Item → ℕ
  at_most [] = 0
  at_most (item.Whole x ∷ xs) = 15 + at_most xs
  at_most (_ ∷ xs) = 6 + at_most xs

  all_short : (count : ℕ) (xs : List Item) → AllByRecursion (Moves count) xs → near_len rows xs ≤ at_most xs
  all_short count [] h = omega arith
  all_short count (item.Whole x ∷ xs) h = let e = all_short count xs h.1 in let f = short x in omega (arith, e, f)
  all_short count (item.Jump None (label.Item k) ∷ xs) h = let e = all_short count xs h.1 in omega (arith, e)
  all_short count (item.Jump (Some c) (label.Item k) ∷ xs) h = let e = all_short count xs h.1 in omega (arith, e)
  all_short count (_ ∷ xs) h = absurd h.0

  -- where each label of an item names a low address
  all_placed : (count : ℕ) (at : Addresses) → ((k : ℕ) → k < count → IsSomeAnd (at (label.Item k)) (λ p. p < 2 ^ 31))
      → (from : ℕ) (xs : List Item) → AllByRecursion (Moves count) xs → from + near_len rows xs < 2 ^ 31 → AllPlaced rows at from xs
  all_placed count at low from [] h fits = tt
  all_placed count at low from (item.Whole x ∷ xs) h fits = (
    whole_item rows within x at from h.0.some h.0.none h.0.low (omega (arith, fits)),
    all_placed count at low (from + spelled_len (chosen rows Near x)) xs h.1 (omega (arith, fits)),
  )
  all_placed count at low from (item.Jump None (label.Item k) ∷ xs) h fits = (
    jump_item rows emits at from (label.Item k) (low k h.0) (omega (arith, fits)),
    all_placed count at low (from + 5) xs h.1 (omega (arith, fits)),
  )
  all_placed count at low from (item.Jump (Some c) (label.Item k) ∷ xs) h fits = (
    branch_item rows emits at from c (label.Item k) (low k h.0) (omega (arith, fits)),
    all_placed count at low (from + 6) xs h.1 (omega (arith, fits)),
  )
  all_placed count at low from (_ ∷ xs) h fits = absurd h.0

  front_len : (k : ℕ) (xs : List Item) → near_len rows (take k xs) ≤ near_len rows xs
  front_len zero xs = omega arith
  front_len (suc k) [] = omega arith
  front_len (suc k) (x ∷ xs) = let e = front_len k xs in omega (arith, e)

  own_low : (xs : List Item) (from : ℕ) (at : Addresses) → from + near_len rows xs < 2 ^ 31 → (k : ℕ) → k < length xs
      → IsSomeAnd (near_address rows xs from at (label.Item k)) (λ p. p < 2 ^ 31)
  own_low xs from at fits k lt =
      let e = front_len k xs in
      let low : from + near_len rows (take k xs) < 2 ^ 31 = omega (arith, e, fits) in
      subst (λ b. IsSomeAnd (if b then Some (from + near_len rows (take k xs)) else None) (λ p. p < 2 ^ 31)) (sym (le-leb k (length xs) (omega (arith, lt)))) low

  -- ---- the routine

  module _ (scratch : ℕ) (page : scratch + 4096 ≤ 2 ^ 31) where
    at_page : (i : ℕ) → i < 4096 → IsTrue (is_memory (absolute (scratch + i)))
    at_page i h = low_disp (scratch + i) (omega (arith, page, h))

    enter_moves : AllByRecursion (Moves 36) (enter scratch)
    enter_moves = (store_moves (scratch + 24) 4 (omega (arith, page)) (omega arith), (number_moves 4 (scratch + 40) (omega arith) (omega (arith, page)), (push_flags_moves, (store_moves (scratch + 40) 0 (omega (arith, page)) (omega arith), (load_moves 4 (absolute (scratch + 16)) (omega arith) (at_page 16 (omega arith)), (load_moves 0 (based 4 8) (omega arith) refl, (compare_one_moves, (omega arith, (omega arith, (halve_moves, tt))))))))))

    search_moves : AllByRecursion (Moves 36) search
    search_moves = (omega arith, (compare_low_moves, (omega arith, (advance_moves 4 (paired 0) (omega arith) refl, (halve_moves, (omega arith, tt))))))

    decide_moves : AllByRecursion (Moves 36) (decide scratch)
    decide_moves = (half_moves 0 (based 4 16) (omega arith) refl, (compare_moves, (omega arith, (load_moves 0 (absolute (scratch + 16)) (omega arith) (at_page 16 (omega arith)), (load_moves 0 (based 0 0) (omega arith) refl, (omega arith, tt))))))

    odd_moves : AllByRecursion (Moves 36) search_odd
    odd_moves = (compare_low_moves, (omega arith, (advance_moves 4 (paired 0) (omega arith) refl, (advance_moves 0 (based 0 1) (omega arith) refl, (halve_moves, (omega arith, tt))))))

    leave_moves : AllByRecursion (Moves 36) (leave scratch)
    leave_moves = (half_moves 0 (based 4 20) (omega arith) refl, (store_moves (scratch + 48) 0 (omega (arith, page)) (omega arith), (number_moves 4 (scratch + 32) (omega arith) (omega (arith, page)), (pop_flags_moves, (load_moves 0 (absolute (scratch + 40)) (omega arith) (at_page 40 (omega arith)), (load_moves 4 (absolute (scratch + 24)) (omega arith) (at_page 24 (omega arith)), (load_moves 1 (absolute scratch) (omega arith) (low_disp scratch (omega (arith, page))), (jump_moves (scratch + 48) (omega (arith, page)), tt))))))))

    all_both : (P : Item → Type 0) (xs ys : List Item) → AllByRecursion P xs → AllByRecursion P ys → AllByRecursion P (xs ++ ys)
    all_both P [] ys h k = k
    all_both P (x ∷ xs) ys h k = (h.0, all_both P xs ys h.1 k)

    moves : AllByRecursion (Moves 36) (lookup_items scratch)
    moves =
        all_both (Moves 36) (enter scratch) (search ++ (decide scratch ++ (search_odd ++ leave scratch))) enter_moves
        (all_both (Moves 36) search (decide scratch ++ (search_odd ++ leave scratch)) search_moves
        (all_both (Moves 36) (decide scratch) (search_odd ++ leave scratch) decide_moves (all_both (Moves 36) search_odd (leave scratch) odd_moves leave_moves)))

    pub sized : IsSized rows (lookup_items scratch) 512
    sized =
        record {
          can_move = all_move 36 (lookup_items scratch) moves;
          own = all_own 36 (lookup_items scratch) moves;
          few = let e = all_short 36 (lookup_items scratch) moves in omega (arith, e);
          placed = λ at from low fits. all_placed 36 (near_address rows (lookup_items scratch) from at) (own_low (lookup_items scratch) from at fits) from (lookup_items scratch) moves fits;
        }

-- the law
pub routine_is_sized : (rows : List Row) → Emits rows → (IsTrue (has_lookup rows) → EmitsLookup rows) → SpelledWithin rows → ChosenLengths rows → RoutineIsSized rows
routine_is_sized rows emits lookup within most scratch page some = sized rows emits (lookup some) within most scratch page
