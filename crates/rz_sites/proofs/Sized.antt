-- What the items of a site take: each has a spelling wherever they end below 2^31.
use Rattle.std.proofs.Common.{◌≡◌, ℕ, zero, suc, ◌+◌, ◌*◌, ◌%◌, ◌^◌, ◌<◌, ◌≤◌, Bool, true, false, if◌then◌else◌, nat_le, nat_lt, List, [], ◌∷◌, ◌++◌, length, take, Option, Some, None, IsTrue, IsSome, IsSomeAnd, refl, sym, ap, ◌∙◌, subst, arith, append_assoc, le-leb, lt-ltb}
use Rattle.std.specs.List.{AllByRecursion}
use Rattle.std.specs.Option.{option_map}
use Rattle.std.specs.Prelude.{ℤ, pos, negsuc, ◌-ℤ◌}
use Rattle.std.proofs.Math.Seq.{take-append-add, take-append_seam}
use Rattle.std.proofs.lemmas.Int.{ints}
use Rattle.std.proofs.lemmas.List.{length-append}
use Rattle.rz_num.specs.declared.width.Width.TheVariants.{W64}
use Rattle.rz_isa.specs.declared.rows.Row.{Row}
use Rattle.rz_isa.specs.declared.rows.Form.TheVariants.{Near}
use Rattle.rz_isa.specs.declared.rows.Op.{Op}
use Rattle.rz_isa.specs.declared.rows.Op.TheVariants as ops
use Rattle.rz_isa.specs.declared.instruction.Insn.{Insn}
use Rattle.rz_isa.specs.declared.instruction.Insn.TheVariants as insn
use Rattle.rz_isa.specs.declared.instruction.Place.{Place}
use Rattle.rz_isa.specs.declared.instruction.Place.TheVariants as place
use Rattle.rz_isa.specs.declared.instruction.Operand.TheVariants as operand
use Rattle.rz_isa.specs.declared.item_list.Label.{Label}
use Rattle.rz_isa.specs.declared.item_list.Label.TheVariants as label
use Rattle.rz_isa.specs.declared.item_list.Item.{Item}
use Rattle.rz_isa.specs.declared.item_list.Item.TheVariants as item
use Rattle.rz_isa.specs.declared.spelled.Fields.{Fields}
use Rattle.rz_isa.specs.Canonical.{Chosen, chosen, spelled_at, place_reaches}
use Rattle.rz_isa.specs.Emitted.{HasSpelling, Emits, fits_8, place_len, register, is_wide_operand, indirect_operand}
use Rattle.rz_isa.specs.Fields.{build_op}
use Rattle.rz_isa.specs.Having.{is_disp}
use Rattle.rz_isa.specs.Insn.{target_of, rip_of}
use Rattle.rz_isa.specs.Items.{Addresses, absolute, store}
use Rattle.rz_isa.specs.Plan.{spelled_len, IsPlaced}
use Rattle.rz_isa.specs.Sizes.{CanMove, OfLabel, IsLow, IsOneOf, AllPlaced, near_len, near_address}
use Rattle.rz_isa.specs.Spells.{Spells}
use Rattle.rz_isa.specs.Targets.{NamesLow, IndirectOperands}
use Rattle.rz_isa.specs.Within.{SpelledWithin}
use Rattle.rz_isa.specs.Laws.NearItems.{near_low, low_fits, whole_item, jump_item, count_item}
use Rattle.rz_encode.specs.Length.{chosen_len, ChosenLengths}
use Rattle.rz_machine.specs.Sequence.{save_at, load, load_at, add_to, jump, drop, load_value, piece, check, look_up, dispatch}
use Rattle.rz_sites.specs.Site.{SitesAreSized}

-- ---- displacements

low_disp : (n : ℕ) → n < 2 ^ 31 → is_disp (pos n) ≡ true
low_disp n h = lt-ltb n (2 ^ 31) h

difference_disp : (a b : ℕ) → a < 2 ^ 31 → b < 2 ^ 31 → is_disp (pos a -ℤ pos b) ≡ true
difference_disp a b h k = go (pos a -ℤ pos b) refl
  where
    go : (z : ℤ) → z ≡ pos a -ℤ pos b → is_disp z ≡ true
    go (pos n) e = lt-ltb n (2 ^ 31) (omega (arith, ints, e))
    go (negsuc n) e = lt-ltb n (2 ^ 31) (omega (arith, ints, e))

-- what a spelled return drops has two bytes
abbrev DropsLow : Insn → Type 0
DropsLow (insn.Ret n) = n < 2 ^ 16
DropsLow x = Unit {0}

built_low : (op : Op) (f : Fields) → DropsLow (build_op op f)
built_low ops.Ret f = omega arith
built_low _ f = tt

-- ---- lists of items

module _ (rows : List Row) where
  len_append : (xs ys : List Item) → near_len rows (xs ++ ys) ≡ near_len rows xs + near_len rows ys
  len_append [] ys = omega arith
  len_append (x ∷ xs) ys = let e = len_append xs ys in omega (arith, e)

  -- where an item's label leads
  address_in : (front mid back : List Item) (from : ℕ) (at : Addresses) (j : ℕ) → j ≡ length front + length mid
      → near_address rows (front ++ (mid ++ back)) from at (label.Item j) ≡ Some (from + near_len rows front + near_len rows mid)
  address_in front mid back from at j is =
      let long : length (front ++ (mid ++ back)) ≡ length front + (length mid + length back) = simp (length-append) (omega arith) in
      let within : nat_le j (length (front ++ (mid ++ back))) ≡ true = le-leb j _ (omega (arith, is, long)) in
      let cut : take j (front ++ (mid ++ back)) ≡ front ++ mid =
      ap (λ i. take i (front ++ (mid ++ back))) is ∙ take-append-add front (mid ++ back) (length mid) ∙ ap (λ l. front ++ l) (take-append_seam mid back) in
      let sum : from + near_len rows (front ++ mid) ≡ from + near_len rows front + near_len rows mid = let e = len_append front mid in omega (arith, e) in
      ap (λ b. if b then Some (from + near_len rows (take j (front ++ (mid ++ back)))) else None) within
      ∙ ap (λ l. Some (from + near_len rows l)) cut
      ∙ ap Some sum

  -- of a later part of a list
  all_later : (P : Item → Type 0) (xs ys : List Item) → AllByRecursion P (xs ++ ys) → AllByRecursion P ys
  all_later P [] ys h = h
  all_later P (x ∷ xs) ys h = all_later P xs ys h.1

-- ---- items by themselves

same_len : (o : Option Chosen) → chosen_len o ≡ spelled_len o
same_len None = refl
same_len (Some c) = refl

module _ (rows : List Row) (emits : Emits rows) (within : SpelledWithin rows) (indirect : IndirectOperands rows) (most : ChosenLengths rows) where
  abbrev len_of : Insn → ℕ
  len_of x = spelled_len (chosen rows Near x)

  short : (x : Insn) → spelled_len (chosen rows Near x) ≤ 15
  short x = subst (λ n. n ≤ 15) (same_len (chosen rows Near x)) (most x Near)

  -- an instruction that has a spelling at every low address
  record IsMovable (x : Insn) : Type 0 where
    some : IsSome (chosen rows Near x)
    none : target_of x ≡ None
    low : NamesLow x

  abbrev IsWhole : Item → Type 0
  IsWhole (item.Whole x) = IsMovable x
  IsWhole _ = ⊥

  chosen_some : (x : Insn) (at n : ℕ) → HasSpelling rows x at Near n → IsSome (chosen rows Near x)
  chosen_some x at n h = go (chosen rows Near x) h
    where
      go : (o : Option Chosen) → IsSomeAnd (spelled_at at o) (λ s. length s ≡ n) → IsSome o
      go None h = absurd h
      go (Some c) h = refl

  movable_item : (x : Insn) (at : Addresses) (from : ℕ) → IsMovable x → from + spelled_len (chosen rows Near x) < 2 ^ 31 → IsPlaced rows at from (item.Whole x) Near
  movable_item x at from h fits = whole_item rows within x at from h.some h.none h.low fits

  -- ---- the moves of a site

  save_moves : (a : ℕ) → a < 2 ^ 31 → IsWhole (save_at a)
  save_moves a h = record { some = chosen_some _ 0 _ (emits.store 1 0 (absolute a) (omega arith) (low_disp a h)); none = refl; low = λ b e. absurd (cc) }

  load_moves : (a : ℕ) → a < 2 ^ 31 → IsWhole (load_at a)
  load_moves a h = record { some = chosen_some _ 0 _ (emits.load 1 0 (place.Mem (absolute a)) (omega arith) (low_disp a h) refl); none = refl; low = λ b e. absurd (cc) }

  add_moves : (n : ℤ) → is_disp n ≡ true → IsWhole (add_to 1 n)
  add_moves n h = record { some = chosen_some _ 0 _ (emits.lea 1 0 (record { base = Some 1; index = None; scale = 1; disp = n }) (omega arith) h); none = refl; low = λ b e. absurd (cc) }

  drop_moves : (n : ℤ) → is_disp n ≡ true → IsWhole (add_to 4 n)
  drop_moves n h = record { some = chosen_some _ 0 _ (emits.lea 4 0 (record { base = Some 4; index = None; scale = 1; disp = n }) (omega arith) h); none = refl; low = λ b e. absurd (cc) }

  pop_moves : IsWhole (item.Whole (insn.Pop (register 1)))
  pop_moves = record { some = chosen_some _ 0 _ (emits.pop 1 0 (omega arith)); none = refl; low = λ b e. absurd (cc) }

  push_moves : (n : ℕ) → n < 2 ^ 31 → IsWhole (item.Whole (insn.Push (operand.Imm n)))
  push_moves n h = record { some = go (fits_8 W64 n) refl; none = refl; low = λ b e. absurd (cc) }
    where
      go : (b : Bool) → fits_8 W64 n ≡ b → IsSome (chosen rows Near (insn.Push (operand.Imm n)))
      go true e = chosen_some _ 0 2 (emits.push_byte n 0 e)
      go false e = chosen_some _ 0 5 (emits.push_imm n 0 (low_fits n h) e)

  reaches : (src : Place) → ((a : ℕ) → rip_of src ≡ Some a → a < 2 ^ 31) → IsTrue (place_reaches ((0 + (2 + place_len src)) % 2 ^ 64) src)
  reaches (place.Reg r) low = refl
  reaches (place.Mem m) low = refl
  reaches (place.At a) low = near_low 0 7 a (omega arith) (low a refl)

  operand_moves : (src : Place) → IsTrue (is_wide_operand src) → ((a : ℕ) → rip_of src ≡ Some a → a < 2 ^ 31) → IsWhole (load src)
  operand_moves src wide low = record { some = chosen_some _ 0 _ (emits.load 1 0 src (omega arith) wide (reaches src low)); none = refl; low = low }

  -- ---- instructions one after the other

  whole_moves : (xs ys : List Item) → AllByRecursion IsWhole xs → AllByRecursion CanMove ys → AllByRecursion CanMove (xs ++ ys)
  whole_moves [] ys h rest = rest
  whole_moves (item.Whole x ∷ xs) ys h rest = ((h.0.none, h.0.low), whole_moves xs ys h.1 rest)
  whole_moves (_ ∷ xs) ys h rest = absurd h.0

  whole_own : (P : Label → Type 0) (xs ys : List Item) → AllByRecursion IsWhole xs → AllByRecursion (OfLabel P) ys → AllByRecursion (OfLabel P) (xs ++ ys)
  whole_own P [] ys h rest = rest
  whole_own P (item.Whole x ∷ xs) ys h rest = (tt, whole_own P xs ys h.1 rest)
  whole_own P (_ ∷ xs) ys h rest = absurd h.0

  whole_len : (xs : List Item) → AllByRecursion IsWhole xs → near_len rows xs ≤ 15 * length xs
  whole_len [] h = omega arith
  whole_len (item.Whole x ∷ xs) h = let e = whole_len xs h.1 in let f = short x in omega (arith, e, f)
  whole_len (_ ∷ xs) h = absurd h.0

  whole_placed : (at : Addresses) (from : ℕ) (xs ys : List Item) → AllByRecursion IsWhole xs → from + near_len rows xs < 2 ^ 31 → AllPlaced rows at (from + near_len rows xs) ys → AllPlaced rows at from (xs ++ ys)
  whole_placed at from [] ys h fits rest = let e : from + 0 ≡ from = omega arith in subst (λ p. AllPlaced rows at p ys) e rest
  whole_placed at from (item.Whole x ∷ xs) ys h fits rest =
      let l : ℕ = spelled_len (chosen rows Near x) in
      let e : from + (l + near_len rows xs) ≡ from + l + near_len rows xs = omega arith in
      (movable_item x at from h.0 (omega (arith, fits)), whole_placed at (from + l) xs ys h.1 (omega (arith, fits)) (subst (λ p. AllPlaced rows at p ys) e rest))
  whole_placed at from (_ ∷ xs) ys h fits rest = absurd h.0

  -- ---- the check

  module _ (scratch a : ℕ) (page : scratch < 2 ^ 31) where
    back : IsMovable (insn.Mov W64 (register 1) (operand.Place (place.Mem (absolute scratch))))
    back = load_moves scratch page

    check_moves : (k previous : ℕ) (ts : List ℕ) → previous < 2 ^ 31 → AllByRecursion (λ t. t < 2 ^ 31) ts → AllByRecursion CanMove (check scratch a k previous ts)
    check_moves k previous [] below all = ((back.none, back.low), (refl, tt))
    check_moves k previous (t ∷ ts) below all =
        let add = add_moves (pos previous -ℤ pos t) (difference_disp previous t below all.0) in
        ((add.none, add.low), ((refl, refl), (refl, ((back.none, back.low), (refl, check_moves (k + 5) t ts all.0 all.1)))))

    check_own : (count k previous : ℕ) (ts : List ℕ) → k + 5 * length ts < count → AllByRecursion (OfLabel (IsOneOf count)) (check scratch a k previous ts)
    check_own count k previous [] h = (tt, (tt, tt))
    check_own count k previous (t ∷ ts) h = (tt, (omega (arith, h), (omega (arith, h), (tt, (tt, check_own count (k + 5) t ts (omega (arith, h)))))))

    check_count : (k previous : ℕ) (ts : List ℕ) → length (check scratch a k previous ts) ≡ 2 + 5 * length ts
    check_count k previous [] = refl
    check_count k previous (t ∷ ts) = let e = check_count (k + 5) t ts in omega (arith, e)

    check_len : (k previous : ℕ) (ts : List ℕ) → near_len rows (check scratch a k previous ts) ≤ 20 + 42 * length ts
    check_len k previous [] = let e = short (insn.Mov W64 (register 1) (operand.Place (place.Mem (absolute scratch)))) in omega (arith, e)
    check_len k previous (t ∷ ts) =
        let e = short (insn.Mov W64 (register 1) (operand.Place (place.Mem (absolute scratch)))) in
        let f = short (insn.Lea W64 1 (place.Mem (record { base = Some 1; index = None; scale = 1; disp = pos previous -ℤ pos t }))) in
        let g = check_len (k + 5) t ts in
        omega (arith, e, f, g)

    check_placed : (items front : List Item) (from : ℕ) (at : Addresses) (k previous : ℕ) (ts : List ℕ) → items ≡ front ++ check scratch a k previous ts → k ≡ length front
        → previous < 2 ^ 31 → AllByRecursion (λ t. t < 2 ^ 31) ts → AllByRecursion (OfLabel (IsLow at)) (check scratch a k previous ts)
        → from + near_len rows front + near_len rows (check scratch a k previous ts) < 2 ^ 31
        → AllPlaced rows (near_address rows items from at) (from + near_len rows front) (check scratch a k previous ts)
    check_placed items front from at k previous [] is count below all low fits =
        (movable_item _ _ _ back (omega (arith, fits)), (jump_item rows emits _ _ (label.Stub a) low.1.0 (omega (arith, fits)), tt))
    check_placed items front from at k previous (t ∷ ts) is count below all low fits = (
      movable_item _ names p add (omega (arith, fits)),
      (
        count_item rows emits names (p + l1) (label.Item (k + 3)) over (omega (arith, fits)),
        (
          jump_item rows emits names (p + l1 + 2) (label.Item (k + 5)) (subst (λ o. IsSomeAnd o (λ q. q < 2 ^ 31)) (sym next) next_low) (omega (arith, fits)),
          (
            movable_item _ names (p + l1 + 2 + 5) back (omega (arith, fits)),
            (
              jump_item rows emits names (p + l1 + 2 + 5 + l4) (label.Place t) low.1.1.1.1.0 (omega (arith, fits)),
              subst (λ q. AllPlaced rows names q tail) behind (check_placed items (front ++ mid) from at (k + 5) t ts again longer all.0 all.1 low.1.1.1.1.1 (omega (arith, fits, sum))),
            ),
          ),
        ),
      ),
    )
      where
        tail : List Item
        tail = check scratch a (k + 5) t ts

        mid : List Item
        mid = piece scratch k previous t

        names : Addresses
        names = near_address rows items from at

        p : ℕ
        p = from + near_len rows front

        add : IsMovable (insn.Lea W64 1 (place.Mem (record { base = Some 1; index = None; scale = 1; disp = pos previous -ℤ pos t })))
        add = add_moves (pos previous -ℤ pos t) (difference_disp previous t below all.0)

        l1 : ℕ
        l1 = spelled_len (chosen rows Near (insn.Lea W64 1 (place.Mem (record { base = Some 1; index = None; scale = 1; disp = pos previous -ℤ pos t }))))

        l4 : ℕ
        l4 = spelled_len (chosen rows Near (insn.Mov W64 (register 1) (operand.Place (place.Mem (absolute scratch)))))

        start : List Item
        start = add_to 1 (pos previous -ℤ pos t) ∷ item.Jrcxz (label.Item (k + 3)) ∷ jump (label.Item (k + 5)) ∷ []

        over : near_address rows items from at (label.Item (k + 3)) ≡ Some (p + l1 + 7)
        over =
            let e : k + 3 ≡ length front + 3 = omega (arith, count) in
            let f : from + near_len rows front + (l1 + (2 + (5 + 0))) ≡ p + l1 + 7 = omega arith in
            ap (λ l. near_address rows l from at (label.Item (k + 3))) is
            ∙ address_in rows front start (load_at scratch ∷ jump (label.Place t) ∷ tail) from at (k + 3) e
            ∙ ap Some f

        next : near_address rows items from at (label.Item (k + 5)) ≡ Some (from + near_len rows front + near_len rows mid)
        next =
            let e : k + 5 ≡ length front + 5 = omega (arith, count) in
            ap (λ l. near_address rows l from at (label.Item (k + 5))) is ∙ address_in rows front mid tail from at (k + 5) e

        next_low : from + near_len rows front + near_len rows mid < 2 ^ 31
        next_low = omega (arith, fits)

        again : items ≡ (front ++ mid) ++ tail
        again = is ∙ sym (append_assoc front mid tail)

        longer : k + 5 ≡ length (front ++ mid)
        longer = let e = length-append front mid in omega (arith, e, count)

        sum : near_len rows (front ++ mid) ≡ near_len rows front + near_len rows mid
        sum = len_append rows front mid

        behind : from + near_len rows (front ++ mid) ≡ p + l1 + 2 + 5 + l4 + 5
        behind = omega (arith, sum)

  -- ---- the lookup

  -- a label's address goes to a low word
  store_item : (at : Addresses) (from a : ℕ) (to : Label) → a < 2 ^ 31 → IsSomeAnd (at to) (λ p. p < 2 ^ 31) → IsPlaced rows at from (item.Store a to) Near
  store_item at from a to low is = record { reach = tt; spelled = where_low (nat_lt a (2 ^ 31)) (lt-ltb a (2 ^ 31) low) (go (at to) is) }
    where
      Spelled : Option Insn → Type 0
      Spelled o = IsSomeAnd o (λ x. HasSpelling rows x from Near 12)

      go : (o : Option ℕ) → IsSomeAnd o (λ p. p < 2 ^ 31) → Spelled (option_map (store a) o)
      go None h = absurd h
      go (Some n) h = emits.store_imm n from (absolute a) (low_fits n h) (low_disp a low)

      where_low : (b : Bool) → b ≡ true → Spelled (option_map (store a) (at to)) → Spelled (if b then option_map (store a) (at to) else None)
      where_low true e h = h
      where_low false e h = cc

  look_up_placed : (scratch a from : ℕ) (at names : Addresses) → scratch + 16 < 2 ^ 31 → names (label.Table a) ≡ at (label.Table a) → names label.Routine ≡ at label.Routine
      → AllByRecursion (OfLabel (IsLow at)) (look_up scratch a) → from + near_len rows (look_up scratch a) < 2 ^ 31 → AllPlaced rows names from (look_up scratch a)
  look_up_placed scratch a from at names page table routine low fits = (
    store_item names from (scratch + 16) (label.Table a) page (subst (λ o. IsSomeAnd o (λ p. p < 2 ^ 31)) (sym table) low.0),
    (jump_item rows emits names (from + 12) label.Routine (subst (λ o. IsSomeAnd o (λ p. p < 2 ^ 31)) (sym routine) low.1.0) (omega (arith, fits)), tt),
  )

  -- ---- a site

  spelled_low : (n : ℕ) (bytes : List ℕ) (b : ℕ) → Spells rows bytes b (insn.Ret n) → n < 2 ^ 16
  spelled_low n bytes b h = subst DropsLow (sym h.by_row.names) (built_low h.row.op _)

  wide : (x : Insn) (src : Place) (bytes : List ℕ) (b : ℕ) → Spells rows bytes b x → indirect_operand x ≡ Some src → IsTrue (is_wide_operand src)
  wide x src bytes b h e = indirect h.n h.row x src h.in_table (record { bytes = bytes; at = b; by_row = h.by_row }) e

  module _ (scratch n : ℕ) (page : scratch + 16 < 2 ^ 31) (low : n < 2 ^ 31) (bytes : List ℕ) (b : ℕ) where
    drop_whole : (count : ℕ) → count < 2 ^ 16 → AllByRecursion IsWhole (drop count)
    drop_whole zero h = tt
    drop_whole (suc k) h = (drop_moves (pos (suc k)) (low_disp (suc k) (omega (arith, h))), tt)

    head_whole : (x : Insn) → Spells rows bytes b x → NamesLow x → AllByRecursion IsWhole (load_value scratch n x)
    head_whole (insn.Ret count) h names = (save_moves scratch (omega (arith, page)), (pop_moves, drop_whole count (spelled_low count bytes b h)))
    head_whole (insn.JmpInd src) h names = (save_moves scratch (omega (arith, page)), (operand_moves src (wide _ src bytes b h refl) names, tt))
    head_whole (insn.CallInd src) h names = (
      save_moves scratch (omega (arith, page)),
      (
        operand_moves src (wide _ src bytes b h refl) names,
        (
          save_moves (scratch + 8) (omega (arith, page)),
          (
            load_moves scratch (omega (arith, page)),
            (push_moves n low, (load_moves (scratch + 8) (omega (arith, page)), tt)),
          ),
        ),
      ),
    )
    head_whole _ h names = tt

    head_count : (x : Insn) → length (load_value scratch n x) ≤ 6
    head_count (insn.Ret zero) = omega arith
    head_count (insn.Ret (suc k)) = omega arith
    head_count (insn.JmpInd src) = omega arith
    head_count (insn.CallInd src) = omega arith
    head_count _ = omega arith

  -- items behind the head of a site: they can stand, and take at most so many bytes
  record IsTail (head tail : List Item) (room : ℕ) : Type 0 where
    can_move : AllByRecursion CanMove tail
    own : AllByRecursion (OfLabel (IsOneOf (length (head ++ tail)))) tail
    few : near_len rows tail ≤ room
    placed : (at : Addresses) (from : ℕ) → AllByRecursion (OfLabel (IsLow at)) tail → from + near_len rows head + near_len rows tail < 2 ^ 31
        → AllPlaced rows (near_address rows (head ++ tail) from at) (from + near_len rows head) tail

  check_tail : (scratch a : ℕ) (head : List Item) (ts : List ℕ) → scratch + 16 < 2 ^ 31 → AllByRecursion (λ t. t < 2 ^ 31) ts → IsTail head (check scratch a (length head) 0 ts) (20 + 42 * length ts)
  check_tail scratch a head ts low all =
      let page : scratch < 2 ^ 31 = omega (arith, low) in
      let tail = check scratch a (length head) 0 ts in
      let sum = length-append head tail in
      let count = check_count scratch a page (length head) 0 ts in
      record {
        can_move = check_moves scratch a page (length head) 0 ts (omega arith) all;
        own = check_own scratch a page (length (head ++ tail)) (length head) 0 ts (omega (arith, sum, count));
        few = check_len scratch a page (length head) 0 ts;
        placed = λ at from names fits. check_placed scratch a page (head ++ tail) head from at (length head) 0 ts refl refl (omega arith) all names fits;
      }

  look_up_tail : (scratch a : ℕ) (head : List Item) (c : ℕ) → scratch + 16 < 2 ^ 31 → IsTail head (look_up scratch a) (20 + 42 * c)
  look_up_tail scratch a head c low =
      record {
        can_move = (tt, (refl, tt));
        own = (tt, (tt, tt));
        few = omega arith;
        placed = λ at from names fits. look_up_placed scratch a (from + near_len rows head) at (near_address rows (head ++ look_up scratch a) from at) low refl refl names (omega (arith, fits));
      }

  by_count : (scratch a : ℕ) (head : List Item) (ts : List ℕ) (b : Bool) → scratch + 16 < 2 ^ 31 → AllByRecursion (λ t. t < 2 ^ 31) ts
      → IsTail head (if b then check scratch a (length head) 0 ts else look_up scratch a) (20 + 42 * length ts)
  by_count scratch a head ts true low all = check_tail scratch a head ts low all
  by_count scratch a head ts false low all = look_up_tail scratch a head (length ts) low

  pub sites_are_sized : SitesAreSized rows
  sites_are_sized scratch ts a n bytes b x spells site names =
      record {
        can_move = whole_moves head tail whole is.can_move;
        own = whole_own (IsOneOf (length (head ++ tail))) head tail whole is.own;
        few = let e = len_append rows head tail in let f = whole_len head whole in let g = is.few in let k = head_count scratch n site.scratch_low site.next_low bytes b x in omega (arith, e, f, g, k);
        placed = λ at from low fits. let e = len_append rows head tail in
            whole_placed (near_address rows (head ++ tail) from at) from head tail whole (omega (arith, e, fits))
            (is.placed at from (all_later rows (OfLabel (IsLow at)) head tail low) (omega (arith, e, fits)));
      }
    where
      head : List Item
      head = load_value scratch n x

      tail : List Item
      tail = dispatch scratch a (length (load_value scratch n x)) ts

      whole : AllByRecursion IsWhole (load_value scratch n x)
      whole = head_whole scratch n site.scratch_low site.next_low bytes b x spells names

      is : IsTail head tail (20 + 42 * length ts)
      is = by_count scratch a head ts (nat_le (length ts) 32) site.scratch_low site.targets_low
