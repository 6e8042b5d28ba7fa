-- What the items of a fragment take: each has a spelling wherever they end below 2^31.
use Rattle.std.proofs.Common.{◌≡◌, ℕ, ◌+◌, ◌^◌, ◌<◌, ◌≤◌, Bool, true, false, if◌then◌else◌, List, [], ◌∷◌, length, Option, Some, None, IsSome, IsSomeAnd, refl, sym, ap, ◌∙◌, subst, arith}
use Rattle.rz_num.specs.declared.width.Width.TheVariants.{W64}
use Rattle.rz_flags.specs.declared.Cond.{Cond}
use Rattle.rz_isa.specs.declared.rows.Row.{Row}
use Rattle.rz_isa.specs.declared.rows.Form.TheVariants.{Near}
use Rattle.rz_isa.specs.declared.instruction.Insn.{Insn}
use Rattle.rz_isa.specs.declared.instruction.Insn.TheVariants as insn
use Rattle.rz_isa.specs.declared.item_list.Label.TheVariants as label
use Rattle.rz_isa.specs.declared.item_list.Item.{Item}
use Rattle.rz_isa.specs.declared.item_list.Item.TheVariants as item
use Rattle.rz_isa.specs.Canonical.{Chosen, chosen, canonical, spelled_at}
use Rattle.rz_isa.specs.Emitted.{HasSpelling, Emits, fits_8}
use Rattle.rz_isa.specs.Insn.{target_of}
use Rattle.rz_isa.specs.Items.{Addresses}
use Rattle.rz_isa.specs.Nodes.{is_site}
use Rattle.rz_isa.specs.Plan.{item_len, spelled_len, is_inner, IsPlaced}
use Rattle.rz_isa.specs.Sizes.{CanMove, IsLow, IsOneOf, IsSized, near_address}
use Rattle.rz_isa.specs.Spells.{Spells}
use Rattle.rz_isa.specs.Targets.{NamesLow, SpelledElsewhere}
use Rattle.rz_isa.specs.Within.{SpelledWithin}
use Rattle.rz_isa.specs.Laws.NearItems.{low_fits, near_jump, whole_item, jump_item, branch_item, count_item}
use Rattle.rz_encode.specs.Length.{chosen_len, ChosenLengths, SameLengths}
use Rattle.rz_machine.specs.declared.way.Transfer.TheVariants as transfer
use Rattle.rz_machine.specs.declared.way.Way.{Way}
use Rattle.rz_machine.specs.declared.way.Way.TheVariants.{Onward, Jumps, Branches, BranchesOnRcx, Transfers, Calls, Halts}
use Rattle.rz_machine.specs.Way.{way_of}
use Rattle.rz_machine.specs.Laws.Ways.{kind_in, kind_by_way, target_in, target_by_way}
use Rattle.rz_machine.specs.Sequence.{to_label, jump_to, mov_number, push_number, items_by}
use Rattle.rz_frag.specs.Fragment.{FragmentsAreSized}

-- ---- lengths

same_len : (o : Option Chosen) → chosen_len o ≡ spelled_len o
same_len None = refl
same_len (Some c) = refl

some_of : (o : Option (List ℕ)) (n : ℕ) → IsSomeAnd o (λ s. length s ≡ n) → (s : List ℕ) × (o ≡ Some s) × (length s ≡ n)
some_of (Some s) n h = (s, refl, h)
some_of None n h = absurd h

chosen_some : (o : Option Chosen) (at : ℕ) → IsSome (spelled_at at o) → IsSome o
chosen_some None at h = h
chosen_some (Some c) at h = refl

-- ---- items

module _ (rows : List Row) (emits : Emits rows) (within : SpelledWithin rows) (elsewhere : SpelledElsewhere rows) (most : ChosenLengths rows) (same : SameLengths rows) where
  len_of : Insn → ℕ
  len_of x = spelled_len (chosen rows Near x)

  short : (x : Insn) → spelled_len (chosen rows Near x) ≤ 15
  short x = subst (λ n. n ≤ 15) (same_len (chosen rows Near x)) (most x Near)

  -- an instruction of a known length
  known_len : (x : Insn) (at n : ℕ) → HasSpelling rows x at Near n → spelled_len (chosen rows Near x) ≡ n
  known_len x at n h = let s = some_of (canonical rows x at Near) n h in sym (same_len (chosen rows Near x)) ∙ sym (same x at Near s.0 s.1) ∙ s.2

  known_item : (x : Insn) (at : Addresses) (from n : ℕ) → HasSpelling rows x from Near n → IsPlaced rows at from (item.Whole x) Near
  known_item x at from n h = record { reach = tt; spelled = subst (HasSpelling rows x from Near) (sym (known_len x from n h)) h }

  -- a number pushed
  push_len : (n : ℕ) → n < 2 ^ 31 → (k : ℕ) × (k ≤ 5) × ((at : ℕ) → HasSpelling rows (push_number n) at Near k)
  push_len n low = go (fits_8 W64 n) refl
    where
      go : (b : Bool) → fits_8 W64 n ≡ b → (k : ℕ) × (k ≤ 5) × ((at : ℕ) → HasSpelling rows (push_number n) at Near k)
      go true e = (2, omega arith, λ at. emits.push_byte n at e)
      go false e = (5, omega arith, λ at. emits.push_imm n at (low_fits n low) e)

  mov_spelled : (n at : ℕ) → n < 2 ^ 31 → HasSpelling rows (mov_number 1 n) at Near 5
  mov_spelled n at low = emits.mov 1 n at (omega arith) (omega (arith, low))

  module _ (keeps : ℕ → Bool) (a n : ℕ) (x : Insn) (low : n < 2 ^ 31) (names : NamesLow x) (spelled : (bytes : List ℕ) × (b : ℕ) × Spells rows bytes b x) where
    -- labels of edges
    edge_low : (items : List Item) (from : ℕ) (at : Addresses) (b : ℕ) → IsLow at (to_label keeps a b) → IsSomeAnd (near_address rows items from at (to_label keeps a b)) (λ p. p < 2 ^ 31)
    edge_low items from at b h = go (keeps b) h
      where
        go : (v : Bool) → IsLow at (if v then label.Place b else label.Stub a) → IsSomeAnd (near_address rows items from at (if v then label.Place b else label.Stub a)) (λ p. p < 2 ^ 31)
        go true h = h
        go false h = h

    edge_own : (count b : ℕ) → IsOneOf count (to_label keeps a b)
    edge_own count b = go (keeps b)
      where
        go : (v : Bool) → IsOneOf count (if v then label.Place b else label.Stub a)
        go true = tt
        go false = tt

    edge_code : (b : ℕ) → CanMove (jump_to keeps a b)
    edge_code b = go (keeps b)
      where
        go : (v : Bool) → CanMove (item.Jump None (if v then label.Place b else label.Stub a))
        go true = refl
        go false = refl

    edge_branch : (c : Cond) (b : ℕ) → CanMove (item.Jump (Some c) (to_label keeps a b))
    edge_branch c b = go (keeps b)
      where
        go : (v : Bool) → CanMove (item.Jump (Some c) (if v then label.Place b else label.Stub a))
        go true = refl
        go false = refl

    edge_len : (b : ℕ) → item_len rows (jump_to keeps a b) Near ≡ 5
    edge_len b = near_jump None (is_inner (to_label keeps a b))

    branch_len : (c : Cond) (b : ℕ) → item_len rows (item.Jump (Some c) (to_label keeps a b)) Near ≡ 6
    branch_len c b = near_jump (Some c) (is_inner (to_label keeps a b))

    is_chosen : target_of x ≡ None → IsSome (chosen rows Near x)
    is_chosen none = chosen_some (chosen rows Near x) 0 (elsewhere x spelled.0 spelled.1 0 spelled.2 none (omega arith) names)

    no_rip : (y : Insn) → NamesLow (push_number n) × NamesLow (mov_number 1 n)
    no_rip y = (λ b e. absurd (cc), λ b e. absurd (cc))

    -- an instruction without a target, and a jump
    one : (b : ℕ) → target_of x ≡ None → IsSized rows (item.Whole x ∷ jump_to keeps a b ∷ []) 32
    one b none =
        let l = edge_len b in
        let h = short x in
        record {
          can_move = ((none, names), (edge_code b, tt));
          own = (tt, (edge_own 2 b, tt));
          few = omega (arith, l, h);
          placed = λ at from all fits. (
            whole_item rows within x _ from (is_chosen none) none names (omega (arith, fits)),
            (jump_item rows emits _ _ (to_label keeps a b) (edge_low (item.Whole x ∷ jump_to keeps a b ∷ []) from at b all.1.0) (omega (arith, fits, l)), tt),
          );
        }

    by_way : (w : Way) → way_of x ≡ w → is_site (kind_in w) ≡ false → IsSized rows (items_by w keeps a n x) 32
    by_way Onward is site = one n (target_by_way x ∙ ap target_in is)
    by_way (Jumps b) is site =
        let l = edge_len b in
        record {
          can_move = (edge_code b, tt);
          own = (edge_own 1 b, tt);
          few = omega (arith, l);
          placed = λ at from all fits. (jump_item rows emits _ from (to_label keeps a b) (edge_low (jump_to keeps a b ∷ []) from at b all.0) (omega (arith, fits, l)), tt);
        }
    by_way (Branches c b) is site =
        let l = edge_len n in
        let k = branch_len c b in
        record {
          can_move = (edge_branch c b, (edge_code n, tt));
          own = (edge_own 2 b, (edge_own 2 n, tt));
          few = omega (arith, l, k);
          placed = λ at from all fits. (
            branch_item rows emits _ from c (to_label keeps a b) (edge_low (item.Jump (Some c) (to_label keeps a b) ∷ jump_to keeps a n ∷ []) from at b all.0) (omega (arith, fits, k)),
            (jump_item rows emits _ _ (to_label keeps a n) (edge_low (item.Jump (Some c) (to_label keeps a b) ∷ jump_to keeps a n ∷ []) from at n all.1.0) (omega (arith, fits, l)), tt),
          );
        }
    by_way (BranchesOnRcx b) is site =
        let l = edge_len n in
        let k = edge_len b in
        record {
          can_move = ((refl, refl), (edge_code n, (edge_code b, tt)));
          own = (omega arith, (edge_own 3 n, (edge_own 3 b, tt)));
          few = omega (arith, l, k);
          placed = λ at from all fits. (
            count_item rows emits _ from (label.Item 2) (ap Some (seven from l)) (omega (arith, fits)),
            (
              jump_item rows emits _ _ (to_label keeps a n) (edge_low (item.Jrcxz (label.Item 2) ∷ jump_to keeps a n ∷ jump_to keeps a b ∷ []) from at n all.1.0) (omega (arith, fits, l)),
              (jump_item rows emits _ _ (to_label keeps a b) (edge_low (item.Jrcxz (label.Item 2) ∷ jump_to keeps a n ∷ jump_to keeps a b ∷ []) from at b all.1.1.0) (omega (arith, fits, l, k)), tt),
            ),
          );
        }
      where
        seven : (from : ℕ) → item_len rows (jump_to keeps a n) Near ≡ 5 → from + (2 + (item_len rows (jump_to keeps a n) Near + 0)) ≡ from + 7
        seven from l = omega (arith, l)
    by_way (Transfers (transfer.Call b)) is site =
        let l = edge_len b in
        let p = push_len n low in
        let k = known_len (push_number n) 0 p.0 (p.2 0) in
        record {
          can_move = ((refl, λ c e. absurd (cc)), (edge_code b, tt));
          own = (tt, (edge_own 2 b, tt));
          few = omega (arith, l, k, p.1);
          placed = λ at from all fits. (
            known_item (push_number n) _ from p.0 (p.2 from),
            (jump_item rows emits _ _ (to_label keeps a b) (edge_low (item.Whole (push_number n) ∷ jump_to keeps a b ∷ []) from at b all.1.0) (omega (arith, fits, l)), tt),
          );
        }
    by_way (Transfers (transfer.CallInd src)) is site = absurd (cc)
    by_way (Transfers (transfer.JmpInd src)) is site = absurd (cc)
    by_way (Transfers (transfer.Ret pop)) is site = absurd (cc)
    by_way Calls is site =
        let l = edge_len n in
        let k = known_len (mov_number 1 n) 0 5 (mov_spelled n 0 low) in
        let h = short x in
        let none : target_of x ≡ None = target_by_way x ∙ ap target_in is in
        record {
          can_move = ((none, names), ((refl, λ c e. absurd (cc)), (edge_code n, tt)));
          own = (tt, (tt, (edge_own 3 n, tt)));
          few = omega (arith, l, k, h);
          placed = λ at from all fits. (
            whole_item rows within x _ from (is_chosen none) none names (omega (arith, fits)),
            (
              known_item (mov_number 1 n) _ _ 5 (mov_spelled n _ low),
              (jump_item rows emits _ _ (to_label keeps a n) (edge_low (item.Whole x ∷ item.Whole (mov_number 1 n) ∷ jump_to keeps a n ∷ []) from at n all.1.1.0) (omega (arith, fits, l, k)), tt),
            ),
          );
        }
    by_way (Halts how) is site =
        let h = short x in
        let none : target_of x ≡ None = target_by_way x ∙ ap target_in is in
        record {
          can_move = ((none, names), tt);
          own = (tt, tt);
          few = omega (arith, h);
          placed = λ at from all fits. (whole_item rows within x _ from (is_chosen none) none names (omega (arith, fits)), tt);
        }

  pub fragments_are_sized : FragmentsAreSized rows 32
  fragments_are_sized keeps a n bytes b x spells site names low =
      by_way keeps a n x low names (bytes, b, spells) (way_of x) refl (sym (ap is_site (kind_by_way x)) ∙ site)
