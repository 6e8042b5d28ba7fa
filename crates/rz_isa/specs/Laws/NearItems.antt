-- Items at low addresses, every jump near: each is placed where it ends below 2^31.
use Rattle.std.proofs.Common.{◌≡◌, ℕ, ◌+◌, ◌-◌, ◌%◌, ◌^◌, ◌<◌, ◌≤◌, Bool, true, false, List, Option, Some, None, IsTrue, IsSome, IsSomeAnd, refl, sym, ap, ◌∙◌, subst, arith}
use Rattle.std.specs.Option.{option_map}
use Rattle.std.proofs.lemmas.Bool.Decides.{nat_tests}
use Rattle.rz_num.specs.declared.width.Width.TheVariants.{W64}
use Rattle.rz_flags.specs.declared.Cond.{Cond}
use Rattle.rz_isa.specs.declared.rows.Row.{Row}
use Rattle.rz_isa.specs.declared.rows.Form.TheVariants.{Near}
use Rattle.rz_isa.specs.declared.instruction.Insn.{Insn}
use Rattle.rz_isa.specs.declared.instruction.Insn.TheVariants as insn
use Rattle.rz_isa.specs.declared.item_list.Label.{Label}
use Rattle.rz_isa.specs.declared.item_list.Item.TheVariants as item
use Rattle.rz_isa.specs.Canonical.{chosen, offset}
use Rattle.rz_isa.specs.Emitted.{HasSpelling, Emits, near, close, fits_32}
use Rattle.rz_isa.specs.Having.{is_extended}
use Rattle.rz_isa.specs.Insn.{target_of}
use Rattle.rz_isa.specs.Items.{Addresses}
use Rattle.rz_isa.specs.Plan.{jump_len, near_len, spelled_len, is_inner, IsPlaced, Reaches}
use Rattle.rz_isa.specs.Targets.{NamesLow}
use Rattle.rz_isa.specs.Within.{SpelledWithin}

-- ---- reach between low addresses

extended_low : (n t : ℕ) → n < 2 ^ 32 → t < 2 ^ 31 → n ≤ 2 ^ 31 → is_extended (2 ^ 31) (2 ^ 64) ((t + (2 ^ 64 - n)) % 2 ^ 64) ≡ true
extended_low n t h k l = grind (arith, nat_tests)

pub near_low : (at len t : ℕ) → at + len ≤ 2 ^ 31 → t < 2 ^ 31 → IsTrue (near at len t)
near_low at len t h k =
    let e : (at + len) % 2 ^ 64 ≡ at + len = omega arith in
    ap (λ n. is_extended (2 ^ 31) (2 ^ 64) (offset n t)) e ∙ extended_low (at + len) t (omega arith) k h

-- over five bytes
close_over : (at : ℕ) → at < 2 ^ 31 → IsTrue (close at 2 (at + 7))
close_over at h =
    let e : (at + 2) % 2 ^ 64 ≡ at + 2 = omega arith in
    let f : (at + 7 + (2 ^ 64 - (at + 2))) % 2 ^ 64 ≡ 5 = omega arith in
    ap (λ n. is_extended (2 ^ 7) (2 ^ 64) (offset n (at + 7))) e ∙ ap (is_extended (2 ^ 7) (2 ^ 64)) f

pub low_fits : (n : ℕ) → n < 2 ^ 31 → IsTrue (fits_32 W64 n)
low_fits n h = grind (arith, nat_tests)

-- ---- items

-- how long a near jump is
pub near_jump : (c : Option Cond) (inner : Bool) → jump_len c inner Near ≡ near_len c
near_jump c true = refl
near_jump c false = refl

-- an instruction as it is
pub whole_item : (rows : List Row) → SpelledWithin rows → (x : Insn) (at : Addresses) (from : ℕ) → IsSome (chosen rows Near x) → target_of x ≡ None → NamesLow x
    → from + spelled_len (chosen rows Near x) < 2 ^ 31 → IsPlaced rows at from (item.Whole x) Near
whole_item rows within x at from some none low fits = record { reach = tt; spelled = within x from some none low fits }

module _ (rows : List Row) (emits : Emits rows) where
  -- a jump to a label that names a low address
  pub jump_item : (at : Addresses) (from : ℕ) (to : Label) → IsSomeAnd (at to) (λ p. p < 2 ^ 31) → from + 5 ≤ 2 ^ 31 → IsPlaced rows at from (item.Jump None to) Near
  jump_item at from to low fits = record { reach = tt; spelled = go (at to) low }
    where
      go : (o : Option ℕ) → IsSomeAnd o (λ p. p < 2 ^ 31) → IsSomeAnd (option_map (λ t. insn.Jmp t) o) (λ x. HasSpelling rows x from Near (jump_len None (is_inner to) Near))
      go None h = absurd h
      go (Some t) h = subst (HasSpelling rows (insn.Jmp t) from Near) (sym (near_jump None (is_inner to))) (emits.jmp t from (omega (arith, h)) (near_low from 5 t fits h))

  pub branch_item : (at : Addresses) (from : ℕ) (c : Cond) (to : Label) → IsSomeAnd (at to) (λ p. p < 2 ^ 31) → from + 6 ≤ 2 ^ 31 → IsPlaced rows at from (item.Jump (Some c) to) Near
  branch_item at from c to low fits = record { reach = tt; spelled = go (at to) low }
    where
      go : (o : Option ℕ) → IsSomeAnd o (λ p. p < 2 ^ 31) → IsSomeAnd (option_map (λ t. insn.Jcc c t) o) (λ x. HasSpelling rows x from Near (jump_len (Some c) (is_inner to) Near))
      go None h = absurd h
      go (Some t) h = subst (HasSpelling rows (insn.Jcc c t) from Near) (sym (near_jump (Some c) (is_inner to))) (emits.jcc c t from (omega (arith, h)) (near_low from 6 t fits h))

  -- JRCXZ over a near jump
  pub count_item : (at : Addresses) (from : ℕ) (to : Label) → at to ≡ Some (from + 7) → from < 2 ^ 31 → IsPlaced rows at from (item.Jrcxz to) Near
  count_item at from to e fits =
      let there : Reaches (from + 2) (from + 7) = record { forward = omega arith; backward = omega arith } in
      record {
        reach = subst (λ o. IsSomeAnd o (Reaches (from + 2))) (sym e) there;
        spelled = subst (λ o. IsSomeAnd (option_map (λ t. insn.Jrcxz t) o) (λ x. HasSpelling rows x from Near 2)) (sym e) (emits.jrcxz (from + 7) from (omega (arith, fits)) (close_over from fits));
      }
