-- Spellings of the instructions that items are, at low addresses.
use Rattle.std.proofs.Common.{◌≡◌, ℕ, ◌+◌, ◌-◌, ◌%◌, ◌^◌, ◌<◌, ◌≤◌, true, List, length, Option, Some, None, refl, sym, ◌∙◌, ap, arith, inl, inr}
use Rattle.std.specs.Prelude.{nat_lt, IsTrue, IsSome, IsSomeAnd}
use Rattle.std.proofs.lemmas.Bool.{cases_lt}
use Rattle.std.proofs.lemmas.Bool.Decides.{nat_tests}
use Rattle.rz_num.specs.declared.width.Width.TheVariants.{W64}
use Rattle.rz_flags.specs.declared.Cond.{Cond}
use Rattle.rz_isa.specs.declared.rows.Row.{Row}
use Rattle.rz_isa.specs.declared.rows.Form.TheVariants.{Near, Short}
use Rattle.rz_isa.specs.declared.instruction.Insn.{Insn}
use Rattle.rz_isa.specs.declared.instruction.Insn.TheVariants as insn
use Rattle.rz_isa.specs.Having.{is_extended, is_memory}
use Rattle.rz_isa.specs.Canonical.{offset, Chosen, chosen, canonical, spelled_at}
use Rattle.rz_isa.specs.Insn.{target_of}
use Rattle.rz_isa.specs.Targets.{NamesLow}
use Rattle.rz_isa.specs.Within.{SpelledWithin}
use Rattle.rz_isa.specs.Emitted.{Emits, HasSpelling, close, fits_32}
use Rattle.rz_isa.specs.Items.{absolute, store}
use Rattle.rz_isa.specs.Plan.{spelled_len, near_len, Reaches}
use Rattle.rz_isa.specs.Laws.NearItems.{near_low}
use Rattle.rz_encode.specs.Length.{chosen_len, SameLengths}

-- ---- displacements

extended_forward : (n : ℕ) → n < 128 → is_extended (2 ^ 7) (2 ^ 64) n ≡ true
extended_forward n h = grind (arith, nat_tests)

extended_backward : (n : ℕ) → n < 2 ^ 64 → 2 ^ 64 - 2 ^ 7 ≤ n → is_extended (2 ^ 7) (2 ^ 64) n ≡ true
extended_backward n h k = grind (arith, nat_tests)

pub close_low : (at t : ℕ) → at + 2 < 2 ^ 31 → t < 2 ^ 31 → Reaches (at + 2) t → IsTrue (close at 2 t)
close_low at t h k r =
    let e : (at + 2) % 2 ^ 64 ≡ at + 2 = omega arith in
    ap (λ n. is_extended (2 ^ 7) (2 ^ 64) (offset n t)) e
    ∙ elim (cases_lt t (at + 2)) [
      | inl back ↦
          let o : (t + (2 ^ 64 - (at + 2))) % 2 ^ 64 ≡ t + (2 ^ 64 - (at + 2)) = omega arith in
          ap (is_extended (2 ^ 7) (2 ^ 64)) o ∙ extended_backward (t + (2 ^ 64 - (at + 2))) (omega arith) (omega (arith, r.backward))
      | inr forward ↦
          let o : (t + (2 ^ 64 - (at + 2))) % 2 ^ 64 ≡ t - (at + 2) = omega arith in
          ap (is_extended (2 ^ 7) (2 ^ 64)) o ∙ extended_forward (t - (at + 2)) (omega (arith, r.forward))
    ]

-- ---- spellings of a known length

some_chosen : (at : ℕ) (o : Option Chosen) (P : List ℕ → Type 0) → IsSomeAnd (spelled_at at o) P → IsSome o
some_chosen at None P h = absurd h
some_chosen at (Some c) P h = refl

-- an instruction with a spelling somewhere has a row that is chosen
pub has_chosen : (rows : List Row) (x : Insn) (at n : ℕ) → HasSpelling rows x at Near n → IsSome (chosen rows Near x)
has_chosen rows x at n h = some_chosen at (chosen rows Near x) (λ s. length s ≡ n) h

some_of : (o : Option (List ℕ)) (n : ℕ) → IsSomeAnd o (λ s. length s ≡ n) → (s : List ℕ) × (o ≡ Some s) × (length s ≡ n)
some_of (Some s) n h = (s, refl, h)
some_of None n h = absurd h

len_is : (o : Option Chosen) → chosen_len o ≡ spelled_len o
len_is None = refl
len_is (Some c) = refl

-- its spellings have the length of what is chosen
known_len : (rows : List Row) → SameLengths rows → (x : Insn) (at n : ℕ) → HasSpelling rows x at Near n → spelled_len (chosen rows Near x) ≡ n
known_len rows same x at n h =
    let s = some_of (canonical rows x at Near) n h in
    sym (len_is (chosen rows Near x)) ∙ (sym (same x at Near s.0 s.1) ∙ s.2)

-- what has a spelling somewhere has one as long elsewhere
pub moved : (rows : List Row) → SpelledWithin rows → SameLengths rows → (x : Insn) (at from n : ℕ) → HasSpelling rows x at Near n → target_of x ≡ None → NamesLow x → from + n < 2 ^ 31 → HasSpelling rows x from Near n
moved rows within same x at from n h none low end =
    let long = known_len rows same x at n h in
    rw long at (within x from (has_chosen rows x at n h) none low (rw long end))

-- ---- jumps

abbrev pub jump : Option Cond → ℕ → Insn
jump None t = insn.Jmp t
jump (Some cond) t = insn.Jcc cond t

pub jump_near : (rows : List Row) → Emits rows → (cond : Option Cond) (t from : ℕ) → t < 2 ^ 31 → from + near_len cond < 2 ^ 31 → HasSpelling rows (jump cond t) from Near (near_len cond)
jump_near rows emits None t from h k = emits.jmp t from (omega arith) (near_low from 5 t (omega (arith, k)) h)
jump_near rows emits (Some cond) t from h k = emits.jcc cond t from (omega arith) (near_low from 6 t (omega (arith, k)) h)

pub jump_short : (rows : List Row) → Emits rows → (cond : Option Cond) (t from : ℕ) → t < 2 ^ 31 → from + 2 < 2 ^ 31 → Reaches (from + 2) t → HasSpelling rows (jump cond t) from Short 2
jump_short rows emits None t from h k r = emits.jmp_short t from (omega arith) (close_low from t k h r)
jump_short rows emits (Some cond) t from h k r = emits.jcc_short cond t from (omega arith) (close_low from t k h r)

pub jrcxz_spelled : (rows : List Row) → Emits rows → (t from : ℕ) → t < 2 ^ 31 → from + 2 < 2 ^ 31 → Reaches (from + 2) t → HasSpelling rows (insn.Jrcxz t) from Near 2
jrcxz_spelled rows emits t from h k r = emits.jrcxz t from (omega arith) (close_low from t k h r)

-- ---- stores

fits_low : (t : ℕ) → t < 2 ^ 31 → IsTrue (fits_32 W64 t)
fits_low t h = grind (arith, nat_tests)

absolute_is_memory : (a : ℕ) → nat_lt a (2 ^ 31) ≡ true → IsTrue (is_memory (absolute a))
absolute_is_memory a h = h

pub store_spelled : (rows : List Row) → Emits rows → (a t from : ℕ) → nat_lt a (2 ^ 31) ≡ true → t < 2 ^ 31 → HasSpelling rows (store a t) from Near 12
store_spelled rows emits a t from h k = emits.store_imm t from (absolute a) (fits_low t k) (absolute_is_memory a h)

pub store_names_low : (a t : ℕ) → NamesLow (store a t)
store_names_low a t b e = absurd (cc)
