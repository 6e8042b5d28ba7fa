-- Names in string tables: which have an end, and that 256 bytes tell whether a string is a name.
use Rattle.std.proofs.Common.{◌≡◌, ◌≢◌, ℕ, zero, suc, ◌+◌, ◌-◌, ◌*◌, ◌/◌, ◌<◌, ◌≤◌, ◌==◌, min, ◌&&◌, not, Bool, true, false, cond, if◌then◌else◌, nat_le, List, [], ◌∷◌, length, take, drop, get_or, Option, Some, None, refl, sym, ap, ◌∙◌, arith, eq-eqb, eqb-true, length-drop, length-take-le, inl, inr}
use Rattle.std.specs.List.{list_any, list_all, before_first, position_or_len}
use Rattle.std.proofs.lemmas.Bool.{cases_lt}
use Rattle.std.proofs.lemmas.Bool.Decides.{nat_tests}
use Rattle.std.proofs.lemmas.List.{get_or-drop}
use Rattle.std.proofs.lemmas.List.{take_all, take_rest, drop_all}
use Rattle.std.proofs.lemmas.List.Folds.{list_any_at, list_any_none}
use Rattle.std.proofs.lemmas.List.Elements.{All-from_get_or}
use Rattle.rz_syms.specs.declared.entry.Symbol.{Symbol}
use Rattle.rz_syms.specs.declared.fault.SymFault.{SymFault}
use Rattle.rz_syms.specs.declared.fault.SymFault.TheVariants as fault
use Rattle.rz_syms.specs.Fault.{has_end, name_fault}
use Rattle.rz_syms.specs.Symbols.{symbol_of, symbols_in, is_visible, is_name}
use Rattle.rz_syms.specs.Calls.Named.{IsEnd}
use Rattle.rz_syms.proofs.SymbolLaws.{symbols_from, symbols_turn, symbols_first, symbols_end}

-- ---- names with an end

false_from : (b : Bool) → (b ≡ true → ⊥) → b ≡ false
false_from true h = absurd (h refl)
false_from false h = refl

-- a place before the end of the last name has a zero at or behind it
pub zero_behind : (table : List ℕ) (end at : ℕ) → IsEnd table end → at < end → list_any (λ b. b == 0) (drop at table) ≡ true
zero_behind table end at is lt =
    let last : end ≡ (end - 1) + 1 = omega arith in
    let zero : get_or table (end - 1) 0 ≡ 0 = is.zero (end - 1) last in
    let within = is.within in
    let place : ℕ = end - 1 - at in
    let to : at + place ≡ end - 1 = omega arith in
    let read : get_or (drop at table) place 0 ≡ 0 = get_or-drop at table place 0 ∙ ap (λ k. get_or table k 0) to ∙ zero in
    let len = length-drop at table in
    list_any_at (λ b. b == 0) (drop at table) place 0 (omega (arith, len, within)) (eq-eqb (get_or (drop at table) place 0) 0 read)

-- any other has none
pub no_zero_behind : (table : List ℕ) (end at : ℕ) → IsEnd table end → end ≤ at → list_any (λ b. b == 0) (drop at table) ≡ false
no_zero_behind table end at is le =
    list_any_none (λ b. b == 0) (drop at table) (All-from_get_or (λ (b : ℕ). (b == 0) ≡ false) (drop at table) 0 (λ k below.
    let len = length-drop at table in
    let other : get_or table (at + k) 0 ≢ 0 = is.behind (at + k) (omega (arith, le)) (omega (arith, len, below)) in
    false_from (get_or (drop at table) k 0 == 0) (λ h. other (sym (get_or-drop at table k 0) ∙ eqb-true (get_or (drop at table) k 0) 0 h))))

-- the fault of the names from a symbol on
abbrev pub fault_from : List ℕ → List ℕ → ℕ → Option SymFault
fault_from table bytes i = name_fault table i (symbols_from bytes i)

pub fault_first : (table bytes : List ℕ) → fault_from table bytes 0 ≡ name_fault table 0 (symbols_in bytes)
fault_first table bytes = ap (name_fault table 0) (symbols_first bytes)

ends : (table : List ℕ) (i : ℕ) (s : Symbol) (rest : List Symbol) → has_end table s ≡ true → name_fault table i (s ∷ rest) ≡ name_fault table (suc i) rest
ends table i s rest h = ap (λ b. if b then name_fault table (suc i) rest else Some (fault.Name i)) h

never_ends : (table : List ℕ) (i : ℕ) (s : Symbol) (rest : List Symbol) → has_end table s ≡ false → name_fault table i (s ∷ rest) ≡ Some (fault.Name i)
never_ends table i s rest h = ap (λ b. if b then name_fault table (suc i) rest else Some (fault.Name i)) h

pub fault_later : (table bytes : List ℕ) (end i : ℕ) (s : Symbol) → IsEnd table end → i < length bytes / 24 → s ≡ symbol_of (drop (24 * i) bytes) → s.name < end
    → fault_from table bytes i ≡ name_fault table 0 (symbols_in bytes) → fault_from table bytes (i + 1) ≡ name_fault table 0 (symbols_in bytes)
fault_later table bytes end i s is lt e below held =
    let one : i + 1 ≡ suc i = omega arith in
    let has : has_end table s ≡ true = zero_behind table end s.name is below in
    ap (λ k. name_fault table k (symbols_from bytes (i + 1))) one
    ∙ sym (ends table i s (symbols_from bytes (i + 1)) has)
    ∙ ap (λ (t : Symbol). name_fault table i (t ∷ symbols_from bytes (i + 1))) e
    ∙ sym (ap (name_fault table i) (symbols_turn bytes i lt))
    ∙ held

pub fault_here : (table bytes : List ℕ) (end i : ℕ) (s : Symbol) → IsEnd table end → i < length bytes / 24 → s ≡ symbol_of (drop (24 * i) bytes) → end ≤ s.name
    → fault_from table bytes i ≡ name_fault table 0 (symbols_in bytes) → Some (fault.Name i) ≡ name_fault table 0 (symbols_in bytes)
fault_here table bytes end i s is lt e past held =
    let none : has_end table s ≡ false = no_zero_behind table end s.name is past in
    sym (never_ends table i s (symbols_from bytes (i + 1)) none)
    ∙ ap (λ (t : Symbol). name_fault table i (t ∷ symbols_from bytes (i + 1))) e
    ∙ sym (ap (name_fault table i) (symbols_turn bytes i lt))
    ∙ held

pub fault_none : (table bytes : List ℕ) (i : ℕ) → length bytes / 24 ≤ i → fault_from table bytes i ≡ name_fault table 0 (symbols_in bytes) → None ≡ name_fault table 0 (symbols_in bytes)
fault_none table bytes i le held = sym (ap (name_fault table i) (symbols_end bytes i le)) ∙ held

-- ---- names by their front

-- the string in a front is the front of the string
pub string_front : (n : ℕ) (bytes : List ℕ) → before_first (λ b. b == 0) (take n bytes) ≡ take n (before_first (λ b. b == 0) bytes)
string_front zero bytes = refl
string_front (suc n) [] = refl
string_front (suc n) (b ∷ bytes) = go (b == 0) (string_front n bytes)
  where
    go : (z : Bool) → before_first (λ a. a == 0) (take n bytes) ≡ take n (before_first (λ a. a == 0) bytes)
        → take (cond (not z) (1 + position_or_len (λ a. a == 0) (take n bytes)) 0) (b ∷ take n bytes) ≡ take (suc n) (take (cond (not z) (1 + position_or_len (λ a. a == 0) bytes) 0) (b ∷ bytes))
    go true ih = refl
    go false ih =
        let k : ℕ = position_or_len (λ a. a == 0) (take n bytes) in
        let m : ℕ = position_or_len (λ a. a == 0) bytes in
        let one : 1 + k ≡ suc k = omega arith in
        let more : 1 + m ≡ suc m = omega arith in
        ap (λ j. take j (b ∷ take n bytes)) one ∙ ap (λ (l : List ℕ). b ∷ l) ih ∙ ap (λ j. take (suc n) (take j (b ∷ bytes))) (sym more)

-- more than 255 characters
too_long : (string : List ℕ) → 255 < length string → is_name 255 string ≡ false
too_long string long =
    let test : nat_le (length string) 255 ≡ false = grind (arith, nat_tests, long) in
    go (nat_le 1 (length string)) (nat_le (length string) 255) test
  where
    go : (a b : Bool) → b ≡ false → (a && (b && list_all is_visible string)) ≡ false
    go true true h = absurd (cc)
    go true false h = refl
    go false b h = refl

-- a front of 256 bytes tells whether a string has 1 to 255 characters
pub name_front : (string : List ℕ) → is_name 255 (take 256 string) ≡ is_name 255 string
name_front string = elim (cases_lt 256 (length string)) [
  | inl more ↦
      let len = length-take-le 256 string (omega (arith, more)) in
      too_long (take 256 string) (omega (arith, len)) ∙ sym (too_long string (omega (arith, more)))
  | inr fits ↦ ap (is_name 255) (take_all 256 string fits)
]

-- the first 256 bytes from a place on, as two slices give them
pub front_is : (strings : List ℕ) (at m n : ℕ) → m ≡ min at (length strings) → n ≡ min (length (take (length strings - m) (drop m strings))) 256
    → take n (take (length strings - m) (drop m strings)) ≡ take 256 (drop at strings)
front_is strings at m n is_m is_n =
    ap (take n) rest ∙ elim (cases_lt 256 (length (drop at strings))) [
      | inl more ↦
          let len = ap length rest in
          let e : n ≡ 256 = omega (arith, is_n, len, more) in
          ap (λ k. take k (drop at strings)) e
      | inr fits ↦
          let len = ap length rest in
          let e : length (drop at strings) ≤ n = omega (arith, is_n, len, fits) in
          take_all n (drop at strings) e ∙ sym (take_all 256 (drop at strings) fits)
    ]
  where
    rest : take (length strings - m) (drop m strings) ≡ drop at strings
    rest = take_rest strings m ∙ elim (cases_lt at (length strings)) [
      | inl inside ↦ let e : m ≡ at = omega (arith, is_m, inside) in ap (λ k. drop k strings) e
      | inr past ↦
          let e : length strings ≤ m = omega (arith, is_m, past) in
          drop_all m strings e ∙ sym (drop_all at strings past)
    ]
