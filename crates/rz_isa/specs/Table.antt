use Rattle.std.specs.Prelude.{ℕ, zero, suc, ◌≡◌, ◌+◌, ◌-◌, ◌≤◌, ◌<◌, ◌==◌, max, min, Bool, true, false, not, ◌&&◌, ◌||◌, List, [], ◌∷◌, ◌++◌, length, Option, Some, None, IsSome, slice_get, if◌then◌else◌}
use Rattle.std.specs.List.{list_all, take_while}
use Rattle.rz_isa.specs.declared.rows.Row.{Row}
use Rattle.rz_isa.specs.declared.rows.OpMap.{OpMap}
use Rattle.rz_isa.specs.declared.rows.OpMap.TheVariants as maps
use Rattle.rz_isa.specs.declared.rows.RmRule.{RmRule}
use Rattle.rz_isa.specs.declared.rows.RmRule.TheVariants as rules
use Rattle.rz_isa.specs.declared.instruction.Insn.{Insn}
use Rattle.rz_isa.specs.declared.instruction.Insn.TheVariants as insns
use Rattle.rz_isa.specs.declared.instruction.Rep.TheVariants as reps
use Rattle.rz_isa.specs.Spelling.{Parts, SpelledBy, is_prefix, is_rex, times, clash, f3_demand, w_demand, b_demand}
use Rattle.rz_isa.specs.declared.rows.Form.{Form}
use Rattle.rz_isa.specs.Spells.{RowSpells, Spells}
use Rattle.rz_isa.specs.Canonical.{chosen, canonical}

-- ---- what is asked of one row

-- an opcode of one byte is no prefix, no REX and no escape
abbrev pub opcode_plain : OpMap → ℕ → Bool
opcode_plain maps.One b = not (is_prefix b) && not (is_rex b) && not (b == 0x0f)
opcode_plain maps.Two b = true

-- a digit stands in the reg field of a ModRM byte that isn't fixed
abbrev pub digit_ruled : Option ℕ → Option RmRule → Bool
digit_ruled (Some d) None = false
digit_ruled (Some d) (Some (rules.Fixed b)) = false
digit_ruled _ _ = true

-- the test holds from a on, n times
abbrev pub each_from : (ℕ → Bool) → ℕ → ℕ → Bool
each_from p a zero = true
each_from p a (suc n) = p (a + n) && each_from p a n

abbrev pub is_plain : Row → Bool
is_plain r = each_from (opcode_plain r.map) r.opcode r.span && digit_ruled r.digit r.rm

-- ---- what is asked of two rows: their heads exclude each other

abbrev pub same_map : OpMap → OpMap → Bool
same_map maps.One maps.One = true
same_map maps.Two maps.Two = true
same_map _ _ = false

-- one demands of F3, REX.W or REX.B at this opcode what the other doesn't accept
abbrev pub clash_at : Row → Row → ℕ → Bool
clash_at a b o = clash (f3_demand a.f3) (f3_demand b.f3) || clash (w_demand a.size) (w_demand b.size) || clash (b_demand a.op a.map o) (b_demand b.op b.map o)

abbrev pub shared_clash : Row → Row → Bool
shared_clash a b = let first = max a.opcode b.opcode in each_from (clash_at a b) first (min (a.opcode + a.span) (b.opcode + b.span) - first)

abbrev pub excludes : Row → Row → Bool
excludes a b = not (same_map a.map b.map) || clash a.digit b.digit || shared_clash a b

abbrev pub all_exclude : List Row → Bool
all_exclude [] = true
all_exclude (r ∷ rs) = list_all (excludes r) rs && all_exclude rs

-- ---- the laws of a table

-- no bytes are spelled by two rows, no spelling is a proper front of another, and the bytes fix the parts
pub record OneReading (n m : ℕ) (p q : Parts) (more : List ℕ) : Type 0 where
  pub row : n ≡ m
  pub parts : p ≡ q
  pub whole : more ≡ []

abbrev pub OneRow : List Row → Type 0
OneRow rows = (n m : ℕ) (r q : Row) (s more : List ℕ) (a b : Parts) → slice_get rows n ≡ Some r → slice_get rows m ≡ Some q
    → SpelledBy r a s → SpelledBy q b (s ++ more) → OneReading n m a b more

-- every spelling has 1 to 15 bytes
abbrev pub Lengths : List Row → Type 0
Lengths rows = (s : List ℕ) (at : ℕ) (x : Insn) → Spells rows s at x → (1 ≤ length s) × (length s ≤ 15)

-- the row spells the instruction at some address
pub record SpelledSomewhere (row : Row) (x : Insn) : Type 0 where
  pub bytes : List ℕ
  pub at : ℕ
  pub by_row : RowSpells row bytes at x

-- the first row of the form that spells the instruction at some address
pub record IsCanonicalRow (rows : List Row) (form : Form) (x : Insn) (n : ℕ) : Type 0 where
  pub row : Row
  pub in_table : slice_get rows n ≡ Some row
  pub same_form : row.form ≡ form
  pub somewhere : SpelledSomewhere row x
  pub first : (m : ℕ) (q : Row) → m < n → slice_get rows m ≡ Some q → q.form ≡ form → ¬ SpelledSomewhere q x

-- each instruction that some row spells has exactly one canonical row for each form that it has
abbrev pub OneCanonicalRow : List Row → Type 0
OneCanonicalRow rows = (x : Insn) (form : Form) (m : ℕ) (q : Row) → slice_get rows m ≡ Some q → q.form ≡ form → SpelledSomewhere q x
    → (n : ℕ) × (IsCanonicalRow rows form x n × ((k : ℕ) → IsCanonicalRow rows form x k → k ≡ n))

-- an instruction that some row of a form spells somewhere has a chosen row of that form
abbrev pub HasChosen : List Row → Type 0
HasChosen rows = (x : Insn) (form : Form) (m : ℕ) (q : Row) → slice_get rows m ≡ Some q → q.form ≡ form → SpelledSomewhere q x → IsSome (chosen rows form x)

-- a canonical spelling is one by the canonical row
abbrev pub CanonicalSpells : List Row → Type 0
CanonicalSpells rows = (x : Insn) (at : ℕ) (form : Form) (s : List ℕ) → canonical rows x at form ≡ Some s
    → (n : ℕ) × (IsCanonicalRow rows form x n × ((row : Row) → slice_get rows n ≡ Some row → RowSpells row s at x))

-- a comparison of strings that repeats while what is compared is not equal
abbrev pub is_while_not : Insn → Bool
is_while_not (insns.Cmps w reps.WhileNot) = true
is_while_not (insns.Scas w reps.WhileNot) = true
is_while_not x = false

-- no F0 stands, and F2 exactly for such a comparison (volume 2, section 2.1.1)
pub record PlainPrefixes (x : Insn) (s : List ℕ) : Type 0 where
  pub no_lock : times 0xf0 (take_while is_prefix s) ≡ 0
  pub while_not : times 0xf2 (take_while is_prefix s) ≡ (if is_while_not x then 1 else 0)

-- so in a canonical spelling
abbrev pub CanonicalPrefixes : List Row → Type 0
CanonicalPrefixes rows = (x : Insn) (at : ℕ) (form : Form) (s : List ℕ) → canonical rows x at form ≡ Some s → PlainPrefixes x s

-- no spelling of the instruction at that address by its canonical row is shorter
abbrev pub CanonicalShortest : List Row → Type 0
CanonicalShortest rows = (x : Insn) (at : ℕ) (form : Form) (s t : List ℕ) (n : ℕ) (row : Row) → canonical rows x at form ≡ Some s
    → IsCanonicalRow rows form x n → slice_get rows n ≡ Some row → RowSpells row t at x → length s ≤ length t
