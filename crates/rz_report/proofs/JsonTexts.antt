-- What is written of the reports' JSON values: a hexadecimal number has no byte that JSON escapes.
use Rattle.std.proofs.Common.{◌≡◌, ℕ, zero, suc, ◌+◌, ◌%◌, ◌/◌, ◌<◌, ◌≤◌, ◌==◌, nat_lt, true, false, if◌then◌else◌, List, [], ◌∷◌, ◌++◌, codes, decimal, refl, ap₂, arith, append_assoc}
use Rattle.std.specs.List.{AllByRecursion}
use Rattle.std.specs.Fmt.{digits, digits_onto, digit_glyph}
use Rattle.std.proofs.lemmas.Bool.{ltb-false}
use Rattle.json.specs.Print.{escape}
use Rattle.json.proofs.Printed.Strings.{escape_byte_plain}
use Rattle.serde_json.specs.Data.{string, number, unsigned, object, member, no_members, array, item, no_items}
use Rattle.serde_json.specs.Written.{compact_text}
use Rattle.serde_json.proofs.OnLiterals.{serde_json_on_literals}
use Rattle.rz_num.specs.Texts.{hex_text}
use Rattle.rz_report.specs.Report.{report_text, pair_text}

-- a byte that a JSON text has as it is
record StandsBare (x : ℕ) : Type 0 where
  quote : x ≡ 34 → ⊥
  backslash : x ≡ 92 → ⊥
  visible : 32 ≤ x

bare : (xs : List ℕ) → AllByRecursion StandsBare xs → escape xs ≡ xs
bare [] h = refl
bare (x ∷ xs) h = ap₂ ◌++◌ (escape_byte_plain x h.0.quote h.0.backslash h.0.visible) (bare xs h.1)

-- ---- a digit, and the digits of a number

digit_bare : (d : ℕ) → d < 16 → StandsBare (digit_glyph false d)
digit_bare d low =
    elim (nat_lt d 10) as (λ b. nat_lt d 10 ≡ b → StandsBare (if b then 48 + d else 87 + d)) [
      | true ↦ λ e. record { quote = λ q. omega arith; backslash = λ q. omega arith; visible = omega arith }
      | false ↦ λ e. let high = ltb-false d 10 e in record { quote = λ q. omega arith; backslash = λ q. omega arith; visible = omega arith }
    ] refl

digits_bare : (k n : ℕ) (after : List ℕ) → AllByRecursion StandsBare after → AllByRecursion StandsBare (digits_onto k 16 false n after)
digits_bare zero n after h = h
digits_bare (suc k) n after h =
    let here : AllByRecursion StandsBare (digit_glyph false (n % 16) ∷ after) = (digit_bare (n % 16) (omega arith), h) in
    elim (n / 16 == 0) as (λ b. AllByRecursion StandsBare (if b then digit_glyph false (n % 16) ∷ after else digits_onto k 16 false (n / 16) (digit_glyph false (n % 16) ∷ after))) [
      | true ↦ here
      | false ↦ digits_bare k (n / 16) (digit_glyph false (n % 16) ∷ after) here
    ]

escape_digits : (n : ℕ) → escape (digits 16 false n) ≡ digits 16 false n
unfolding digits
escape_digits n = bare (digits 16 false n) (digits_bare 64 n [] tt)

-- ---- the reports, with a line feed behind them

pub report_written : (added edges instructions site_edges sites : ℕ)
    → compact_text (object
    (member (codes "added") (string (hex_text added))
    (member (codes "edges") (number (unsigned edges))
    (member (codes "instructions") (number (unsigned instructions))
    (member (codes "site_edges") (number (unsigned site_edges))
    (member (codes "sites") (number (unsigned sites)) no_members))))))
    ++ 10 ∷ []
    ≡ report_text added edges instructions site_edges sites
unfolding serde_json_on_literals
report_written added edges instructions site_edges sites =
    rw (escape_digits added, append_assoc (digits 16 false added) (34 ∷ []) _, append_assoc (digits 16 false added) _ (10 ∷ []), append_assoc (decimal edges) _ (10 ∷ []), append_assoc (decimal instructions) _ (10 ∷ []), append_assoc (decimal site_edges) _ (10 ∷ []), append_assoc (decimal sites) _ (10 ∷ [])) refl

pub pair_written : (old_executable new_executable instructions old_length new_length : ℕ)
    → compact_text (object
    (member (codes "executable") (array (item (number (unsigned old_executable)) (item (number (unsigned new_executable)) no_items)))
    (member (codes "instructions") (number (unsigned instructions))
    (member (codes "length") (array (item (number (unsigned old_length)) (item (number (unsigned new_length)) no_items))) no_members))))
    ++ 10 ∷ []
    ≡ pair_text old_executable new_executable instructions old_length new_length
unfolding serde_json_on_literals
pair_written a b i c d =
    rw (append_assoc (decimal a) _ _, append_assoc (decimal b) _ _, append_assoc (decimal c) _ _, append_assoc (decimal d) _ _, append_assoc (decimal a) _ (10 ∷ []), append_assoc (decimal b) _ (10 ∷ []), append_assoc (decimal i) _ (10 ∷ []), append_assoc (decimal c) _ (10 ∷ []), append_assoc (decimal d) _ (10 ∷ [])) refl
