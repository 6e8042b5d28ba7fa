use Rattle.std.proofs.Common.{ℕ, ◌≡◌, ◌≤◌, List, Some, None, ap, sym, ◌∙◌, arith, length, true, false, inl, inr}
use Rattle.std.specs.Prelude.{nat_le, slice_get}
use Rattle.std.proofs.lemmas.Bool.{cases_Bool}
use Rattle.std.proofs.lemmas.Bool.Decides.{nat_tests}
use Rattle.rz_isa.specs.declared.rows.Row.{Row}
use Rattle.rz_num.specs.Bytes.{are_bytes}
use Rattle.rz_isa.specs.Spelling.{is_prefix}
use Rattle.rz_isa.specs.Reading.{Head, skip_while, behind_rex, opcode_at, head_at}
use Rattle.rz_isa.specs.Table.{is_plain}
use Rattle.rz_isa.specs.Decoded.{front_at, front_len, parts_of, serves}
use Rattle.rz_isa.specs.Laws.Exclusion.{plain_row, list_all_get}
use Rattle.rz_isa.specs.Laws.Front.{head_of_spelling}
use Rattle.rz_isa.specs.Laws.Tests.{none_some}
use Rattle.rz_decode.specs.Laws.Verdicts.{Laws, regular_at, whole_of}

-- a spelling has its opcode, so the bytes end before a spelling by a row that serves them does
pub ends_before : (rows : List Row) (n : ℕ) (row : Row) (bytes : List ℕ) → Laws rows → are_bytes bytes ≡ true → slice_get rows n ≡ Some row → serves bytes row ≡ true → opcode_at (behind_rex (skip_while is_prefix bytes)) ≡ None
    → nat_le (front_len row (front_at row bytes)) (length bytes) ≡ false
ends_before rows n row bytes l h at serve ended = elim (cases_Bool (nat_le (front_len row (front_at row bytes)) (length bytes))) [
  | inl y ↦ absurd (never (le _ _ y))
  | inr z ↦ z
]
  where
    le : (n k : ℕ) → nat_le n k ≡ true → n ≤ k
    le n k h = grind (arith, nat_tests)

    never : front_len row (front_at row bytes) ≤ length bytes → ⊥
    never le =
        let w = whole_of row bytes (regular_at rows n row l at) h serve le in
        let p = parts_of row (front_at row bytes) in
        let plain = plain_row row (list_all_get is_plain rows n row l.plain at) in
        let read = head_of_spelling row p w.more w.spelled.fits (plain.opcodes p.opcode w.spelled.fits.opcode) in
        none_some _ (sym ended ∙ (ap (λ (k : Head). k.opcode) (ap head_at w.same ∙ read)))
