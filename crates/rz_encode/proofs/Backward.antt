use Rattle.std.proofs.Common.{ℕ, ◌≡◌, List, [], ◌∷◌, ◌++◌, true}
use Rattle.std.specs.Prelude.{nat_lt}
use Rattle.rz_isa.specs.declared.rows.Row.{Row}
use Rattle.rz_num.specs.Bytes.{are_bytes}
use Rattle.rz_isa.specs.Spells.{RowSpells}
use Rattle.rz_isa.specs.Laws.Choice.{canonical_spells}
use Rattle.rz_isa.specs.Laws.Tests.{and_parts, and_both}
use Rattle.rz_decode.specs.Laws.Verdicts.{Laws}
use Rattle.rz_decode.specs.Laws.Exactness.{complete_law}
use Rattle.rz_encode.specs.Laws.{DecodesBack}

bytes_append : (xs ys : List ℕ) → are_bytes xs ≡ true → are_bytes ys ≡ true → are_bytes (xs ++ ys) ≡ true
bytes_append [] ys hx hy = hy
bytes_append (x ∷ xs) ys hx hy = (let t = and_parts (nat_lt x 256) (are_bytes xs) hx in and_both _ _ t.0 (bytes_append xs ys t.1 hy))

pub decodes_back : (rows : List Row) → Laws rows → DecodesBack rows
decodes_back rows l x at form s e more all =
    let c = canonical_spells rows l.regular x at form s e in
    let n = c.1.0 in
    let by : RowSpells n.row s at x = c.1.1 n.row n.in_table in
    complete_law rows l s more at x (bytes_append s more by.spelled.all all) (record { n = c.0; row = n.row; in_table = n.in_table; by_row = by })
