use Rattle.std.proofs.Common.{ℕ, ◌≡◌, ◌+◌, List, [], ◌∷◌, true, Some, zero, suc, subst, ap, sym, ◌∙◌, arith, refl}
use Rattle.std.specs.Prelude.{slice_get}
use Rattle.std.proofs.lemmas.Bool.Decides.{nat_tests}
use Rattle.rz_isa.specs.declared.rows.OpMap.{OpMap}
use Rattle.rz_isa.specs.declared.rows.OpMap.TheVariants as maps
use Rattle.rz_isa.specs.declared.rows.Row.{Row}
use Rattle.rz_isa.specs.Index.{is_listed, ListsOpcode}
use Rattle.rz_isa.specs.Spelling.{opcode_fits}
use Rattle.rz_isa.specs.Table.{each_from, same_map}
use Rattle.rz_isa.specs.Laws.Exclusion.{each_from_at}
use Rattle.rz_isa.specs.Laws.Tests.{and_parts}
use Rattle.rz_table.specs.Index.{cell, opcode_place, covers}

-- ---- an index that covers the rows lists them

same_map_is : (a b : OpMap) → same_map a b ≡ true → a ≡ b
same_map_is maps.One maps.One h = refl
same_map_is maps.Two maps.Two h = refl
same_map_is maps.One maps.Two h = absurd (cc)
same_map_is maps.Two maps.One h = absurd (cc)

-- the row that stands n places on is listed at its opcode
listed_from : (listed : OpMap → ℕ → List ℕ) (rows : List Row) (m n o : ℕ) (row : Row) → covers listed m rows ≡ true → slice_get rows n ≡ Some row → opcode_fits row o ≡ true → is_listed (listed row.map o) (m + n) ≡ true
listed_from listed [] m n o row h at f = absurd (grind arith)
listed_from listed (r ∷ rows) m zero o row h at f =
    let t = and_parts (each_from (λ o. is_listed (listed r.map o) m) r.opcode r.span) (covers listed (suc m) rows) h in
    let e : r ≡ row = grind arith in
    let z : m ≡ m + 0 = omega arith in
    let here = subst (λ q. each_from (λ o. is_listed (listed q.map o) m) q.opcode q.span ≡ true) e t.0 in
    subst (λ v. is_listed (listed row.map o) v ≡ true) z (each_from_at (λ o. is_listed (listed row.map o) m) row.opcode row.span o here (grind (arith, nat_tests)) (grind (arith, nat_tests)))
listed_from listed (r ∷ rows) m (suc n) o row h at f =
    let t = and_parts (each_from (λ o. is_listed (listed r.map o) m) r.opcode r.span) (covers listed (suc m) rows) h in
    let z : suc m + n ≡ m + suc n = omega arith in
    subst (λ v. is_listed (listed row.map o) v ≡ true) z (listed_from listed rows (suc m) n o row t.1 (grind arith) f)

pub lists_opcode : (listed : OpMap → ℕ → List ℕ) (rows : List Row) (map : OpMap) (opcode : ℕ) → covers listed 0 rows ≡ true → ListsOpcode rows map opcode (listed map opcode)
lists_opcode listed rows map opcode h n row at has =
    let t = and_parts (same_map row.map map) (opcode_fits row opcode) has in
    let c = listed_from listed rows 0 n opcode row h at t.1 in
    let z : 0 + n ≡ n = omega arith in
    subst (λ m. is_listed (listed m opcode) n ≡ true) (same_map_is row.map map t.0) (subst (λ v. is_listed (listed row.map opcode) v ≡ true) z c)

-- what the code takes out of the index
pub lists_cell : (starts numbers : List ℕ) (rows : List Row) (map : OpMap) (opcode k : ℕ) (xs : List ℕ) → covers (λ m o. cell starts numbers (opcode_place m o)) 0 rows ≡ true → k ≡ opcode_place map opcode → xs ≡ cell starts numbers k
    → ListsOpcode rows map opcode xs
lists_cell starts numbers rows map opcode k xs h ek ex =
    subst (λ ys. ListsOpcode rows map opcode ys) (sym (ex ∙ ap (cell starts numbers) ek)) (lists_opcode (λ m o. cell starts numbers (opcode_place m o)) rows map opcode h)
