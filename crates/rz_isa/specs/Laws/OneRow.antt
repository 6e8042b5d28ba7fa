use Rattle.std.proofs.Common.{ℕ, ◌≡◌, ◌≤◌, ◌<◌, List, [], ◌++◌, ap, sym, ◌∙◌, subst, arith, length, true, inl, inr, length-append}
use Rattle.std.specs.Prelude.{slice_get, nat_lt}
use Rattle.std.specs.List.{list_all}
use Rattle.std.proofs.lemmas.List.{append-nil}
use Rattle.std.proofs.lemmas.Bool.{cases_Bool}
use Rattle.std.proofs.lemmas.Bool.Decides.{nat_tests}
use Rattle.std.proofs.lemmas.Grind.{common_steps}
use Rattle.rz_isa.specs.Laws.Types.{Row}
use Rattle.rz_isa.specs.Spelling.{Parts, bytes_of, SpelledBy}
use Rattle.rz_isa.specs.Table.{is_plain, all_exclude, OneRow, Lengths}
use Rattle.rz_isa.specs.Laws.Exclusion.{plain_row, list_all_get, exclude_get, no_common, one_reading}
use Rattle.rz_isa.specs.Laws.Tests.{never, some_same}

-- what the two spellings say of the parts' bytes
pub parts_meet : (r q : Row) (a b : Parts) (s more : List ℕ) → SpelledBy r a s → SpelledBy q b (s ++ more) → bytes_of r a ++ more ≡ bytes_of q b ++ []
parts_meet r q a b s more fa fb = ap (λ k. k ++ more) (sym fa.bytes) ∙ (fb.bytes ∙ sym (append-nil (bytes_of q b)))

pub one_row : (rows : List Row) → list_all is_plain rows ≡ true → all_exclude rows ≡ true → OneRow rows
one_row rows plain exclude n m r q s more a b at_n at_m fa fb =
    let ir = plain_row r (list_all_get is_plain rows n r plain at_n) in
    let iq = plain_row q (list_all_get is_plain rows m q plain at_m) in
    let meet = parts_meet r q a b s more fa fb in
    elim (cases_Bool (nat_lt n m)) [
      | inl lt ↦
          (let below : n < m = grind (arith, nat_tests) in
          absurd (never _ (exclude_get rows n m r q exclude below at_n at_m) (no_common r q a b more [] ir iq fa.fits fb.fits meet)))
      | inr not_lt ↦ elim (cases_Bool (nat_lt m n)) [
        | inl gt ↦
            (let above : m < n = grind (arith, nat_tests) in
            absurd (never _ (exclude_get rows m n q r exclude above at_m at_n) (no_common q r b a [] more iq ir fb.fits fa.fits (sym meet))))
        | inr not_gt ↦
            (let same : n ≡ m = grind (arith, nat_tests) in
            let row : q ≡ r = some_same q r (sym at_m ∙ (ap (slice_get rows) (sym same) ∙ at_n)) in
            let fb2 = subst (λ k. SpelledBy k b (s ++ more)) row fb in
            let one = one_reading r a b more [] ir fa.fits fb2.fits (parts_meet r r a b s more fa fb2) in
            record { row = same; parts = one.0; whole = one.1 })
      ]
    ]

pub bytes_some : (r : Row) (p : Parts) → 1 ≤ length (bytes_of r p)
bytes_some r p = grind (arith, length-append, common_steps)

pub lengths : (rows : List Row) → Lengths rows
lengths rows s at x h =
    let some = bytes_some h.row h.by_row.parts in
    let e = ap length h.by_row.spelled.bytes in
    (omega arith, grind (arith, nat_tests, h.by_row.spelled.short))
