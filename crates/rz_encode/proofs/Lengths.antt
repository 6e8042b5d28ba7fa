use Rattle.std.proofs.Common.{ℕ, ◌≡◌, ◌+◌, ◌%◌, ◌^◌, ◌≤◌, refl, ap, sym, ◌∙◌, arith, List, length, true, Option, Some, None}
use Rattle.std.specs.List.{list_all}
use Rattle.rz_isa.specs.declared.rows.Row.{Row}
use Rattle.rz_isa.specs.declared.rows.Form.{Form}
use Rattle.rz_isa.specs.declared.instruction.Insn.{Insn}
use Rattle.rz_isa.specs.Spelling.{bytes_of}
use Rattle.rz_isa.specs.Finding.{found}
use Rattle.rz_isa.specs.Regular.{is_regular}
use Rattle.rz_isa.specs.Canonical.{Chosen, chosen, length_for, parts_for, reaches, spelled_at}
use Rattle.rz_isa.specs.Laws.Inverse.{found_builds}
use Rattle.rz_isa.specs.Laws.Exclusion.{list_all_get}
use Rattle.rz_isa.specs.Laws.Choice.{chosen_first, length_is}
use Rattle.rz_isa.specs.Laws.Elsewhere.{length_short}
use Rattle.rz_isa.specs.Laws.Tests.{none_some, through}
use Rattle.rz_encode.specs.Length.{chosen_len, ChosenLengths, SameLengths, CanonicalLengths}

-- Lengths of canonical spellings, for every table.

chosen_short : (rows : List Row) (form : Form) (x : Insn) → list_all is_regular rows ≡ true → (o : Option Chosen) → chosen rows form x ≡ o → chosen_len o ≤ 15
chosen_short rows form x regular None e = omega arith
chosen_short rows form x regular (Some c) e =
    let f = chosen_first (λ r. found r x) rows form c e in
    let r = list_all_get is_regular rows f.n c.row regular f.in_table in
    length_short c.row c.fields r (found_builds c.row x c.fields r f.is_found).had

pub chosen_lengths : (rows : List Row) → list_all is_regular rows ≡ true → ChosenLengths rows
chosen_lengths rows regular x form = chosen_short rows form x regular (chosen rows form x) refl

same_length : (at : ℕ) (s : List ℕ) (o : Option Chosen) → spelled_at at o ≡ Some s → length s ≡ chosen_len o
same_length at s None e = absurd (none_some s e)
same_length at s (Some c) e =
    let next = (at + length_for c.row c.fields) % 2 ^ 64 in
    let t = through (reaches c.row c.fields next) (bytes_of c.row (parts_for c.row c.fields next)) s e in
    sym (ap length t.1) ∙ length_is c.row c.fields next 0

pub same_lengths : (rows : List Row) → SameLengths rows
same_lengths rows x at form s e = same_length at s (chosen rows form x) e

pub canonical_lengths : (rows : List Row) → list_all is_regular rows ≡ true → CanonicalLengths rows
canonical_lengths rows regular x at form s e = (let l = same_lengths rows x at form s e in let c = chosen_lengths rows regular x form in omega arith)
