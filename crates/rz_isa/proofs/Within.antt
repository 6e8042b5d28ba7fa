use Rattle.std.proofs.Common.{ℕ, ◌≡◌, ◌+◌, ◌%◌, ◌^◌, ◌<◌, refl, sym, ap, ◌∙◌, arith, List, length, Bool, true, false, Option, Some, None}
use Rattle.std.specs.Prelude.{IsSome, IsSomeAnd, if◌then◌else◌}
use Rattle.std.specs.List.{list_all}
use Rattle.rz_isa.specs.Laws.Types.{Row, Insn}
use Rattle.rz_isa.specs.declared.rows.Form.TheVariants as forms
use Rattle.rz_isa.specs.Spelling.{bytes_of}
use Rattle.rz_isa.specs.Insn.{target_of}
use Rattle.rz_isa.specs.Finding.{found}
use Rattle.rz_isa.specs.Regular.{is_regular}
use Rattle.rz_isa.specs.Suited.{is_displacement, is_suited}
use Rattle.rz_isa.specs.Canonical.{parts_for, place_reaches, imm_reaches, reaches, length_for, Chosen, chosen, spelled_at}
use Rattle.rz_isa.specs.Plan.{spelled_len}
use Rattle.rz_isa.specs.Targets.{NamesLow}
use Rattle.rz_isa.specs.Within.{SpelledWithin}
use Rattle.rz_isa.specs.Laws.Choice.{chosen_first, length_is}
use Rattle.rz_isa.specs.Laws.Elsewhere.{no_displacement, imm_near, place_near}
use Rattle.rz_isa.specs.Laws.Exclusion.{list_all_get}
use Rattle.rz_isa.specs.Laws.Inverse.{found_builds}
use Rattle.rz_isa.specs.Laws.Targeted.{direct_targets}
use Rattle.rz_isa.specs.Laws.Tests.{and_both}

-- An instruction without a direct target has a canonical spelling wherever that ends at a low address.

low_end : (at n : ℕ) → at + n < 2 ^ 31 → (at + n) % 2 ^ 64 < 2 ^ 31
low_end at n low = omega arith

reaches_within : (x : Insn) (at : ℕ) (c : Chosen) → is_regular c.row ≡ true → found c.row x ≡ Some c.fields → is_displacement c.row.imm ≡ false → at + length_for c.row c.fields < 2 ^ 31 → NamesLow x
    → reaches c.row c.fields ((at + length_for c.row c.fields) % 2 ^ 64) ≡ true
reaches_within x at c regular e free low names =
    let next = (at + length_for c.row c.fields) % 2 ^ 64 in
    let ln = low_end at (length_for c.row c.fields) low in
    and_both (place_reaches next c.fields.rm) (imm_reaches c.row.imm next c.fields.imm) (place_near c.row x c.fields next c.fields.rm regular e refl names ln) (imm_near c.row.imm next c.fields.imm free)

of_length : (b : Bool) (s : List ℕ) (n : ℕ) → b ≡ true → length s ≡ n → IsSomeAnd (if b then Some s else None) (λ t. length t ≡ n)
of_length true s n e same = same
of_length false s n e same = absurd (cc)

by_chosen : (rows : List Row) (x : Insn) (at : ℕ) → list_all is_regular rows ≡ true → list_all is_suited rows ≡ true → target_of x ≡ None → NamesLow x
    → (o : Option Chosen) → chosen rows forms.Near x ≡ o → IsSome o → at + spelled_len o < 2 ^ 31 → IsSomeAnd (spelled_at at o) (λ s. length s ≡ spelled_len o)
by_chosen rows x at regular suited none names None eo some low = absurd (cc)
by_chosen rows x at regular suited none names (Some c) eo some low =
    let f = chosen_first (λ r. found r x) rows forms.Near c eo in
    let r = list_all_get is_regular rows f.n c.row regular f.in_table in
    let t = found_builds c.row x c.fields r f.is_found in
    let free = no_displacement (is_displacement c.row.imm) c.fields.imm (sym (direct_targets rows suited f.n c.row c.fields f.in_table) ∙ (ap target_of t.built ∙ none)) in
    let next = (at + length_for c.row c.fields) % 2 ^ 64 in
    of_length (reaches c.row c.fields next) (bytes_of c.row (parts_for c.row c.fields next)) (length_for c.row c.fields) (reaches_within x at c r f.is_found free low names) (sym (length_is c.row c.fields 0 next))

pub spelled_within : (rows : List Row) → list_all is_regular rows ≡ true → list_all is_suited rows ≡ true → SpelledWithin rows
spelled_within rows regular suited x at some none names low = by_chosen rows x at regular suited none names (chosen rows forms.Near x) refl some low
