use Rattle.std.proofs.Common.{ℕ, ◌≡◌, ◌+◌, refl, ap, sym, ◌∙◌, List, length, Bool, true, false, Some, None}
use Rattle.std.specs.Prelude.{if◌then◌else◌, is_some, ◌%◌, ◌^◌}
use Rattle.rz_isa.specs.declared.rows.Form.{Form}
use Rattle.rz_isa.specs.declared.rows.Row.{Row}
use Rattle.rz_isa.specs.declared.instruction.Insn.{Insn}
use Rattle.rz_isa.specs.declared.spelled.Fields.{Fields}
use Rattle.rz_isa.specs.Finding.{found}
use Rattle.rz_isa.specs.Regular.{is_regular}
use Rattle.rz_isa.specs.Spelling.{bytes_of}
use Rattle.rz_isa.specs.Canonical.{same_form, chosen, canonical, spelled_at, reaches, parts_for}
use Rattle.rz_isa.specs.Laws.Inverse.{found_builds}
use Rattle.rz_isa.specs.Laws.Tests.{passed, through}
use Rattle.rz_encode.specs.declared.choose.Choice.{Choice}
use Rattle.rz_encode.specs.Calls.Choose.{served, IsGood}
use Rattle.rz_encode.specs.Calls.Length.{spelled_count}
use Rattle.rz_encode.specs.Length.{chosen_len}
use Rattle.rz_encode.proofs.Counted.{count_is}

-- what serves can have its fields
pub good : (form : Form) (x : Insn) (row : Row) (f : Fields) → is_regular row ≡ true → served form x row ≡ Some f → IsGood (record { row = row; fields = f })
good form x row f regular e = record { regular = regular; had = (found_builds row x f regular (passed (same_form row.form form) (found row x) f e).1).had }

-- ---- the canonical spelling by what is chosen

abbrev pub next_for : Row → Fields → ℕ → ℕ
next_for row f at = (at + spelled_count row f) % 2 ^ 64

pub canonical_by : (rows : List Row) (x : Insn) (at : ℕ) (form : Form) (c : Choice) → Some (record { row = c.row; fields = c.fields }) ≡ chosen rows form x
    → canonical rows x at form ≡ (if reaches c.row c.fields (next_for c.row c.fields at) then Some (bytes_of c.row (parts_for c.row c.fields (next_for c.row c.fields at))) else None)
canonical_by rows x at form c e =
    ap (spelled_at at) (sym e) ∙ ap (λ k. if reaches c.row c.fields ((at + k) % 2 ^ 64) then Some (bytes_of c.row (parts_for c.row c.fields ((at + k) % 2 ^ 64))) else None) (count_is c.row c.fields 0)

some_if : (b : Bool) (s : List ℕ) → is_some (if b then Some s else None) ≡ b
some_if true s = refl
some_if false s = refl

pub spells_by : (rows : List Row) (x : Insn) (at : ℕ) (form : Form) (c : Choice) → Some (record { row = c.row; fields = c.fields }) ≡ chosen rows form x
    → is_some (canonical rows x at form) ≡ reaches c.row c.fields (next_for c.row c.fields at)
spells_by rows x at form c e = ap is_some (canonical_by rows x at form c e) ∙ some_if (reaches c.row c.fields (next_for c.row c.fields at)) (bytes_of c.row (parts_for c.row c.fields (next_for c.row c.fields at)))

pub bytes_by : (rows : List Row) (x : Insn) (at : ℕ) (form : Form) (c : Choice) → Some (record { row = c.row; fields = c.fields }) ≡ chosen rows form x → is_some (canonical rows x at form) ≡ true
    → canonical rows x at form ≡ Some (bytes_of c.row (parts_for c.row c.fields (next_for c.row c.fields at)))
bytes_by rows x at form c e s =
    canonical_by rows x at form c e ∙ ap (λ k. if k then Some (bytes_of c.row (parts_for c.row c.fields (next_for c.row c.fields at))) else None) (sym (spells_by rows x at form c e) ∙ s)

pub same_length : (rows : List Row) (x : Insn) (at : ℕ) (form : Form) (c : Choice) (s : List ℕ) → Some (record { row = c.row; fields = c.fields }) ≡ chosen rows form x → canonical rows x at form ≡ Some s
    → length s ≡ spelled_count c.row c.fields
same_length rows x at form c s e h =
    let n = next_for c.row c.fields at in
    let t = through (reaches c.row c.fields n) (bytes_of c.row (parts_for c.row c.fields n)) s (sym (canonical_by rows x at form c e) ∙ h) in
    sym (ap length t.1) ∙ count_is c.row c.fields n

pub len_by : (rows : List Row) (x : Insn) (form : Form) (c : Choice) → Some (record { row = c.row; fields = c.fields }) ≡ chosen rows form x → spelled_count c.row c.fields ≡ chosen_len (chosen rows form x)
len_by rows x form c e = sym (count_is c.row c.fields 0) ∙ ap chosen_len e
