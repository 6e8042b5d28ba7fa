-- Section headers one behind the other.
use Rattle.std.proofs.Common.{◌≡◌, ℕ, ◌≤◌, List, [], ◌∷◌, ◌++◌, length, get_or, refl, sym, ap, ◌∙◌, arith, append_assoc, append-nil}
use Rattle.std.specs.Prelude.{flat_map}
use Rattle.std.proofs.lemmas.Grind.{flat_map-append}
use Rattle.rz_elf.specs.declared.elf.Load.{Load}
use Rattle.rz_label.specs.declared.sections.Section.{Section}
use Rattle.rz_label.specs.Labelled.{section_bytes, load_section, part_sections}

-- one before some, and one behind them
pub sections_joined : (out : List ℕ) (n e : Section) (ps : List Section) → ((out ++ section_bytes n) ++ flat_map section_bytes ps) ++ section_bytes e ≡ out ++ flat_map section_bytes (n ∷ (ps ++ e ∷ []))
sections_joined out n e ps =
    let last : flat_map section_bytes (ps ++ e ∷ []) ≡ flat_map section_bytes ps ++ section_bytes e = flat_map-append section_bytes ps (e ∷ []) ∙ ap (λ l. flat_map section_bytes ps ++ l) (append-nil (section_bytes e)) in
    append_assoc (out ++ section_bytes n) (flat_map section_bytes ps) (section_bytes e)
    ∙ append_assoc out (section_bytes n) (flat_map section_bytes ps ++ section_bytes e)
    ∙ ap (λ l. out ++ (section_bytes n ++ l)) (sym last)

-- four of them
pub four_joined : (out : List ℕ) (a b d e : Section) → (((out ++ section_bytes a) ++ section_bytes b) ++ section_bytes d) ++ section_bytes e ≡ out ++ flat_map section_bytes (a ∷ b ∷ d ∷ e ∷ [])
four_joined out a b d e =
    append_assoc ((out ++ section_bytes a) ++ section_bytes b) (section_bytes d) (section_bytes e)
    ∙ append_assoc (out ++ section_bytes a) (section_bytes b) (section_bytes d ++ section_bytes e)
    ∙ append_assoc out (section_bytes a) (section_bytes b ++ (section_bytes d ++ section_bytes e))
    ∙ ap (λ l. out ++ (section_bytes a ++ (section_bytes b ++ (section_bytes d ++ l)))) (sym (append-nil (section_bytes e)))

-- a load, for lists that have none
abbrev pub no_load : Load
no_load = record { at = 0; size = 0; file_at = 0; file_size = 0; align = 0; perm = record { 0 = 0 }; index = 0 }

-- the sections of the first four loads
abbrev pub part_at : (loads : List Load) (name kind flags i : ℕ) → Section
part_at loads name kind flags i = load_section name kind flags (get_or loads i no_load)

pub parts_are : (loads : List Load) → 4 ≤ length loads
    → part_sections loads ≡ part_at loads 1 8 3 0 ∷ part_at loads 16 1 2 1 ∷ part_at loads 30 1 6 2 ∷ part_at loads 42 1 6 3 ∷ []
parts_are [] four = absurd (omega (arith, four))
parts_are (a ∷ []) four = absurd (omega (arith, four))
parts_are (a ∷ b ∷ []) four = absurd (omega (arith, four))
parts_are (a ∷ b ∷ d ∷ []) four = absurd (omega (arith, four))
parts_are (a ∷ b ∷ d ∷ e ∷ rest) four = refl
