use Rattle.std.proofs.Common.{◌++◌, List, ℕ, ap, ap₂, ◌∙◌}
use Rattle.std.specs.Prelude.{flat_map}
use Rattle.rz_label.specs.declared.sections.Section.{Section}
use Rattle.rz_label.specs.Labelled.{section_bytes, part_sections, names_section, no_section}
use Rattle.rz_label.proofs.SectionLaws.{sections_joined}
use Rattle.rz_label.proofs.sections.push_sections.Goals as goal

pub returns : goal.returns
returns c =
    let out = c.args.out.now.items in
    let parts = part_sections c.args.loads.now in
    let first = c.in_ok-push.ensures ∙ ap (λ (s : Section). out ++ section_bytes s) c.no_section.ensures in
    let second = c.in_ok-push_parts.ensures ∙ ap (λ (l : List ℕ). l ++ flat_map section_bytes parts) first in
    c.in_ok-push-2.ensures
    ∙ ap₂ (λ (l : List ℕ) (s : Section). l ++ section_bytes s) second c.names_section.ensures
    ∙ sections_joined out no_section (names_section c.args.names_at) parts
