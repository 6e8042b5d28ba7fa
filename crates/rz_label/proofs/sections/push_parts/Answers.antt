use Rattle.std.proofs.Common.{◌++◌, List, ℕ, ap, ap₂, sym, ◌∙◌}
use Rattle.std.specs.Prelude.{flat_map}
use Rattle.rz_label.specs.declared.sections.Section.{Section}
use Rattle.rz_label.specs.Labelled.{section_bytes}
use Rattle.rz_label.proofs.SectionLaws.{four_joined, part_at, parts_are}
use Rattle.rz_label.proofs.sections.push_parts.Goals as goal

pub returns : goal.returns
returns c =
    let out = c.args.out.now.items in
    let loads = c.args.loads.now in
    let add = λ (l : List ℕ) (s : Section). l ++ section_bytes s in
    let one = c.in_ok-push.ensures ∙ ap (add out) c.load_section.ensures in
    let two = c.in_ok-push-2.ensures ∙ ap₂ add one c.load_section-2.ensures in
    let three = c.in_ok-push-3.ensures ∙ ap₂ add two c.load_section-3.ensures in
    let four = c.in_ok-push-4.ensures ∙ ap₂ add three c.load_section-4.ensures in
    four
    ∙ four_joined out (part_at loads 1 8 3 0) (part_at loads 16 1 2 1) (part_at loads 30 1 6 2) (part_at loads 42 1 6 3)
    ∙ ap (λ ss. out ++ flat_map section_bytes ss) (sym (parts_are loads c.in-len4-up.len_at_least))
