use Rattle.std.proofs.Common.{◌+◌, ◌*◌, List, ℕ, drop, ap, ◌∙◌}
use Rattle.std.proofs.lemmas.List.{take_rest}
use Rattle.rz_syms.specs.declared.section.SectionTable.{SectionTable}
use Rattle.rz_syms.specs.Sections.{section_of}
use Rattle.rz_syms.proofs.table.section_at.Goals as goal

pub returns : goal.returns
returns c =
    let x : List ℕ = c.args.file.now in
    c.read.ensures
    ∙ ap section_of (take_rest x (c.args.header.now.at + 64 * c.args.index))
    ∙ ap (λ (h : SectionTable). section_of (drop (h.at + 64 * c.args.index) x)) c.requires.header
