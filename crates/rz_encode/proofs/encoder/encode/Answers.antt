use Rattle.std.proofs.Common.{ℕ, ◌+◌, ◌%◌, ◌^◌, Some, sym, ap, ◌∙◌}
use Rattle.rz_isa.specs.Canonical.{reaches, parts_for}
use Rattle.rz_isa.specs.Spelling.{bytes_of}
use Rattle.rz_encode.proofs.ByChoice.{spells_by, bytes_by}
use Rattle.rz_encode.proofs.Backward.{decodes_back}
use Rattle.rz_encode.proofs.encoder.encode.Goals as goal

pub spell-requires-clause-reach : goal.spell-requires-clause-reach
spell-requires-clause-reach g c = ap (λ (k : ℕ). reaches c.in-Some.choice.row c.in-Some.choice.fields ((c.args.at + k) % 2 ^ 64)) c.spelled_count-len.ensures.value
    ∙ (sym (spells_by g.T.InsnTable.rows c.args.insn.now c.args.at c.args.form c.in-Some.choice c.in-Some.ensures.value) ∙ c.requires)

pub returns-in-Some-clause-spelling : goal.returns-in-Some-clause-spelling
returns-in-Some-clause-spelling g c =
    bytes_by g.T.InsnTable.rows c.args.insn.now c.args.at c.args.form c.in-Some.choice c.in-Some.ensures.value (c.requires)
    ∙ (ap (λ (k : ℕ). Some (bytes_of c.in-Some.choice.row (parts_for c.in-Some.choice.row c.in-Some.choice.fields ((c.args.at + k) % 2 ^ 64)))) (sym c.spelled_count-len.ensures.value)
    ∙ ap Some (sym c.spell.ensures.front))

pub returns-in-Some-clause-decodes : goal.returns-in-Some-clause-decodes
returns-in-Some-clause-decodes g c = decodes_back g.T.InsnTable.rows (record { plain = g.met.T.InsnTable.plain; exclude = g.met.T.InsnTable.exclude; regular = g.met.T.InsnTable.regular }) c.args.insn.now c.args.at c.args.form _ (returns-in-Some-clause-spelling g c)
