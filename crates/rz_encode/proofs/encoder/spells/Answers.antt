use Rattle.std.proofs.Common.{ℕ, ◌+◌, ◌%◌, ◌^◌, ap, ◌∙◌, sym}
use Rattle.rz_isa.specs.Canonical.{reaches}
use Rattle.rz_encode.proofs.ByChoice.{spells_by}
use Rattle.rz_encode.proofs.encoder.spells.Goals as goal

pub returns-in-Some : goal.returns-in-Some
returns-in-Some g c = c.reaches.ensures ∙ (ap (λ (k : ℕ). reaches c.in-Some.choice.row c.in-Some.choice.fields ((c.args.at + k) % 2 ^ 64)) c.spelled_count-len.ensures.value
    ∙ sym (spells_by g.T.InsnTable.rows c.args.insn.now c.args.at c.args.form c.in-Some.choice c.in-Some.ensures.value))
