use Rattle.std.proofs.Common.{◌∙◌, sym}
use Rattle.rz_encode.proofs.ByChoice.{len_by, same_length}
use Rattle.rz_encode.proofs.encoder.form_len.Goals as goal

pub returns-in-Some-clause-value : goal.returns-in-Some-clause-value
returns-in-Some-clause-value g c = c.spelled_count.ensures.value ∙ len_by g.T.InsnTable.rows c.args.insn.now c.args.form c.in-Some.choice c.in-Some.ensures.value

pub returns-in-Some-clause-same : goal.returns-in-Some-clause-same
returns-in-Some-clause-same g c = λ at s h. same_length g.T.InsnTable.rows c.args.insn.now at c.args.form c.in-Some.choice s c.in-Some.ensures.value h ∙ sym c.spelled_count.ensures.value
