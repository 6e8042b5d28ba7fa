use Rattle.std.proofs.Common.{sym, ◌∙◌}
use Rattle.std.proofs.lemmas.Bool.{cond-true, cond-false}
use Rattle.rz_elf.proofs.stamp.stamped.Goals as goal

pub returns-then-has_stamp : goal.returns-then-has_stamp
returns-then-has_stamp c = sym (cond-true _ _ _ (sym c.has_stamp.ensures ∙ c.if-has_stamp.true))

pub returns-else-has_stamp : goal.returns-else-has_stamp
returns-else-has_stamp c = sym (cond-false _ _ _ (sym c.has_stamp.ensures ∙ c.if-has_stamp.false))
