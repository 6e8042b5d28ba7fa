use Rattle.rz_isa.specs.Laws.Targeted.{rip_targets, direct_targets, indirect_operands}
use Rattle.rz_isa.proofs.laws.targets.Goals as goal

pub returns-clause-rip : goal.returns-clause-rip
returns-clause-rip g c = rip_targets

pub returns-clause-direct : goal.returns-clause-direct
returns-clause-direct g c = direct_targets g.T.InsnTable.rows g.met.T.InsnTable.suited

pub returns-clause-indirect : goal.returns-clause-indirect
returns-clause-indirect g c = indirect_operands g.T.InsnTable.rows g.met.T.InsnTable.regular g.met.T.InsnTable.suited
