use Rattle.std.proofs.Common.{refl}
use Rattle.rz_isa.specs.Laws.OneRow.{one_row}
use Rattle.rz_isa.specs.Laws.Choice.{one_canonical_row, canonical_spells}
use Rattle.rz_table.specs.Profile2.{PROFILE2}
use Rattle.rz_table.proofs.profile2.Profile2InsnTable.count.Goals as goal

pub returns-clause-one_row : goal.returns-clause-one_row
returns-clause-one_row c = one_row PROFILE2 refl refl

pub returns-clause-one_canonical_row : goal.returns-clause-one_canonical_row
returns-clause-one_canonical_row c = one_canonical_row PROFILE2 refl

pub returns-clause-canonical_spells : goal.returns-clause-canonical_spells
returns-clause-canonical_spells c = canonical_spells PROFILE2 refl

pub returns-clause-listed : goal.returns-clause-listed
returns-clause-listed c = refl
