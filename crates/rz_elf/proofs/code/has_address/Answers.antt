use Rattle.rz_elf.specs.Laws.Loads.{has_place}
use Rattle.rz_elf.proofs.code.has_address.Goals as goal

pub returns-then-load-at : goal.returns-then-load-at
returns-then-load-at c = has_place c.args.file.now c.args.load.now c.args.at c.requires c.if-load-at.true
