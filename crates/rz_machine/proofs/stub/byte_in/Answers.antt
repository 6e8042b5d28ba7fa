use Rattle.std.proofs.Common.{sym}
use Rattle.rz_elf.specs.Laws.Loads.{zero_past}
use Rattle.rz_machine.proofs.stub.byte_in.Goals as goal

pub returns-else-place-load : goal.returns-else-place-load
returns-else-place-load c = sym (zero_past c.args.file.now c.args.load.now c.args.place c.requires.load c.if-place-load.false)
