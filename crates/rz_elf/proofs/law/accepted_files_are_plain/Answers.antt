use Rattle.rz_elf.specs.Laws.PlainAccepted.{accepted_plain}
use Rattle.rz_elf.proofs.law.accepted_files_are_plain.Goals as goal

pub returns : goal.returns
returns c = accepted_plain
