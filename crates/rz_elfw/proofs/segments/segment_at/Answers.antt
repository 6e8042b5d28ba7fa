use Rattle.std.proofs.Common.{◌+◌, ◌*◌, ◌∙◌, ap}
use Rattle.std.proofs.lemmas.List.{take_rest}
use Rattle.rz_elf.specs.Elf.{segment_of}
use Rattle.rz_elfw.proofs.segments.segment_at.Goals as goal

pub returns : goal.returns
returns c = c.read.ensures ∙ ap segment_of (take_rest c.args.file.now (c.args.header.now.table_at + 56 * c.args.index))
