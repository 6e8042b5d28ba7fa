use Rattle.std.proofs.Common.{length, sym, ◌∙◌}
use Rattle.rz_elf.specs.Laws.Loads.{load_at, place_in}
use Rattle.rz_elf.specs.Loaded.{IsLoad}
use Rattle.rz_elf.proofs.code.code_byte.Goals as goal

pub code_in-requires-clause-inside : goal.code_in-requires-clause-inside
code_in-requires-clause-inside c =
    place_in c.args.file.now _ c.args.at (load_at (IsLoad (length c.args.file.now)) c.args.loads.now c.loop-load.load-index _ c.requires c.loop-load-test.true) (sym c.has_address.ensures ∙ c.if-has_address.true)
