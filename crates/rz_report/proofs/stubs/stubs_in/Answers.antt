use Rattle.std.proofs.Common.{◌∙◌, sym}
use Rattle.rz_elf.specs.Loaded.{loaded_region}
use Rattle.rz_elf.specs.Laws.Loads.{length-loaded}
use Rattle.rz_report.proofs.StubCounts.{stubs-more, stubs-last, stubs-all}
use Rattle.rz_report.proofs.stubs.stubs_in.Goals as goal

pub returns-then-not-begins_stub : goal.returns-then-not-begins_stub
returns-then-not-begins_stub c =
    stubs-last (loaded_region c.args.file.now c.args.load.now).bytes c.args.load.now.size c.loop-piece.piece (length-loaded c.args.file.now c.args.load.now c.requires)
    c.loop-piece-test.true (sym c.begins_stub.ensures ∙ c.if-not-begins_stub.true) c.loop-piece.invariant

pub loop-piece-preserved : goal.loop-piece-preserved
loop-piece-preserved c =
    stubs-more (loaded_region c.args.file.now c.args.load.now).bytes c.args.load.now.size c.loop-piece.piece (length-loaded c.args.file.now c.args.load.now c.requires)
    c.loop-piece-test.true (sym c.begins_stub.ensures ∙ c.if-not-begins_stub.false) c.loop-piece.invariant

pub returns : goal.returns
returns c =
    stubs-all (loaded_region c.args.file.now c.args.load.now).bytes c.args.load.now.size c.loop-piece.piece (length-loaded c.args.file.now c.args.load.now c.requires)
    c.loop-piece.auto.piece-end c.loop-piece-test.false c.loop-piece.invariant
