use Rattle.std.proofs.Common.{◌+◌, ◌≤◌, length, arith}
use Rattle.rz_elf.specs.Loaded.{loaded_region}
use Rattle.rz_elf.specs.Laws.Loads.{length-loaded}
use Rattle.rz_machine.proofs.StubLaws.{word-none, word-from_bytes}
use Rattle.rz_machine.proofs.stub.word_in.Goals as goal

pub returns-then-place-load : goal.returns-then-place-load
returns-then-place-load c =
    word-none (loaded_region c.args.file.now c.args.load.now) c.args.place c.args.load.now.size (length-loaded c.args.file.now c.args.load.now c.requires.load) c.if-place-load.true

pub returns : goal.returns
returns c =
    let r = loaded_region c.args.file.now c.args.load.now in
    let size = length-loaded c.args.file.now c.args.load.now c.requires.load in
    let inside : c.args.place + 8 ≤ length r.bytes = omega arith in
    word-from_bytes r c.args.place c.get_u64.result c.loop-i.word inside (λ k lt. c.loop-i.invariant.held k (omega arith)) c.get_u64.ensures
