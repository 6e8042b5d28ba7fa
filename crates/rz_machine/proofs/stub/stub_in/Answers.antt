use Rattle.rz_elf.specs.Loaded.{loaded_region}
use Rattle.rz_elf.specs.Laws.Loads.{length-loaded}
use Rattle.rz_machine.proofs.StubLaws.{stub-none_outside, stub-none_between}
use Rattle.rz_machine.proofs.stub.stub_in.Goals as goal
use Rattle.rz_machine.proofs.stub.stub_in.Goals.{else-place-load-via-then-place-load+else-place-eq0, else-place-load-via-else-place-load}

pub returns-else-place-load : goal.returns-else-place-load
returns-else-place-load c =
    let r = loaded_region c.args.file.now c.args.load.now in
    let size = length-loaded c.args.file.now c.args.load.now c.requires in
    let found = c.in_ok-place.ensures in
    elim c.else-place-load.branch [
      | else-place-load-via-then-place-load+else-place-eq0 w ↦ stub-none_between c.args.at r c.in_ok-place.place found.1 w.if-place-eq0.false
      | else-place-load-via-else-place-load w ↦ stub-none_outside c.args.at r c.args.load.now.size c.in_ok-place.place size found.0 found.1 w.if-place-load.false
    ]
