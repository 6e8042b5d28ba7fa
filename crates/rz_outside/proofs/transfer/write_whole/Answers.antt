use Rattle.std.proofs.Common.{arith, length-drop}
use Rattle.std.proofs.lemmas.List.{take_rest}
use Rattle.std.proofs.Math.Seq.{take-add}
use Rattle.rz_outside.proofs.Transfers.{appends_twice}
use Rattle.rz_outside.proofs.transfer.write_whole.Goals as goal

pub loop-done-preserved : goal.loop-done-preserved
loop-done-preserved g c =
    let added = rw take_rest at c.in-Ok.ensures.bytes in
    record {
      within = omega (arith, simp (take_rest, length-drop) at c.in-Ok.ensures.bound);
      written = rw (take-add c.loop-done.done c.in-Ok.taken c.args.bytes.now) (appends_twice _ _ _ _ _ c.loop-done.invariant.written added);
    }
