use Rattle.std.proofs.Common.{sym, arith, length-set}
use Rattle.rz_image.specs.Laws.Run.{bytes_all, bytes_more}
use Rattle.rz_image.proofs.words.bytes_from.Goals as goal

pub loop-k-init : goal.loop-k-init
loop-k-init c = record { len = omega arith; read = sym (bytes_all c.args.regions.now c.args.at) }

pub loop-k-preserved : goal.loop-k-preserved
loop-k-preserved c =
    let len = c.loop-k.invariant.len in
    let same = length-set c.loop-k.bytes c.loop-k.k c.byte_at.result in
    record {
      len = omega (arith, len, same);
      read = bytes_more c.args.regions.now c.args.at c.loop-k.k c.loop-k.bytes c.byte_at.result (omega (arith, len, c.loop-k-test.true)) c.loop-k.invariant.read c.byte_at.ensures;
    }
