use Rattle.std.proofs.Common.{◌≡◌, true, arith, rules}
use Rattle.rz_text.specs.Lines.{has_content}
use Rattle.rz_input.proofs.ReadLaws.{IsDraft-more, IsDraft-valid}
use Rattle.rz_input.proofs.reader.read_input.Goals as goal

pub loop-n-preserved : goal.loop-n-preserved
loop-n-preserved c =
    let so_far = rw c.in-Some.ensures.some at c.loop-n.invariant.0 in
    let says : has_content c.in-Some.line.now ≡ true = search rules in
    let done = c.in_ok-read_line.ensures in (
      IsDraft-more c.args.bytes.now c.loop-n.draft.input _ (c.in-Some.n, c.in-Some.line.now) _ so_far says done.sound done.added,
      c.loop-n.invariant.1,
      done.counted,
      done.few,
    )

pub returns-clause-valid : goal.returns-clause-valid
returns-clause-valid c = IsDraft-valid _ _ _ c.loop-n.invariant.0 (omega arith)
