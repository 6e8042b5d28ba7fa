use Rattle.std.proofs.Common.{◌≤◌, length, arith}
use Rattle.rz_text.specs.Laws.Lines.{length-lines_from}
use Rattle.rz_trace.proofs.ReadLaws.{IsDraft-start, IsDraft-more}
use Rattle.rz_trace.proofs.reader.read_trace.Goals as goal

pub loop-n-init : goal.loop-n-init
loop-n-init c =
    let value = c.as_slice-text.ensures.value in
    let short : length c.args.bytes.now ≤ 16777216 = rw value at c.if-text-gt-TEXT_MAX.false in
    let most = length-lines_from 1 c.args.bytes.now in
    rw (c.new.ensures, c.new-lines.ensures, value) (IsDraft-start c.args.bytes.now, omega (arith, most, short))

pub loop-n-preserved : goal.loop-n-preserved
loop-n-preserved c =
    let so_far = rw c.in-Some.ensures.some at c.loop-n.invariant.0 in
    let few = rw c.in-Some.ensures.some at c.loop-n.invariant.1 in
    let done = c.in_ok-read_line.ensures in
    let passed = done.passed in (
      IsDraft-more c.args.bytes.now c.loop-n.draft.file _ c.loop-n.draft.last _ c.loop-n.draft.passed _ (c.in-Some.n, c.in-Some.line.now) _ so_far done.sound done.added done.last passed,
      omega (arith, few, passed),
    )
