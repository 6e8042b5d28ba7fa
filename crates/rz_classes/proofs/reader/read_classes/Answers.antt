use Rattle.std.proofs.Common.{◌≡◌, ◌≤◌, length, true, rules}
use Rattle.rz_text.specs.Lines.{has_content}
use Rattle.rz_classes.proofs.ReadLaws.{IsListed-start, IsListed-more}
use Rattle.rz_classes.proofs.reader.read_classes.Goals as goal

pub loop-n-init : goal.loop-n-init
loop-n-init c =
    let value = c.as_slice-text.ensures.value in
    let short : length c.args.bytes.now ≤ 16777216 = rw value at c.if-text-gt-TEXT_MAX.false in
    (rw (c.none-classes.ensures, c.new-lines.ensures, value) (IsListed-start c.args.bytes.now short), short)

pub loop-n-preserved : goal.loop-n-preserved
loop-n-preserved c =
    let so_far = rw c.in-Some.ensures.some at c.loop-n.invariant.0 in
    let says : has_content c.in-Some.line.now ≡ true = search rules in
    let done = c.in_ok-list_line.ensures in
    (IsListed-more c.args.bytes.now c.loop-n.classes _ (c.in-Some.n, c.in-Some.line.now) _ so_far says done.sound done.listed, c.loop-n.invariant.1)
