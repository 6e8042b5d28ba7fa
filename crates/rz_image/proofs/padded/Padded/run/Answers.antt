use Rattle.std.proofs.Common.{◌≡◌, ℕ, ◌≤◌, List, length, take, drop, ap, sym, ◌∙◌, arith}
use Rattle.rz_image.proofs.PaddedLaws.{length-padded, run_past}
use Rattle.rz_image.proofs.padded.Padded.run.Goals as goal

pub returns-else-from-held-clause-same : goal.returns-else-from-held-clause-same
returns-else-from-held-clause-same c =
    let held : List ℕ = c.self.inside.held.items in
    let n = c.self.inside.len in
    let k = length c.zeros.result.now in
    let whole = length-padded n held c.self.invariant.0 in
    let same = ap length c.self.view_is in
    c.zeros.ensures.zeros ∙ run_past n held c.args.from k c.self.invariant.0 (omega arith) (omega (arith, whole, same)) ∙ ap (λ l. take k (drop c.args.from l)) c.self.view_is
