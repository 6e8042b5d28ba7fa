use Rattle.std.proofs.Common.{◌≡◌, ℕ, ◌+◌, ◌-◌, ◌++◌, List, length, take, replicate, ap, ap₂, arith, rules}
use Rattle.std.specs.Prelude.{vec_len}
use Rattle.std.proofs.lemmas.List.{take_all}
use Rattle.rz_image.specs.Memory.{zeros}
use Rattle.rz_label.proofs.label.push_zeros.Goals as goal

filled_up : (old : List ℕ) (len was n : ℕ) → len ≡ length old → was ≡ length old → take (len + n) old ++ replicate (len + n - was) 0 ≡ old ++ zeros n
unfolding zeros
filled_up old len was n e f =
    let d : len + n - was ≡ n = omega arith in
    ap₂ (λ (a b : List ℕ). a ++ b) (take_all (len + n) old (omega arith)) (ap (λ (k : ℕ). replicate k 0) d)

pub returns : goal.returns
returns c =
    let len : c.len-len.result ≡ length c.args.out.now.items = search rules in
    let was : vec_len c.args.out.now ≡ length c.args.out.now.items = search rules in
    rw (c.in_ok-resize.ensures.items) (filled_up c.args.out.now.items c.len-len.result (vec_len c.args.out.now) c.args.count len was)
