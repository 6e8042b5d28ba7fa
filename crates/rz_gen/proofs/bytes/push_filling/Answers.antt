use Rattle.std.proofs.Common.{◌≡◌, ℕ, ◌+◌, ◌-◌, ◌++◌, List, length, take, replicate, ap, ap₂, arith, rules}
use Rattle.std.specs.Prelude.{vec_len}
use Rattle.std.proofs.lemmas.List.{take_all}
use Rattle.rz_gen.specs.Code.{filling}
use Rattle.rz_gen.proofs.bytes.push_filling.Goals as goal

filled_up : (old : List ℕ) (byte len was n : ℕ) → len ≡ length old → was ≡ length old → take (len + n) old ++ replicate (len + n - was) byte ≡ old ++ filling byte n
unfolding filling
filled_up old byte len was n e f =
    let d : len + n - was ≡ n = omega arith in
    ap₂ (λ (a b : List ℕ). a ++ b) (take_all (len + n) old (omega arith)) (ap (λ (k : ℕ). replicate k byte) d)

pub returns : goal.returns
returns c =
    let len : c.len-len.result ≡ length c.args.out.now.items = search rules in
    let was : vec_len c.args.out.now ≡ length c.args.out.now.items = search rules in
    rw (c.in_ok-resize.ensures.items) (filled_up c.args.out.now.items c.args.byte c.len-len.result (vec_len c.args.out.now) c.args.count len was)
