use Rattle.std.proofs.Common.{arith}
use Rattle.rz_decode.proofs.Bounds.{tail_bound}
use Rattle.rz_decode.proofs.number.+number.Goals as goal

pub overflow_mul-result : goal.overflow_mul-result
overflow_mul-result t c = omega (arith, tail_bound c.args.bytes.now c.in-len1-up.len_at_least c.requires)

pub overflow_add-result : goal.overflow_add-result
overflow_add-result t c = omega (arith, c.type_inv.bytes 0, tail_bound c.args.bytes.now c.in-len1-up.len_at_least c.requires)
