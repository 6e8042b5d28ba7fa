use Rattle.std.proofs.Common.{arith}
use Rattle.rz_decode.proofs.Bounds.{tail_bound, tail_bound4}
use Rattle.rz_decode.proofs.number.+numbers.Goals as goal

pub returns-in-len1-up-clause-bound : goal.returns-in-len1-up-clause-bound
returns-in-len1-up-clause-bound t c = omega (arith, tail_bound c.args.bytes.now c.in-len1-up.len_at_least c.requires)

pub returns-in-len1-up-clause-bound4 : goal.returns-in-len1-up-clause-bound4
returns-in-len1-up-clause-bound4 t c = λ le. omega (arith, tail_bound4 c.args.bytes.now c.in-len1-up.len_at_least le)
