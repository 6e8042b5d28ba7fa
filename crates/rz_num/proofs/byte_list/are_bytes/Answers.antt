use Rattle.std.proofs.Common.{rules}
use Rattle.rz_num.proofs.ByteLaws.{are_bytes-each}
use Rattle.rz_num.proofs.byte_list.are_bytes.Goals as goal

pub returns-clause-test : goal.returns-clause-test
returns-clause-test c = are_bytes-each c.args.bytes.now (λ i. search rules)
