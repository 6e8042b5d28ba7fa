use Rattle.std.proofs.Common.{arith}
use Rattle.number_tests.proofs.image.closed_bytes_come_back_as_zeros.Goals as goal

pub set_open-requires-clause-there : goal.set_open-requires-clause-there
set_open-requires-clause-there g c = rw (c.in_ok-memory.ensures) (omega arith)

pub set_open-requires-clause-inside : goal.set_open-requires-clause-inside
set_open-requires-clause-inside g c = rw (c.in_ok-memory.ensures) (omega arith)

pub set_open-requires-2-clause-there : goal.set_open-requires-2-clause-there
set_open-requires-2-clause-there g c = rw (c.set_open.ensures, c.in_ok-memory.ensures) (omega arith)

pub set_open-requires-2-clause-inside : goal.set_open-requires-2-clause-inside
set_open-requires-2-clause-inside g c = rw (c.set_open.ensures, c.in_ok-memory.ensures) (omega arith)
