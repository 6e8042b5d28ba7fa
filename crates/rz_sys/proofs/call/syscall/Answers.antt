use Rattle.std.proofs.Common.{sym, subst₂}
use Rattle.rz_sys.specs.Heap.{HasHeap}
use Rattle.rz_sys.specs.Answer.{Read, Brk, rdi, rsi, rdx}
use Rattle.rz_sys.specs.Laws.Answers.{call_heap}
use Rattle.rz_sys.proofs.call.syscall.Goals as goal

pub returns-then-first-eq0-clause-heap : goal.returns-then-first-eq0-clause-heap
returns-then-first-eq0-clause-heap c =
    let regs = c.args.regs.now in
    let kept = call_heap Read (rdi regs) (rsi regs) (rdx regs) regs c.args.mem.now c.args.world.now c.requires in
    subst₂ HasHeap (sym c.in_ok-read.ensures.mem) (sym c.in_ok-read.ensures.world) kept

pub returns-then-number-eq12-clause-heap : goal.returns-then-number-eq12-clause-heap
returns-then-number-eq12-clause-heap c =
    let regs = c.args.regs.now in
    let kept = call_heap Brk (rdi regs) (rsi regs) (rdx regs) regs c.args.mem.now c.args.world.now c.requires in
    subst₂ HasHeap (sym c.in_ok-brk.ensures.mem) (sym c.in_ok-brk.ensures.world) kept
