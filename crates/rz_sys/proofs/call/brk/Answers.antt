use Rattle.std.proofs.Common.{◌≡◌, ℕ, ◌-◌, ◌<◌, true, length, sym, ap, ap₂, ◌∙◌, subst, arith}
use Rattle.std.proofs.lemmas.Bool.Decides.{nat_tests}
use Rattle.rz_image.specs.Memory.{bytes_in, set_open}
use Rattle.rz_sys.specs.Heap.{opened_to}
use Rattle.rz_sys.specs.Laws.Heap.{low_pages, set_open-open_at, heap_there, heap_bytes}
use Rattle.rz_sys.specs.Laws.Answers.{break_fits}
use Rattle.rz_sys.specs.Answer.{rdi, is_break, break_answer}
use Rattle.rz_sys.proofs.call.brk.Goals as goal

pub set_open-requires-clause-there : goal.set_open-requires-clause-there
set_open-requires-clause-there c =
    let w = c.args.world.now in
    let m = c.args.mem.now in
    let e : c.answered-2.new.world.heap ≡ w.heap = ap (λ v. v.heap) c.in_ok-answered.ensures.world in
    subst (λ i. i < length m) (sym e) (heap_there w.first_break w.brk m w.heap c.requires.heap)

pub set_open-requires-clause-inside : goal.set_open-requires-clause-inside
set_open-requires-clause-inside c =
    let w = c.args.world.now in
    let m = c.args.mem.now in
    let e : c.answered-2.new.world.heap ≡ w.heap = ap (λ v. v.heap) c.in_ok-answered.ensures.world in
    let f : c.answered-2.new.world.first_break ≡ w.first_break = ap (λ v. v.first_break) c.in_ok-answered.ensures.world in
    let size = ap (λ i. length (bytes_in m i)) e ∙ heap_bytes w.first_break w.brk m w.heap c.requires.heap in
    let t : is_break (rdi c.args.regs.now) w ≡ true = grind (arith, nat_tests) in
    let fits = break_fits (rdi c.args.regs.now) w t in
    let low = low_pages w.first_break (rdi c.args.regs.now) c.requires.page fits.1 in
    let g = c.page_up.ensures in
    omega (arith, size, low, f, g)

pub returns-clause-mem : goal.returns-clause-mem
returns-clause-mem c =
    let w = c.args.world.now in
    let m = c.args.mem.now in
    let at : ℕ = rdi c.args.regs.now in
    let e : c.answered-2.new.world.heap ≡ w.heap = ap (λ v. v.heap) c.in_ok-answered.ensures.world in
    let f : c.answered-2.new.world.first_break ≡ w.first_break = ap (λ v. v.first_break) c.in_ok-answered.ensures.world in
    let t : is_break at w ≡ true = grind (arith, nat_tests) in
    let n : c.page_up.result - c.answered-2.new.world.first_break ≡ opened_to w.first_break at = ap₂ ◌-◌ c.page_up.ensures f in
    c.set_open.ensures ∙ ap₂ (set_open m) e n ∙ set_open-open_at w.first_break w.brk (opened_to w.first_break at) m w.heap c.requires.heap
    ∙ ap (λ b. (break_answer b at m w).mem) (sym t)
