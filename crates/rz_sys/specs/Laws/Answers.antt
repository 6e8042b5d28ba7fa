-- What every answer of a system call is, and what it leaves.
use Rattle.std.proofs.Common.{◌≡◌, ℕ, ◌+◌, ◌^◌, ◌<◌, ◌≤◌, Bool, true, false, nat_le, List, Option, Some, None, refl, arith, leb-true}
use Rattle.std.proofs.lemmas.Bool.{and_parts}
use Rattle.rz_image.specs.Memory.{Regions, put_bytes}
use Rattle.rz_image.specs.Laws.Alike.{StandsPut, puts_stand}
use Rattle.rz_sys.specs.declared.input.Reply.{Reply}
use Rattle.rz_sys.specs.declared.input.Reply.TheVariants.{Full, AtMost, Error}
use Rattle.rz_sys.specs.declared.world.World.{World}
use Rattle.rz_sys.specs.Heap.{heap_size, opened_to, IsHeapAt, HasHeap}
use Rattle.rz_sys.specs.Laws.Heap.{StandsOpen, low_pages, opened_low, heap_at_open, heap_at_put}
use Rattle.rz_sys.specs.Answer.{Called, Call, Read, Write, NoFile, Brk, Exit, Other, next_reply, read_reply, read_allowed, write_reply, write_allowed, is_break, break_answer, cut_count, answer_as, call_in, rdi, rsi, rdx, answer, world_after}

-- an address that may become the break
pub break_fits : (at : ℕ) (w : World) → is_break at w ≡ true → (w.first_break ≤ at) × (at ≤ w.first_break + heap_size)
break_fits at w e =
    let p = and_parts (nat_le w.first_break at) (nat_le at (w.first_break + heap_size)) e in
    (leb-true w.first_break at p.0, leb-true at (w.first_break + heap_size) p.1)

-- what holds of memory before a call holds after it, where it stands under puts of bytes and where the heap is opened
pub answer_stands : (P : Regions → Type 0) (w : World) → StandsPut P → StandsOpen P w → (regs : List ℕ) (m : Regions) → HasHeap m w → P m → P (answer regs m w).mem
unfolding answer
answer_stands P w puts opens regs m heap h = go (call_in regs) (rdi regs) (rsi regs) (rdx regs)
  where
    receive : (r : Reply) (at n : ℕ) → P (read_reply r at n m w).mem
    receive Full at n = puts_stand P puts m at _ h
    receive (AtMost k) at n = puts_stand P puts m at _ h
    receive (Error e) at n = h

    read : (o : Option ℕ) (at n : ℕ) → P (read_allowed o at n m w).mem
    read (Some bad) at n = h
    read None at n = receive (next_reply w.replies) at n

    send : (r : Reply) (at n : ℕ) → P (write_reply r at n m w).mem
    send Full at n = h
    send (AtMost k) at n = h
    send (Error e) at n = h

    write : (o : Option ℕ) (at n : ℕ) → P (write_allowed o at n m w).mem
    write (Some bad) at n = h
    write None at n = send (next_reply w.replies) at n

    move : (b : Bool) (at : ℕ) → is_break at w ≡ b → P (break_answer b at m w).mem
    move true at e = opens m (opened_to w.first_break at) heap (low_pages w.first_break at heap.page (break_fits at w e).1) h
    move false at e = h

    go : (c : Call) (a b n : ℕ) → P (answer_as c a b n m w).mem
    go Read a b n = read _ b (cut_count n)
    go Write a b n = write _ b (cut_count n)
    go Brk a b n = move (is_break a w) a refl
    go NoFile a b n = h
    go Exit a b n = h
    go Other a b n = h

-- each call keeps the heap
pub call_heap : (call : Call) (a b n : ℕ) (regs : List ℕ) (m : Regions) (w : World) → HasHeap m w → HasHeap (answer_as call a b n m w).mem (world_after regs w (answer_as call a b n m w))
call_heap call a b n regs m w h = whole_world (answer_as call a b n m w) (go call a b n)
  where
    HeapIn : Called → Type 0
    HeapIn c = (w.first_break ≤ c.brk) × (c.brk ≤ w.first_break + heap_size) × IsHeapAt w.first_break c.brk c.mem w.heap

    same : (w.first_break ≤ w.brk) × (w.brk ≤ w.first_break + heap_size) × IsHeapAt w.first_break w.brk m w.heap
    same = (h.above, h.below, h.heap)

    stored : (at : ℕ) (bs : List ℕ) → (w.first_break ≤ w.brk) × (w.brk ≤ w.first_break + heap_size) × IsHeapAt w.first_break w.brk (put_bytes m at bs) w.heap
    stored at bs = (h.above, h.below, puts_stand (λ n. IsHeapAt w.first_break w.brk n w.heap) (heap_at_put w.first_break w.brk w.heap) m at bs h.heap)

    receive : (r : Reply) (at n : ℕ) → HeapIn (read_reply r at n m w)
    receive Full at n = stored at _
    receive (AtMost k) at n = stored at _
    receive (Error e) at n = same

    read : (o : Option ℕ) (at n : ℕ) → HeapIn (read_allowed o at n m w)
    read (Some bad) at n = same
    read None at n = receive (next_reply w.replies) at n

    send : (r : Reply) (at n : ℕ) → HeapIn (write_reply r at n m w)
    send Full at n = same
    send (AtMost k) at n = same
    send (Error e) at n = same

    write : (o : Option ℕ) (at n : ℕ) → HeapIn (write_allowed o at n m w)
    write (Some bad) at n = same
    write None at n = send (next_reply w.replies) at n

    move : (b : Bool) (at : ℕ) → is_break at w ≡ b → HeapIn (break_answer b at m w)
    move true at e =
        let f = break_fits at w e in
        (f.0, f.1, heap_at_open w.first_break w.brk at (opened_to w.first_break at) m w.heap (opened_low m w h) (low_pages w.first_break at h.page f.1) refl h.heap)
    move false at e = same

    go : (c : Call) (a b n : ℕ) → HeapIn (answer_as c a b n m w)
    go Read a b n = read _ b (cut_count n)
    go Write a b n = write _ b (cut_count n)
    go Brk a b n = move (is_break a w) a refl
    go NoFile a b n = same
    go Exit a b n = same
    go Other a b n = same

    whole_world : (c : Called) → HeapIn c → HasHeap c.mem (world_after regs w c)
    whole_world c k = record { page = h.page; low = h.low; above = k.0; below = k.1; heap = k.2 }

-- so does the one that the registers name
pub answer_heap : (regs : List ℕ) (m : Regions) (w : World) → HasHeap m w → HasHeap (answer regs m w).mem (world_after regs w (answer regs m w))
unfolding answer
answer_heap regs m w h = call_heap (call_in regs) (rdi regs) (rsi regs) (rdx regs) regs m w h

-- an answer is a word of 64 bits
pub answer_word : (regs : List ℕ) (m : Regions) (w : World) → HasHeap m w → (answer regs m w).answer < 2 ^ 64
unfolding answer
answer_word regs m w h = go (call_in regs) (rdi regs) (rsi regs) (rdx regs)
  where
    receive : (r : Reply) (at n : ℕ) → n ≤ 0x7ffff000 → (read_reply r at n m w).answer < 2 ^ 64
    receive Full at n le = omega arith
    receive (AtMost k) at n le = omega arith
    receive (Error e) at n le = omega arith

    read : (o : Option ℕ) (at n : ℕ) → n ≤ 0x7ffff000 → (read_allowed o at n m w).answer < 2 ^ 64
    read None at n le = receive (next_reply w.replies) at n le
    read (Some bad) at n le = omega arith

    sent : (r : Reply) (at n : ℕ) → n ≤ 0x7ffff000 → (write_reply r at n m w).answer < 2 ^ 64
    sent Full at n le = omega arith
    sent (AtMost k) at n le = omega arith
    sent (Error e) at n le = omega arith

    write : (o : Option ℕ) (at n : ℕ) → n ≤ 0x7ffff000 → (write_allowed o at n m w).answer < 2 ^ 64
    write None at n le = sent (next_reply w.replies) at n le
    write (Some bad) at n le = omega arith

    low : (b : ℕ) → b ≤ w.first_break + heap_size → b < 2 ^ 64
    low b le = let f = h.low in omega arith

    move : (b : Bool) (at : ℕ) → is_break at w ≡ b → (break_answer b at m w).answer < 2 ^ 64
    move true at e = low at (break_fits at w e).1
    move false at e = low w.brk h.below

    go : (c : Call) (a b n : ℕ) → (answer_as c a b n m w).answer < 2 ^ 64
    go Read a b n = read _ b (cut_count n) (omega arith)
    go Write a b n = write _ b (cut_count n) (omega arith)
    go Brk a b n = move (is_break a w) a refl
    go NoFile a b n = omega arith
    go Exit a b n = omega arith
    go Other a b n = omega arith

-- a call that ends the run leaves memory
pub exit_mem : (regs : List ℕ) (m : Regions) (w : World) (status : ℕ) → (answer regs m w).exit ≡ Some status → (answer regs m w).mem ≡ m
unfolding answer
exit_mem regs m w status = go (call_in regs) (rdi regs) (rsi regs) (rdx regs)
  where
    Ends : Called → Type 0
    Ends c = c.exit ≡ Some status → c.mem ≡ m

    receive : (r : Reply) (at n : ℕ) → Ends (read_reply r at n m w)
    receive Full at n = λ e. cc
    receive (AtMost k) at n = λ e. cc
    receive (Error k) at n = λ e. refl

    read : (o : Option ℕ) (at n : ℕ) → Ends (read_allowed o at n m w)
    read None at n = receive (next_reply w.replies) at n
    read (Some bad) at n = λ e. refl

    sent : (r : Reply) (at n : ℕ) → Ends (write_reply r at n m w)
    sent Full at n = λ e. refl
    sent (AtMost k) at n = λ e. refl
    sent (Error k) at n = λ e. refl

    write : (o : Option ℕ) (at n : ℕ) → Ends (write_allowed o at n m w)
    write None at n = sent (next_reply w.replies) at n
    write (Some bad) at n = λ e. refl

    move : (b : Bool) (at : ℕ) → Ends (break_answer b at m w)
    move true at = λ e. cc
    move false at = λ e. refl

    go : (c : Call) (a b n : ℕ) → Ends (answer_as c a b n m w)
    go Read a b n = read _ b (cut_count n)
    go Write a b n = write _ b (cut_count n)
    go Brk a b n = move (is_break a w) a
    go NoFile a b n = λ e. refl
    go Exit a b n = λ e. refl
    go Other a b n = λ e. refl
