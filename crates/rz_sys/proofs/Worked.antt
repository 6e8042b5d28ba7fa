-- Worked system calls.
use Rattle.std.proofs.Common.{◌≡◌, ℕ, ◌+◌, ◌-◌, ◌^◌, ◌<◌, Bool, true, false, if◌then◌else◌, nat_lt, List, [], ◌∷◌, replicate, Some, refl, ap, ◌∙◌, arith, le-ltb}
use Rattle.std.proofs.lemmas.Bool.{cond-true, cond-false}
use Rattle.std.proofs.lemmas.Bool.Decides.{nat_tests}
use Rattle.rz_image.specs.Perm.{read_only, read_write}
use Rattle.rz_image.specs.Memory.{Cell, Regions, cell_at, refused, bytes_at, put_byte, put_bytes}
use Rattle.rz_sys.specs.declared.input.Reply.{Reply}
use Rattle.rz_sys.specs.declared.input.Reply.TheVariants.{Full, AtMost, Error}
use Rattle.rz_sys.specs.declared.world.World.{World}
use Rattle.rz_sys.specs.Heap.{IsHeapAt, HasHeap, heap_size, open_at}
use Rattle.rz_sys.specs.Laws.Heap.{cell_at-open, cell_opened, heap_at_open, in_heap, heap_cell, opened_low}
use Rattle.rz_sys.specs.Answer.{Called, answer, cut_count}

-- registers for a call: its number and its three arguments
call : ℕ → ℕ → ℕ → ℕ → List ℕ
call number a b c = number ∷ 0 ∷ c ∷ 0 ∷ 0 ∷ 0 ∷ b ∷ a ∷ replicate 8 0

-- four bytes to read and write, and right behind them four to read of which three are open
memory : Regions
memory =
    record { base = 0x2000; bytes = 1 ∷ 2 ∷ 3 ∷ 4 ∷ []; opened = 4; perm = read_write }
    ∷ record { base = 0x2004; bytes = 5 ∷ 6 ∷ 7 ∷ 8 ∷ []; opened = 3; perm = read_only }
    ∷ []

-- three bytes of input, and these replies
world : List Reply → World
world replies =
    record { stdin = 97 ∷ 98 ∷ 99 ∷ []; replies = replies; events = []; first_break = 0x3000; brk = 0x3800; heap = 2 }

ans : List ℕ → List Reply → Called
ans regs replies = answer regs memory (world replies)

-- ---- read

read_all : (ans (call 0 0 0x2000 4) []).answer ≡ 3
unfolding call memory world ans answer refused cell_at put_bytes put_byte
read_all = refl

read_stores : bytes_at (ans (call 0 0 0x2001 2) []).mem 0x2000 4 ≡ 1 ∷ 97 ∷ 98 ∷ 4 ∷ []
unfolding call memory world ans answer refused cell_at put_bytes put_byte bytes_at
read_stores = refl

read_rest : (ans (call 0 0 0x2001 2) []).stdin ≡ 99 ∷ []
unfolding call memory world ans answer refused cell_at put_bytes put_byte
read_rest = refl

read_at_most : (ans (call 0 0 0x2000 4) (AtMost 2 ∷ Full ∷ [])).bytes ≡ 97 ∷ 98 ∷ []
unfolding call memory world ans answer refused cell_at put_bytes put_byte
read_at_most = refl

read_at_most_rest : (ans (call 0 0 0x2000 4) (AtMost 2 ∷ Full ∷ [])).replies ≡ Full ∷ []
unfolding call memory world ans answer refused cell_at put_bytes put_byte
read_at_most_rest = refl

read_more_than_there_is : (ans (call 0 0 0x2000 4) (AtMost 9 ∷ [])).answer ≡ 3
unfolding call memory world ans answer refused cell_at put_bytes put_byte
read_more_than_there_is = refl

read_error : (ans (call 0 0 0x2000 4) (Error 5 ∷ [])).answer ≡ 2 ^ 64 - 5
unfolding call memory world ans answer refused cell_at put_bytes put_byte
read_error = refl

read_error_stdin : (ans (call 0 0 0x2000 4) (Error 5 ∷ [])).stdin ≡ 97 ∷ 98 ∷ 99 ∷ []
unfolding call memory world ans answer refused cell_at put_bytes put_byte
read_error_stdin = refl

-- the fifth byte may not be written: no reply and no input is taken
read_bad_address : (ans (call 0 0 0x2000 5) (Error 5 ∷ [])).answer ≡ 2 ^ 64 - 14
unfolding call memory world ans answer refused cell_at put_bytes put_byte
read_bad_address = refl

read_bad_address_replies : (ans (call 0 0 0x2000 5) (Error 5 ∷ [])).replies ≡ Error 5 ∷ []
unfolding call memory world ans answer refused cell_at put_bytes put_byte
read_bad_address_replies = refl

-- a count of 0 is allowed everywhere, and takes a reply
read_nothing : (ans (call 0 0 0x9000 0) (AtMost 1 ∷ [])).answer ≡ 0
unfolding call memory world ans answer refused cell_at put_bytes put_byte
read_nothing = refl

read_nothing_replies : (ans (call 0 0 0x9000 0) (AtMost 1 ∷ [])).replies ≡ []
unfolding call memory world ans answer refused cell_at put_bytes put_byte
read_nothing_replies = refl

-- a range that wraps
read_wraps : (ans (call 0 0 (2 ^ 64 - 1) 2) (Full ∷ [])).answer ≡ 2 ^ 64 - 14
unfolding call memory world ans answer refused cell_at put_bytes put_byte
read_wraps = refl

-- descriptors have 64 bits
read_far_descriptor : (ans (call 0 (2 ^ 32) 0x2000 4) (Full ∷ [])).answer ≡ 2 ^ 64 - 9
unfolding call memory world ans answer refused cell_at put_bytes put_byte
read_far_descriptor = refl

read_one : (ans (call 0 1 0x2000 4) (Full ∷ [])).replies ≡ Full ∷ []
unfolding call memory world ans answer refused cell_at put_bytes put_byte
read_one = refl

-- with no input nothing is moved
read_end : (answer (call 0 0 0x2000 4) memory (record (world []) { stdin = [] })).answer ≡ 0
unfolding call memory world answer refused cell_at put_bytes put_byte
read_end = refl

-- ---- write

write_across : (ans (call 1 1 0x2002 5) []).bytes ≡ 3 ∷ 4 ∷ 5 ∷ 6 ∷ 7 ∷ []
unfolding call memory world ans answer refused cell_at bytes_at
write_across = refl

write_closed : (ans (call 1 2 0x2002 6) (AtMost 1 ∷ [])).answer ≡ 2 ^ 64 - 14
unfolding call memory world ans answer refused cell_at bytes_at
write_closed = refl

write_at_most : (ans (call 1 2 0x2000 4) (AtMost 3 ∷ [])).bytes ≡ 1 ∷ 2 ∷ 3 ∷ []
unfolding call memory world ans answer refused cell_at bytes_at
write_at_most = refl

write_far_descriptor : (ans (call 1 (2 ^ 32 + 1) 0x2000 4) []).answer ≡ 2 ^ 64 - 9
unfolding call memory world ans answer refused cell_at bytes_at
write_far_descriptor = refl

-- a count is cut
cut : cut_count (2 ^ 64 - 1) ≡ 0x7ffff000
cut = refl

-- ---- brk

break_below : (ans (call 12 0x2fff 0 0) []).answer ≡ 0x3800
unfolding call memory world ans answer
break_below = refl

break_above : (ans (call 12 0x1003001 0 0) []).answer ≡ 0x3800
unfolding call memory world ans answer
break_above = refl

break_highest : (ans (call 12 0x1003000 0 0) []).brk ≡ 0x1003000
unfolding call memory world ans answer open_at
break_highest = refl

break_lowest : (ans (call 12 0x3000 0 0) (Error 7 ∷ [])).replies ≡ Error 7 ∷ []
unfolding call memory world ans answer open_at
break_lowest = refl

-- the last byte of a page that was opened may be written, the next one may not
in_the_heap : (fb k : ℕ) → k < heap_size → in_heap fb (fb + k) ≡ true
in_the_heap fb k lt = grind (arith, nat_tests, lt)

page_opened : (m : Regions) (w : World) → HasHeap m w → (cell_at (open_at m w.first_break 4096) (w.first_break + 4095)).write ≡ true
page_opened m w h =
    let a = w.first_break + 4095 in
    let there : in_heap w.first_break a ≡ true = in_the_heap w.first_break 4095 (omega arith) in
    let k : a - w.first_break ≡ 4095 = omega arith in
    ap (λ (c : Cell). c.write) (cell_opened m w 4096 a h (omega arith) ∙ cond-true (in_heap w.first_break a) _ _ there) ∙ ap (λ n. nat_lt n 4096) k

page_closed : (m : Regions) (w : World) → HasHeap m w → (cell_at (open_at m w.first_break 4096) (w.first_break + 4096)).write ≡ false
page_closed m w h =
    let a = w.first_break + 4096 in
    let there : in_heap w.first_break a ≡ true = in_the_heap w.first_break 4096 (omega arith) in
    let k : a - w.first_break ≡ 4096 = omega arith in
    ap (λ (c : Cell). c.write) (cell_opened m w 4096 a h (omega arith) ∙ cond-true (in_heap w.first_break a) _ _ there) ∙ ap (λ n. nat_lt n 4096) k

-- a page that was given back and is regained is zeros
zero_byte : (k n : ℕ) (c : Cell) → c.byte ≡ 0 → (heap_cell k n c).byte ≡ 0
zero_byte k n c e = go (nat_lt k n)
  where
    go : (b : Bool) → (if b then c.byte else 0) ≡ 0
    go true = e
    go false = refl

given_back : (k : ℕ) (c : Cell) → (heap_cell k 0 c).byte ≡ 0
given_back k c = let e : nat_lt k 0 ≡ false = le-ltb k 0 (omega arith) in cond-false (nat_lt k 0) _ _ e

page_regained : (m : Regions) (w : World) (k : ℕ) → HasHeap m w → k < 4096 → (cell_at (open_at (open_at m w.first_break 0) w.first_break 4096) (w.first_break + k)).byte ≡ 0
page_regained m w k h lt =
    let fb = w.first_break in
    let a = fb + k in
    let page = h.page in
    let old = opened_low m w h in
    let less : IsHeapAt fb fb (open_at m fb 0) w.heap = heap_at_open fb w.brk fb 0 m w.heap old (omega arith) (omega arith) h.heap in
    let there : in_heap fb a ≡ true = in_the_heap fb k (omega (arith, lt)) in
    let back : cell_at (open_at m fb 0) a ≡ heap_cell (a - fb) 0 (cell_at m a) = cell_opened m w 0 a h (omega arith) ∙ cond-true (in_heap fb a) _ _ there in
    let again : cell_at (open_at (open_at m fb 0) fb 4096) a ≡ heap_cell (a - fb) 4096 (cell_at (open_at m fb 0) a) =
    cell_at-open fb fb 4096 (open_at m fb 0) w.heap a (omega (arith, page)) (omega arith) less ∙ cond-true (in_heap fb a) _ _ there in
    ap (λ (c : Cell). c.byte) again ∙ zero_byte (a - fb) 4096 (cell_at (open_at m fb 0) a) (ap (λ (c : Cell). c.byte) back ∙ given_back (a - fb) (cell_at m a))

-- ---- ends, and other calls

exit_status : (ans (call 60 0x107 0 0) []).exit ≡ Some 7
unfolding call memory world ans answer
exit_status = refl

exit_answer : (ans (call 231 0x107 0 0) []).answer ≡ 0
unfolding call memory world ans answer
exit_answer = refl

far_number : (ans (call (2 ^ 32) 0 0x2000 4) []).answer ≡ 2 ^ 64 - 38
unfolding call memory world ans answer
far_number = refl
