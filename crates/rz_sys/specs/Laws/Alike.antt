-- A system call is answered alike over memories that are alike outside a range, where its own range is outside it.
use Rattle.std.proofs.Common.{◌≡◌, ℕ, List, ◌∙◌, ap₂, ◌+◌, ◌^◌, ◌<◌, ◌≤◌, ◌⊎◌, inl, inr, ⊎_elim, Bool, true, false, Option, Some, None, refl, sym, subst, subst₂, arith, min, length, take, length-take, leb-true, mod-eq_of_lt}
use Rattle.rz_image.specs.Memory.{Cell, Regions, Range, IsOutside, IsClear, Alike, refused, is_readable, is_writable, put_bytes, wrap}
use Rattle.rz_image.specs.Laws.Puts.{alike_puts}
use Rattle.rz_image.specs.Laws.Alike.{fewer_clear, alike_bytes, alike_readable, alike_writable}
use Rattle.rz_sys.specs.declared.input.Reply.{Reply}
use Rattle.rz_sys.specs.declared.input.Reply.TheVariants.{Full, AtMost, Error}
use Rattle.rz_sys.specs.declared.world.World.{World}
use Rattle.rz_sys.specs.World.{SameWorld}
use Rattle.rz_sys.specs.Heap.{opened_to, IsHeapAt, HasHeap}
use Rattle.rz_sys.specs.Laws.Heap.{low_pages, opened_low, alike_open}
use Rattle.rz_sys.specs.Laws.Answers.{break_fits}
use Rattle.rz_sys.specs.Answer.{Called, Call, Read, Write, Brk, Exit, Other, NoFile, CallClear, answer, answer_as, call_in, rdi, rsi, rdx, world_after, read_allowed, read_reply, write_allowed, write_reply, is_break, break_answer, next_reply, whole, no_wrap, cut_count}

-- what two calls answer, move and leave is the same, but for memories that are alike outside a range
pub record CalledAlike (r : Range) (c d : Called) : Type 0 where
  pub answer : c.answer ≡ d.answer
  pub bytes : c.bytes ≡ d.bytes
  pub mem : Alike r c.mem d.mem
  pub stdin : c.stdin ≡ d.stdin
  pub replies : c.replies ≡ d.replies
  pub brk : c.brk ≡ d.brk
  pub exit : c.exit ≡ d.exit

-- a range of a call that doesn't wrap
call_clear : (r : Range) (at n : ℕ) → no_wrap at n ≡ true → ((k : ℕ) → k < n → at + k < 2 ^ 64 → IsOutside r (at + k)) → IsClear r at n
call_clear r at n e clear k lt =
    let top : at + n ≤ 2 ^ 64 = leb-true (at + n) (2 ^ 64) e in
    let low : at + k < 2 ^ 64 = omega arith in
    let same : at + k ≡ wrap (at + k) = sym (mod-eq_of_lt low) in
    subst (IsOutside r) same (clear k lt low)

-- a write that is answered, or refused without a look at memory
write_alike : (r : Range) (m m' : Regions) (w : World) (at n : ℕ) → Alike r m m' → (o : Option ℕ) → (IsClear r at n ⊎ (o ≡ Some 0)) → CalledAlike r (write_allowed o at n m w) (write_allowed o at n m' w)
write_alike r m m' w at n h (Some bad) c = record { answer = refl; bytes = refl; mem = h; stdin = refl; replies = refl; brk = refl; exit = refl }
write_alike r m m' w at n h None c = ⊎_elim (λ clear. go (next_reply w.replies) clear) (λ e. absurd (let f : None ≡ Some 0 = e in cc)) c
  where
    go : (p : Reply) → IsClear r at n → CalledAlike r (write_reply p at n m w) (write_reply p at n m' w)
    go Full clear = record { answer = refl; bytes = alike_bytes r m m' at n clear h; mem = h; stdin = refl; replies = refl; brk = refl; exit = refl }
    go (AtMost k) clear = record { answer = refl; bytes = alike_bytes r m m' at (min k n) (fewer_clear r at n (min k n) (omega arith) clear) h; mem = h; stdin = refl; replies = refl; brk = refl; exit = refl }
    go (Error e) clear = record { answer = refl; bytes = refl; mem = h; stdin = refl; replies = refl; brk = refl; exit = refl }

-- a read that is answered, or refused without a look at memory
read_alike : (r : Range) (m m' : Regions) (w : World) (at n : ℕ) → Alike r m m' → (o : Option ℕ) → (IsClear r at n ⊎ (o ≡ Some 0)) → CalledAlike r (read_allowed o at n m w) (read_allowed o at n m' w)
read_alike r m m' w at n h (Some bad) c = record { answer = refl; bytes = refl; mem = h; stdin = refl; replies = refl; brk = refl; exit = refl }
read_alike r m m' w at n h None c = ⊎_elim (λ clear. go (next_reply w.replies) clear) (λ e. absurd (let f : None ≡ Some 0 = e in cc)) c
  where
    stored : (k : ℕ) → k ≤ n → IsClear r at n → Alike r (put_bytes m at (take k w.stdin)) (put_bytes m' at (take k w.stdin))
    stored k le clear =
        let few : length (take k w.stdin) ≤ n = omega (arith, length-take k w.stdin) in
        alike_puts r m m' at (take k w.stdin) (fewer_clear r at n (length (take k w.stdin)) few clear) h

    go : (p : Reply) → IsClear r at n → CalledAlike r (read_reply p at n m w) (read_reply p at n m' w)
    go Full clear = record { answer = refl; bytes = refl; mem = stored (min n (length w.stdin)) (omega arith) clear; stdin = refl; replies = refl; brk = refl; exit = refl }
    go (AtMost k) clear = record { answer = refl; bytes = refl; mem = stored (min k (min n (length w.stdin))) (omega arith) clear; stdin = refl; replies = refl; brk = refl; exit = refl }
    go (Error e) clear = record { answer = refl; bytes = refl; mem = h; stdin = refl; replies = refl; brk = refl; exit = refl }

-- a new break opens both heaps
break_alike : (r : Range) (m m' : Regions) (w : World) (i at : ℕ) → HasHeap m w → IsHeapAt w.first_break w.brk m' i → Alike r m m' → (b : Bool) → is_break at w ≡ b → CalledAlike r (break_answer b at m w) (break_answer b at m' w)
break_alike r m m' w i at heap heap' h false e = record { answer = refl; bytes = refl; mem = h; stdin = refl; replies = refl; brk = refl; exit = refl }
break_alike r m m' w i at heap heap' h true e =
    let old = opened_low m w heap in
    let new = low_pages w.first_break at heap.page (break_fits at w e).1 in
    let opened = alike_open r w.first_break w.brk (opened_to w.first_break at) m m' w.heap i old new heap.heap heap' h in
    record { answer = refl; bytes = refl; mem = opened; stdin = refl; replies = refl; brk = refl; exit = refl }

-- the range is clear, or the call is refused without a look at it
looked : (r : Range) (m m' : Regions) (at n : ℕ) (test : Cell → Bool) → ((k : ℕ) → k < n → at + k < 2 ^ 64 → IsOutside r (at + k)) → IsClear r at n ⊎ (whole (no_wrap at n) (refused test m at n) ≡ Some 0)
looked r m m' at n test clear = go (no_wrap at n) refl
  where
    go : (b : Bool) → no_wrap at n ≡ b → IsClear r at n ⊎ (whole b (refused test m at n) ≡ Some 0)
    go true e = inl (call_clear r at n e clear)
    go false e = inr refl

-- what whole gives is the same where the two are, and where the range wraps
whole_same : (r : Range) (at n : ℕ) (o p : Option ℕ) → ((k : ℕ) → k < n → at + k < 2 ^ 64 → IsOutside r (at + k)) → (IsClear r at n → o ≡ p) → whole (no_wrap at n) o ≡ whole (no_wrap at n) p
whole_same r at n o p clear h = go (no_wrap at n) refl
  where
    go : (b : Bool) → no_wrap at n ≡ b → whole b o ≡ whole b p
    go true e = h (call_clear r at n e clear)
    go false e = refl

-- each system call is answered alike
call_alike : (r : Range) (m m' : Regions) (w : World) (i : ℕ) (call : Call) (a b c : ℕ) → HasHeap m w → IsHeapAt w.first_break w.brk m' i → CallClear r call b (cut_count c) → Alike r m m' → CalledAlike r (answer_as call a b c m w) (answer_as call a b c m' w)
call_alike r m m' w i Exit a b c heap heap' clear h = record { answer = refl; bytes = refl; mem = h; stdin = refl; replies = refl; brk = refl; exit = refl }
call_alike r m m' w i Other a b c heap heap' clear h = record { answer = refl; bytes = refl; mem = h; stdin = refl; replies = refl; brk = refl; exit = refl }
call_alike r m m' w i NoFile a b c heap heap' clear h = record { answer = refl; bytes = refl; mem = h; stdin = refl; replies = refl; brk = refl; exit = refl }
call_alike r m m' w i Write a b c heap heap' clear h =
    let n = cut_count c in
    let e = whole_same r b n (refused is_readable m b n) (refused is_readable m' b n) clear (λ k. alike_readable r m m' b n k h) in
    let P : Option ℕ → Type 0 = λ o. CalledAlike r (write_allowed (whole (no_wrap b n) (refused is_readable m b n)) b n m w) (write_allowed o b n m' w) in
    subst P e (write_alike r m m' w b n h _ (looked r m m' b n is_readable clear))
call_alike r m m' w i Read a b c heap heap' clear h =
    let n = cut_count c in
    let e = whole_same r b n (refused is_writable m b n) (refused is_writable m' b n) clear (λ k. alike_writable r m m' b n k h) in
    let P : Option ℕ → Type 0 = λ o. CalledAlike r (read_allowed (whole (no_wrap b n) (refused is_writable m b n)) b n m w) (read_allowed o b n m' w) in
    subst P e (read_alike r m m' w b n h _ (looked r m m' b n is_writable clear))
call_alike r m m' w i Brk a b c heap heap' clear h = break_alike r m m' w i a heap heap' h (is_break a w) refl

-- of a world, an answer sees the rests of input and replies and the breaks alone
abbrev seen : World → World → World
seen w w' = record w' { stdin = w.stdin; replies = w.replies; first_break = w.first_break; brk = w.brk }

seen_alone : (k : Call) (a b c : ℕ) (m : Regions) (w w' : World) → answer_as k a b c m w ≡ answer_as k a b c m (seen w w')
seen_alone Exit a b c m w w' = refl
seen_alone Other a b c m w w' = refl
seen_alone NoFile a b c m w w' = refl
seen_alone Brk a b c m w w' = go (is_break a w)
  where
    go : (t : Bool) → break_answer t a m w ≡ break_answer t a m (seen w w')
    go true = refl
    go false = refl
seen_alone Read a b c m w w' = allowed (whole (no_wrap b (cut_count c)) (refused is_writable m b (cut_count c))) b (cut_count c)
  where
    received : (p : Reply) (at n : ℕ) → read_reply p at n m w ≡ read_reply p at n m (seen w w')
    received Full at n = refl
    received (AtMost k) at n = refl
    received (Error e) at n = refl

    allowed : (o : Option ℕ) (at n : ℕ) → read_allowed o at n m w ≡ read_allowed o at n m (seen w w')
    allowed (Some bad) at n = refl
    allowed None at n = received (next_reply w.replies) at n
seen_alone Write a b c m w w' = allowed (whole (no_wrap b (cut_count c)) (refused is_readable m b (cut_count c))) b (cut_count c)
  where
    sent : (p : Reply) (at n : ℕ) → write_reply p at n m w ≡ write_reply p at n m (seen w w')
    sent Full at n = refl
    sent (AtMost k) at n = refl
    sent (Error e) at n = refl

    allowed : (o : Option ℕ) (at n : ℕ) → write_allowed o at n m w ≡ write_allowed o at n m (seen w w')
    allowed (Some bad) at n = refl
    allowed None at n = sent (next_reply w.replies) at n

same_world_answer : (k : Call) (a b c : ℕ) (m : Regions) (w w' : World) → SameWorld w w' → answer_as k a b c m w ≡ answer_as k a b c m w'
same_world_answer k a b c m w w' h =
    seen_alone k a b c m w w'
    ∙ ap₂ (λ i r. let v : World = record w' { stdin = i; replies = r; first_break = w.first_break; brk = w.brk } in answer_as k a b c m v) h.stdin h.replies
    ∙ ap₂ (λ f b'. let v : World = record w' { first_break = f; brk = b' } in answer_as k a b c m v) h.first_break h.brk

-- the call that equal registers name is answered alike
pub answer_alike : (r : Range) (regs regs' : List ℕ) (m m' : Regions) (w w' : World) → CallClear r (call_in regs) (rsi regs) (cut_count (rdx regs))
    → HasHeap m w → HasHeap m' w' → regs ≡ regs' → SameWorld w w' → Alike r m m' → CalledAlike r (answer regs m w) (answer regs' m' w')
unfolding answer
answer_alike r regs regs' m m' w w' clear heap heap' e h alike =
    let H : ℕ → ℕ → Type 0 = λ f b. IsHeapAt f b m' w'.heap in
    let new = subst₂ H (sym h.first_break) (sym h.brk) heap'.heap in
    let one = call_alike r m m' w w'.heap (call_in regs) (rdi regs) (rsi regs) (rdx regs) heap new clear alike in
    let world = same_world_answer (call_in regs) (rdi regs) (rsi regs) (rdx regs) m' w w' h in
    let P : List ℕ → Type 0 = λ l. CalledAlike r (answer regs m w) (answer l m' w') in
    subst P e (subst (CalledAlike r (answer regs m w)) world one)

-- and leaves the same world
pub world_after_alike : (r : Range) (regs regs' : List ℕ) (w w' : World) (c d : Called) → regs ≡ regs' → SameWorld w w' → CalledAlike r c d → SameWorld (world_after regs w c) (world_after regs' w' d)
world_after_alike r regs regs' w w' c d e h k =
    record {
      stdin = k.stdin;
      replies = k.replies;
      events = let x = h.events in let y = k.answer in let z = k.bytes in cc;
      first_break = h.first_break;
      brk = k.brk;
    }

pub same_world : (w : World) → SameWorld w w
same_world w = record { stdin = refl; replies = refl; events = refl; first_break = refl; brk = refl }
