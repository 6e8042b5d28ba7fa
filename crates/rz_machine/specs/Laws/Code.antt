-- What may be executed, and the permissions of a range, stay as they are.
use Rattle.std.proofs.Common.{◌≡◌, ◌≢◌, ℕ, zero, suc, ◌+◌, ◌-◌, ◌<◌, ◌≤◌, ⊎_elim, Bool, true, false, if◌then◌else◌, Some, None, refl, sym, ap, ap₂, ◌∙◌, subst, arith}
use Rattle.std.proofs.lemmas.Bool.{cases_eq, cond-false}
use Rattle.std.proofs.lemmas.Bool.Decides.{nat_tests}
use Rattle.rz_image.specs.Memory.{Cell}
use Rattle.rz_machine.specs.declared.machine.Machine.{Machine}
use Rattle.rz_image.specs.Memory.{Regions, Range, cell_at, put_byte, code_of, fetched, fetch, SameCode, SamePerms, RangeStands, IsInside}
use Rattle.rz_sys.specs.declared.world.World.{World}
use Rattle.rz_sys.specs.Heap.{HasHeap, open_at}
use Rattle.rz_sys.specs.Laws.Heap.{StandsOpen, in_heap, heap_cell, opened_cell, cell_opened, heap_executes}
use Rattle.rz_isa.specs.Nodes.{Decoder}
use Rattle.rz_machine.specs.State.{step, after}
use Rattle.rz_machine.specs.Simulates.{HasCode}
use Rattle.rz_image.specs.Laws.Puts.{set_byte, cell_at-put_same, cell_at-put_other}
use Rattle.rz_image.specs.Laws.Alike.{StandsPut}
use Rattle.rz_machine.specs.Laws.Steps.{step_keeps, after_keeps}

-- the same code is fetched alike
pub fetch_same : (m n : Regions) (a k : ℕ) → SameCode m n → fetch m a k ≡ fetch n a k
unfolding fetch
fetch_same m n a zero h = refl
fetch_same m n a (suc k) h = ap₂ fetched (h.at a) (fetch_same m n (a + 1) k h)

-- another byte in a cell leaves its permissions
perms_set : (b : ℕ) (c : Cell) → SamePerms c (set_byte b c)
perms_set b c = go c.write
  where
    go : (w : Bool) → SamePerms c (if w then record c { byte = b } else c)
    go true = record { read = refl; write = refl; execute = refl }
    go false = record { read = refl; write = refl; execute = refl }

-- another byte in a cell that may not be executed leaves its code
code_set : (b : ℕ) (c : Cell) → (c.write ≡ true → c.execute ≡ false) → code_of (set_byte b c) ≡ code_of c
code_set b c h = go c.write h
  where
    go : (w : Bool) → (w ≡ true → c.execute ≡ false) → code_of (if w then record c { byte = b } else c) ≡ code_of c
    go true h = rw (h refl) refl
    go false h = refl

-- a put of a byte leaves all permissions
pub perms_put : (m : Regions) (a b c : ℕ) → SamePerms (cell_at m c) (cell_at (put_byte m a b) c)
perms_put m a b c = ⊎_elim same other (cases_eq c a)
  where
    P : ℕ → Type 0
    P d = SamePerms (cell_at m d) (cell_at (put_byte m a b) d)

    same : c ≡ a → P c
    same e = subst P (sym e) (rw (cell_at-put_same m a b) (perms_set b (cell_at m a)))

    other : c ≢ a → P c
    other ne = rw (cell_at-put_other m a b c ne) (record { read = refl; write = refl; execute = refl })

-- a put of a byte leaves the code
has_code_put : (old : Regions) → StandsPut (HasCode old)
has_code_put old m a b h =
    record {
      same = record { at = λ c. h.same.at c ∙ sym (⊎_elim (λ e. here c e) (λ ne. ap code_of (cell_at-put_other m a b c ne)) (cases_eq c a)) };
      fixed = record { at = λ c w. let p = perms_put m a b c in sym p.execute ∙ h.fixed.at c (p.write ∙ w) };
    }
  where
    here : (c : ℕ) → c ≡ a → code_of (cell_at (put_byte m a b) c) ≡ code_of (cell_at m c)
    here c e =
        let P : ℕ → Type 0 = λ d. code_of (cell_at (put_byte m a b) d) ≡ code_of (cell_at m d) in
        subst P (sym e) (ap code_of (cell_at-put_same m a b) ∙ code_set b (cell_at m a) (h.fixed.at a))

-- another byte in a cell that may not be written leaves its byte
byte_set : (b : ℕ) (c : Cell) → c.write ≡ false → (set_byte b c).byte ≡ c.byte
byte_set b c h = go c.write h
  where
    go : (w : Bool) → w ≡ false → (if w then record c { byte = b } else c).byte ≡ c.byte
    go true h = cc
    go false h = refl

-- a put of a byte leaves the permissions of a range, and what may not be written there
range_stands_put : (r : Range) (old : Regions) → StandsPut (RangeStands r old)
range_stands_put r old m a b h =
    record {
      perms = λ c i. let p = perms_put m a b c in let q = h.perms c i in record { read = q.read ∙ p.read; write = q.write ∙ p.write; execute = q.execute ∙ p.execute };
      bytes = λ c i w. let q = h.perms c i in stays c (sym q.write ∙ w) ∙ h.bytes c i w;
    }
  where
    stays : (c : ℕ) → (cell_at m c).write ≡ false → (cell_at (put_byte m a b) c).byte ≡ (cell_at m c).byte
    stays c w = ⊎_elim (here c w) (λ ne. ap (λ d. d.byte) (cell_at-put_other m a b c ne)) (cases_eq c a)
      where
        here : (c : ℕ) → (cell_at m c).write ≡ false → c ≡ a → (cell_at (put_byte m a b) c).byte ≡ (cell_at m c).byte
        here c w e =
            let P : ℕ → Type 0 = λ d. (cell_at m d).write ≡ false → (cell_at (put_byte m a b) d).byte ≡ (cell_at m d).byte in
            subst P (sym e) (λ w. ap (λ d. d.byte) (cell_at-put_same m a b) ∙ byte_set b (cell_at m a) w) w

-- a cell of the heap has no code, whatever is open
code_opened : (fb n a : ℕ) (c : Cell) → (in_heap fb a ≡ true → c.execute ≡ false) → code_of (opened_cell fb n a c) ≡ code_of c
code_opened fb n a c h = go (in_heap fb a) h
  where
    go : (b : Bool) → (b ≡ true → c.execute ≡ false) → code_of (if b then heap_cell (a - fb) n c else c) ≡ code_of c
    go true h = sym (ap (λ e. if e then Some c.byte else None) (h refl))
    go false h = refl

-- opening the heap leaves the code
has_code_open : (old : Regions) (w : World) → StandsOpen (HasCode old) w
has_code_open old w m n heap le h = record { same = record { at = same }; fixed = record { at = fixed } }
  where
    fb : ℕ
    fb = w.first_break

    cell : (a : ℕ) → cell_at (open_at m fb n) a ≡ opened_cell fb n a (cell_at m a)
    cell a = cell_opened m w n a heap le

    closed : (a : ℕ) → in_heap fb a ≡ true → (cell_at m a).execute ≡ false
    closed a e = heap_executes fb w.brk m w.heap a heap.heap e

    same : (a : ℕ) → code_of (cell_at old a) ≡ code_of (cell_at (open_at m fb n) a)
    same a = h.same.at a ∙ sym (ap code_of (cell a) ∙ code_opened fb n a (cell_at m a) (closed a))

    apart : (a : ℕ) (b : Bool) → (if b then heap_cell (a - fb) n (cell_at m a) else cell_at m a).write ≡ true → (if b then heap_cell (a - fb) n (cell_at m a) else cell_at m a).execute ≡ false
    apart a true e = refl
    apart a false e = h.fixed.at a e

    fixed : (a : ℕ) → (cell_at (open_at m fb n) a).write ≡ true → (cell_at (open_at m fb n) a).execute ≡ false
    fixed a e = ap (λ (c : Cell). c.execute) (cell a) ∙ apart a (in_heap fb a) (ap (λ (c : Cell). c.write) (sym (cell a)) ∙ e)

-- opening the heap leaves what lies below it
range_stands_open : (r : Range) (old : Regions) (w : World) → r.high ≤ w.first_break → StandsOpen (RangeStands r old) w
range_stands_open r old w below m n heap le h =
    record {
      perms = λ a i. subst (SamePerms (cell_at old a)) (sym (cell a i)) (h.perms a i);
      bytes = λ a i e. ap (λ (c : Cell). c.byte) (cell a i) ∙ h.bytes a i e;
    }
  where
    cell : (a : ℕ) → IsInside r a → cell_at (open_at m w.first_break n) a ≡ cell_at m a
    cell a i =
        let low : a < w.first_break = omega (arith, i.1) in
        let out : in_heap w.first_break a ≡ false = grind (arith, nat_tests, low) in
        cell_opened m w n a heap le ∙ cond-false (in_heap w.first_break a) _ _ out

-- the code stands through steps
pub step_code : (old : Regions) (dec : Decoder) (s : Machine) → HasHeap s.mem s.world → HasCode old s.mem → HasCode old (step dec s).mem
step_code old dec s heap h =
    step_keeps s.world.first_break (HasCode old) (has_code_put old) (λ w e. has_code_open old w) dec s heap refl h

pub after_code : (old : Regions) (dec : Decoder) (n : ℕ) (s : Machine) → HasHeap s.mem s.world → HasCode old s.mem → HasCode old (after dec n s).mem
after_code old dec n s heap h =
    after_keeps s.world.first_break (HasCode old) (has_code_put old) (λ w e. has_code_open old w) dec n s heap refl h

-- so does a range below the heap
pub after_range : (r : Range) (old : Regions) (dec : Decoder) (n : ℕ) (s : Machine) → HasHeap s.mem s.world → r.high ≤ s.world.first_break → RangeStands r old s.mem → RangeStands r old (after dec n s).mem
after_range r old dec n s heap below h =
    after_keeps s.world.first_break (RangeStands r old) (range_stands_put r old) (λ w e. range_stands_open r old w (subst (λ k. r.high ≤ k) (sym e) below)) dec n s heap refl h
