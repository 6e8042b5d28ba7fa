-- One iteration of a repeat, and what is left to do.
use Rattle.std.proofs.Common.{◌≡◌, true, false, ℕ, suc, ◌-◌, ◌<◌, ◌≤◌, List, get_or, Some, None, refl, sym, ap, ◌∙◌, arith}
use Rattle.rz_flags.specs.declared.Flags.{Flags}
use Rattle.rz_image.specs.Memory.{Regions}
use Rattle.rz_exec.specs.Form.{Exception, Repeat, Completion, unchanged, carry, iterate}

pub next : (r : Repeat) (k : ℕ) (regs : List ℕ) (flags : Flags) (m : Regions) (c : Completion) → c ≡ carry (r.each regs flags) regs flags m → c.exception ≡ None
    → r.follows c.flags ≡ true → iterate r (suc k) regs flags m ≡ iterate r k c.regs c.flags c.mem
unfolding iterate
next r k regs flags m c e none follows = rw (← e, none, follows) refl

stops : (r : Repeat) (k : ℕ) (regs : List ℕ) (flags : Flags) (m : Regions) (c : Completion) → c ≡ carry (r.each regs flags) regs flags m → c.exception ≡ None
    → r.follows c.flags ≡ false → iterate r (suc k) regs flags m ≡ c
unfolding iterate
stops r k regs flags m c e none follows = rw (← e, none, follows) refl

ends : (r : Repeat) (k : ℕ) (regs : List ℕ) (flags : Flags) (m : Regions) (c : Completion) (x : Exception) → c ≡ carry (r.each regs flags) regs flags m → c.exception ≡ Some x
    → iterate r (suc k) regs flags m ≡ c
unfolding iterate
ends r k regs flags m c x e some = rw (← e, some) refl

-- an iteration that counts RCX down leaves the others to do, where another follows
pub one_done : (r : Repeat) (regs : List ℕ) (flags : Flags) (m : Regions) (c : Completion) → 0 < get_or regs 1 0 → get_or c.regs 1 0 ≡ get_or regs 1 0 - 1
    → c ≡ carry (r.each regs flags) regs flags m → c.exception ≡ None → r.follows c.flags ≡ true
    → iterate r (get_or c.regs 1 0) c.regs c.flags c.mem ≡ iterate r (get_or regs 1 0) regs flags m
one_done r regs flags m c some count e none follows =
    let k : suc (get_or c.regs 1 0) ≡ get_or regs 1 0 = omega arith in
    sym (next r (get_or c.regs 1 0) regs flags m c e none follows) ∙ ap (λ n. iterate r n regs flags m) k

-- an iteration that none follows ends the repeat
pub one_stops : (r : Repeat) (regs : List ℕ) (flags : Flags) (m : Regions) (c : Completion) → 0 < get_or regs 1 0
    → c ≡ carry (r.each regs flags) regs flags m → c.exception ≡ None → r.follows c.flags ≡ false → c ≡ iterate r (get_or regs 1 0) regs flags m
one_stops r regs flags m c some e none follows =
    let k : suc (get_or regs 1 0 - 1) ≡ get_or regs 1 0 = omega arith in
    sym (stops r (get_or regs 1 0 - 1) regs flags m c e none follows) ∙ ap (λ n. iterate r n regs flags m) k

-- an iteration that isn't completed ends the repeat
pub one_ends : (r : Repeat) (regs : List ℕ) (flags : Flags) (m : Regions) (c : Completion) (x : Exception) → 0 < get_or regs 1 0
    → c ≡ carry (r.each regs flags) regs flags m → c.exception ≡ Some x → c ≡ iterate r (get_or regs 1 0) regs flags m
one_ends r regs flags m c x some e fault =
    let k : suc (get_or regs 1 0 - 1) ≡ get_or regs 1 0 = omega arith in
    sym (ends r (get_or regs 1 0 - 1) regs flags m c x e fault) ∙ ap (λ n. iterate r n regs flags m) k

-- nothing is left to do where RCX is 0
pub none_left : (r : Repeat) (regs : List ℕ) (flags : Flags) (m : Regions) → get_or regs 1 0 ≤ 0 → unchanged regs flags m None ≡ iterate r (get_or regs 1 0) regs flags m
unfolding iterate
none_left r regs flags m h =
    let k : 0 ≡ get_or regs 1 0 = omega arith in
    ap (λ n. iterate r n regs flags m) k
