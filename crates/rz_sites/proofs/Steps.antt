-- What one item of a site does.
use Rattle.std.proofs.Common.{◌≡◌, ℕ, ◌+◌, ◌-◌, ◌*◌, ◌%◌, ◌^◌, ◌<◌, List, get_or, set, Option, Some, None, Result, Ok, Err, refl, ap, ◌∙◌, arith, mod-eq_of_lt}
use Rattle.std.specs.Prelude.{ℤ, pos, ◌-ℤ◌}
use Rattle.std.specs.Int.{cast_unsigned, w64}
use Rattle.std.proofs.lemmas.Int.{ints}
use Rattle.byteorder.specs.Endian.{little_bytes}
use Rattle.rz_num.specs.declared.width.Width.TheVariants.{W64}
use Rattle.rz_flags.specs.declared.Flags.{Flags}
use Rattle.rz_isa.specs.declared.instruction.Insn.{Insn}
use Rattle.rz_isa.specs.declared.instruction.Insn.TheVariants as insn
use Rattle.rz_isa.specs.declared.instruction.Mem.{Mem}
use Rattle.rz_isa.specs.declared.instruction.Place.{Place}
use Rattle.rz_isa.specs.declared.instruction.Place.TheVariants as place
use Rattle.rz_isa.specs.declared.instruction.Operand.TheVariants as operand
use Rattle.rz_isa.specs.Emitted.{register}
use Rattle.rz_isa.specs.Items.{absolute, store}
use Rattle.rz_image.specs.Memory.{Regions, refused, is_writable, put_bytes}
use Rattle.rz_exec.specs.Form.{NewValues, Exception, allowed, read_word, after_write, after_first, carry}
use Rattle.rz_exec.specs.Operands.{address, word_of, value_of}
use Rattle.rz_exec.specs.Moves.{mov_effect}
use Rattle.rz_exec.specs.Stack.{below_top, pop_effect}
use Rattle.rz_exec.specs.Effect.{plain_effect}
use Rattle.rz_machine.specs.declared.machine.Machine.{Machine}
use Rattle.rz_machine.specs.State.{perform, end_of, after_effect}
use Rattle.rz_machine.specs.Laws.States.{now, fault_at, absolute_is}
use Rattle.rz_machine.specs.Laws.Stored.{word}

abbrev from_register : ℕ → ℤ → Mem
from_register r n = record { base = Some r; index = None; scale = 1; disp = n }

-- ---- moves

abbrev pub save_insn : ℕ → Insn
save_insn a = insn.Mov W64 (place.Mem (absolute a)) (operand.Place (register 1))

abbrev pub load_insn : Place → Insn
load_insn src = insn.Mov W64 (register 1) (operand.Place src)

abbrev pub add_insn : ℕ → ℤ → Insn
add_insn r n = insn.Lea W64 r (place.Mem (from_register r n))

pub save_is : (a next : ℕ) (t : Machine) (regs : List ℕ) (flags : Flags) (p : ℕ) (m : Regions) → a < 2 ^ 31 → refused is_writable m a 8 ≡ None
    → perform (save_insn a) next (now t regs flags p m) ≡ now t regs flags next (put_bytes m a (little_bytes 8 (get_or regs 1 0 % 2 ^ 64)))
unfolding carry plain_effect
save_is a next t regs flags p m low open' =
    let v : NewValues = record { regs = regs; flags = flags; word = get_or regs 1 0 % 2 ^ 64 } in
    let P : ℕ → Machine = λ x. after_effect (after_write regs flags m v (allowed (refused is_writable m x 8) (put_bytes m x (little_bytes 8 v.word)))) next (now t regs flags p m) in
    let Q : Option ℕ → Machine = λ o. after_effect (after_write regs flags m v (allowed o (put_bytes m a (little_bytes 8 v.word)))) next (now t regs flags p m) in
    ap P (absolute_is regs a low) ∙ ap Q open'

-- a number is stored
pub store_is : (a v next : ℕ) (t : Machine) (regs : List ℕ) (flags : Flags) (p : ℕ) (m : Regions) → a < 2 ^ 31 → refused is_writable m a 8 ≡ None
    → perform (store a v) next (now t regs flags p m) ≡ now t regs flags next (put_bytes m a (little_bytes 8 v))
unfolding carry plain_effect
store_is a v next t regs flags p m low open' =
    let r : NewValues = record { regs = regs; flags = flags; word = v } in
    let P : ℕ → Machine = λ x. after_effect (after_write regs flags m r (allowed (refused is_writable m x 8) (put_bytes m x (little_bytes 8 v)))) next (now t regs flags p m) in
    let Q : Option ℕ → Machine = λ o. after_effect (after_write regs flags m r (allowed o (put_bytes m a (little_bytes 8 v)))) next (now t regs flags p m) in
    ap P (absolute_is regs a low) ∙ ap Q open'

-- by what the operand's read gives
abbrev pub loaded : Place → (next : ℕ) (t : Machine) (regs : List ℕ) (flags : Flags) (p : ℕ) (m : Regions) → Result ℕ Exception → Machine
loaded src next t regs flags p m (Ok w) = now t (set regs 1 (value_of W64 regs src w % 2 ^ 64)) flags next m
loaded src next t regs flags p m (Err x) = fault_at x (now t regs flags p m)

pub load_is : (src : Place) (next : ℕ) (t : Machine) (regs : List ℕ) (flags : Flags) (p : ℕ) (m : Regions) (o : Result ℕ Exception) → read_word m (word_of W64 regs src) ≡ o
    → perform (load_insn src) next (now t regs flags p m) ≡ loaded src next t regs flags p m o
unfolding carry plain_effect
load_is src next t regs flags p m o h =
    let P : Result ℕ Exception → Machine = λ o. after_effect (after_first (mov_effect W64 (register 1) (operand.Place src) regs flags) regs flags m o) next (now t regs flags p m) in
    ap P h ∙ cases o
  where
    cases : (o : Result ℕ Exception) → after_effect (after_first (mov_effect W64 (register 1) (operand.Place src) regs flags) regs flags m o) next (now t regs flags p m) ≡ loaded src next t regs flags p m o
    cases (Ok w) = refl
    cases (Err x) = refl

pub load_at_is : (a v next : ℕ) (t : Machine) (regs : List ℕ) (flags : Flags) (p : ℕ) (m : Regions) → a < 2 ^ 31 → v < 2 ^ 64 → read_word m (word a) ≡ Ok v
    → perform (load_insn (place.Mem (absolute a))) next (now t regs flags p m) ≡ now t (set regs 1 v) flags next m
load_at_is a v next t regs flags p m low fits h =
    let e : read_word m (word (address regs (absolute a))) ≡ Ok v = ap (λ x. read_word m (word x)) (absolute_is regs a low) ∙ h in
    load_is (place.Mem (absolute a)) next t regs flags p m (Ok v) e
    ∙ ap (λ x. now t (set regs 1 x) flags next m) (mod-eq_of_lt fits)

-- ---- sums

add_is : (r : ℕ) (n : ℤ) (next : ℕ) (t : Machine) (regs : List ℕ) (flags : Flags) (p : ℕ) (m : Regions)
    → perform (add_insn r n) next (now t regs flags p m) ≡ now t (set regs r (address regs (from_register r n) % 2 ^ 64)) flags next m
unfolding carry plain_effect
add_is r n next t regs flags p m = refl

difference_is : (previous target : ℕ) → previous < 2 ^ 31 → target < 2 ^ 31 → cast_unsigned w64 (pos previous -ℤ pos target) ≡ (previous + (2 ^ 64 - target)) % 2 ^ 64
difference_is previous target h k = omega (arith, ints)

-- the value minus a target, by that minus the one before
pub subtract_is : (previous target u v next : ℕ) (t : Machine) (regs : List ℕ) (flags : Flags) (p : ℕ) (m : Regions) → previous < 2 ^ 31 → target < 2 ^ 31
    → v < 2 ^ 64 → get_or regs 1 0 ≡ u → u ≡ (v + (2 ^ 64 - previous)) % 2 ^ 64
    → perform (add_insn 1 (pos previous -ℤ pos target)) next (now t regs flags p m) ≡ now t (set regs 1 ((v + (2 ^ 64 - target)) % 2 ^ 64)) flags next m
subtract_is previous target u v next t regs flags p m low below fits rcx is =
    let d : ℕ = cast_unsigned w64 (pos previous -ℤ pos target) in
    let e : d ≡ (previous + (2 ^ 64 - target)) % 2 ^ 64 = difference_is previous target low below in
    let sum : (u + d) % 2 ^ 64 % 2 ^ 64 ≡ (v + (2 ^ 64 - target)) % 2 ^ 64 = omega (arith, is, e) in
    let same : address regs (from_register 1 (pos previous -ℤ pos target)) % 2 ^ 64 ≡ (v + (2 ^ 64 - target)) % 2 ^ 64 =
    (let zero' : get_or regs 1 0 + 0 * 1 + d ≡ u + d = omega (arith, rcx) in ap (λ x. x % 2 ^ 64 % 2 ^ 64) zero' ∙ sum) in
    add_is 1 (pos previous -ℤ pos target) next t regs flags p m ∙ ap (λ x. now t (set regs 1 x) flags next m) same

-- bytes dropped from the stack
pub drop_is : (n next : ℕ) (t : Machine) (regs : List ℕ) (flags : Flags) (p : ℕ) (m : Regions)
    → perform (add_insn 4 (pos n)) next (now t regs flags p m) ≡ now t (set regs 4 ((get_or regs 4 0 + n) % 2 ^ 64)) flags next m
drop_is n next t regs flags p m =
    let same : address regs (from_register 4 (pos n)) % 2 ^ 64 ≡ (get_or regs 4 0 + n) % 2 ^ 64 = omega arith in
    add_is 4 (pos n) next t regs flags p m ∙ ap (λ x. now t (set regs 4 x) flags next m) same

-- ---- the stack

-- by what the read of its top gives
abbrev pub popped_to : (next : ℕ) (t : Machine) (regs : List ℕ) (flags : Flags) (p : ℕ) (m : Regions) → Result ℕ Exception → Machine
popped_to next t regs flags p m (Ok w) = now t (set (set regs 4 ((get_or regs 4 0 + 8) % 2 ^ 64)) 1 (w % 2 ^ 64)) flags next m
popped_to next t regs flags p m (Err x) = fault_at x (now t regs flags p m)

pub pop_is : (next : ℕ) (t : Machine) (regs : List ℕ) (flags : Flags) (p : ℕ) (m : Regions) (o : Result ℕ Exception) → read_word m (word (get_or regs 4 0)) ≡ o
    → perform (insn.Pop (register 1)) next (now t regs flags p m) ≡ popped_to next t regs flags p m o
unfolding carry plain_effect
pop_is next t regs flags p m o h =
    let P : Result ℕ Exception → Machine = λ o. after_effect (after_first (pop_effect (register 1) regs flags) regs flags m o) next (now t regs flags p m) in
    ap P h ∙ cases o
  where
    cases : (o : Result ℕ Exception) → after_effect (after_first (pop_effect (register 1) regs flags) regs flags m o) next (now t regs flags p m) ≡ popped_to next t regs flags p m o
    cases (Ok w) = refl
    cases (Err x) = refl

-- by the first byte that may not be written
abbrev pub pushed : (n next : ℕ) (t : Machine) (regs : List ℕ) (flags : Flags) (p : ℕ) (m : Regions) → Option ℕ → Machine
pushed n next t regs flags p m None = now t (set regs 4 (below_top regs % 2 ^ 64)) flags next (put_bytes m (below_top regs) (little_bytes 8 n))
pushed n next t regs flags p m (Some bad) = fault_at (Rattle.rz_exec.specs.Form.Memory bad) (now t regs flags p m)

pub push_is : (n next : ℕ) (t : Machine) (regs : List ℕ) (flags : Flags) (p : ℕ) (m : Regions) (o : Option ℕ) → refused is_writable m (below_top regs) 8 ≡ o
    → perform (insn.Push (operand.Imm n)) next (now t regs flags p m) ≡ pushed n next t regs flags p m o
unfolding carry plain_effect
push_is n next t regs flags p m o h = ap P h ∙ cases o
  where
    v : NewValues
    v = record { regs = set regs 4 (below_top regs % 2 ^ 64); flags = flags; word = n }

    P : Option ℕ → Machine
    P o = after_effect (after_write regs flags m v (allowed o (put_bytes m (below_top regs) (little_bytes 8 n)))) next (now t regs flags p m)

    cases : (o : Option ℕ) → P o ≡ pushed n next t regs flags p m o
    cases None = refl
    cases (Some bad) = refl
