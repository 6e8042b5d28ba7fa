-- What each instruction of the lookup routine does, from registers, flags and memory.
use Rattle.std.proofs.Common.{◌≡◌, ℕ, ◌+◌, ◌/◌, ◌%◌, ◌^◌, ◌<◌, List, get_or, set, Option, Some, None, Result, Ok, refl, ap, ◌∙◌}
use Rattle.byteorder.specs.Endian.{little_bytes}
use Rattle.rz_num.specs.declared.width.Width.{Width}
use Rattle.rz_num.specs.declared.width.Width.TheVariants.{W32, W64}
use Rattle.rz_flags.specs.declared.Flags.{Flags}
use Rattle.rz_flags.specs.declared.ArithOp.TheVariants.{Sub, Cmp}
use Rattle.rz_flags.specs.declared.ShiftOp.TheVariants.{Shr}
use Rattle.rz_flags.specs.Word.{flags_word, flags_in}
use Rattle.rz_alu.specs.Arith.{arith as arithmetic}
use Rattle.rz_alu.specs.Shifts.{shift}
use Rattle.rz_isa.specs.declared.instruction.Insn.TheVariants as insn
use Rattle.rz_isa.specs.declared.instruction.Mem.{Mem}
use Rattle.rz_isa.specs.declared.instruction.Place.TheVariants as place
use Rattle.rz_isa.specs.declared.instruction.Operand.TheVariants as operand
use Rattle.rz_isa.specs.Emitted.{register}
use Rattle.rz_image.specs.Memory.{Regions, refused, is_writable, put_bytes}
use Rattle.rz_exec.specs.Form.{NewValues, Exception, allowed, read_word, after_write, after_first, carry}
use Rattle.rz_exec.specs.Registers.{merge}
use Rattle.rz_exec.specs.Operands.{address, word_of}
use Rattle.rz_exec.specs.Arithmetic.{arith_effect}
use Rattle.rz_exec.specs.Moves.{mov_effect}
use Rattle.rz_exec.specs.Stack.{below_top, pop_flags_effect}
use Rattle.rz_exec.specs.Effect.{plain_effect}
use Rattle.rz_machine.specs.declared.machine.Machine.{Machine}
use Rattle.rz_machine.specs.State.{perform, after_effect}
use Rattle.rz_lookup.specs.Routine.{store, load, load_number, halve, compare, compare_low, advance}
use Rattle.rz_machine.specs.Laws.States.{now, absolute_is}
use Rattle.rz_machine.specs.Laws.Stored.{word}

module _ (t : Machine) (regs : List ℕ) (flags : Flags) (p : ℕ) (m : Regions) (next : ℕ) where
  abbrev here : Machine
  here = now t regs flags p m

  -- ---- memory

  pub store_is : (a r : ℕ) → a < 2 ^ 31 → refused is_writable m a 8 ≡ None
      → perform (store a r) next (now t regs flags p m) ≡ now t regs flags next (put_bytes m a (little_bytes 8 (get_or regs r 0 % 2 ^ 64)))
  unfolding carry plain_effect
  store_is a r low open' =
      let v : NewValues = record { regs = regs; flags = flags; word = get_or regs r 0 % 2 ^ 64 } in
      let P : ℕ → Machine = λ x. after_effect (after_write regs flags m v (allowed (refused is_writable m x 8) (put_bytes m x (little_bytes 8 v.word)))) next (now t regs flags p m) in
      let Q : Option ℕ → Machine = λ o. after_effect (after_write regs flags m v (allowed o (put_bytes m a (little_bytes 8 v.word)))) next (now t regs flags p m) in
      ap P (absolute_is regs a low) ∙ ap Q open'

  pub load_is : (w : Width) (r : ℕ) (x : Mem) (v : ℕ) → read_word m (word_of w regs (place.Mem x)) ≡ Ok v
      → perform (load w r x) next (now t regs flags p m) ≡ now t (set regs r (merge w (get_or regs r 0) v)) flags next m
  unfolding carry plain_effect
  load_is w r x v h =
      let P : Result ℕ Exception → Machine = λ o. after_effect (after_first (mov_effect w (register r) (operand.Place (place.Mem x)) regs flags) regs flags m o) next (now t regs flags p m) in
      ap P h

  -- ---- registers

  pub number_is : (r n : ℕ) → perform (load_number r n) next (now t regs flags p m) ≡ now t (set regs r (n % 2 ^ 32)) flags next m
  unfolding carry plain_effect
  number_is r n = refl

  pub advance_is : (r : ℕ) (x : Mem) → perform (advance r x) next (now t regs flags p m) ≡ now t (set regs r (address regs x % 2 ^ 64)) flags next m
  unfolding carry plain_effect
  advance_is r x = refl

  -- ---- sums and flags

  -- half of a register, whose lowest bit is CF then
  abbrev pub halved : ℕ → Flags
  halved r = (shift Shr W64 (get_or regs r 0 % 2 ^ 64) 1 flags).flags

  pub halve_is : (r : ℕ) → perform (halve r) next (now t regs flags p m) ≡ now t (set regs r (get_or regs r 0 % 2 ^ 64 % 2 ^ 64 / 2 % 2 ^ 64)) (halved r) next m
  unfolding carry plain_effect
  halve_is r = refl

  abbrev pub difference : Width → (a b : ℕ) → Flags
  difference w a b = (arithmetic Sub w a b flags).flags

  pub compare_is : (r q : ℕ) → perform (compare r (operand.Place (register q))) next (now t regs flags p m) ≡ now t regs (difference W64 (get_or regs r 0 % 2 ^ 64) (get_or regs q 0 % 2 ^ 64)) next m
  unfolding carry plain_effect
  compare_is r q = refl

  pub compare_number_is : (r n : ℕ) → perform (compare r (operand.Imm n)) next (now t regs flags p m) ≡ now t regs (difference W64 (get_or regs r 0 % 2 ^ 64) n) next m
  unfolding carry plain_effect
  compare_number_is r n = refl

  pub compare_low_is : (r : ℕ) (x : Mem) (v : ℕ) → read_word m (word_of W32 regs (place.Mem x)) ≡ Ok v
      → perform (compare_low r x) next (now t regs flags p m) ≡ now t regs (difference W32 (get_or regs r 0 % 2 ^ 32) v) next m
  unfolding carry plain_effect
  compare_low_is r x v h =
      let e = arith_effect Cmp W32 (register r) (operand.Place (place.Mem x)) regs flags in
      let P : Result ℕ Exception → Machine = λ o. after_effect (Rattle.rz_exec.specs.Form.after_second e 0 regs flags m o) next (now t regs flags p m) in
      ap P h

  -- ---- the flags as a word

  pub push_flags_is : refused is_writable m (below_top regs) 8 ≡ None
      → perform insn.PushFlags next (now t regs flags p m) ≡ now t (set regs 4 (below_top regs % 2 ^ 64)) flags next (put_bytes m (below_top regs) (little_bytes 8 (flags_word flags)))
  unfolding carry plain_effect
  push_flags_is open' =
      let v : NewValues = record { regs = set regs 4 (below_top regs % 2 ^ 64); flags = flags; word = flags_word flags } in
      let Q : Option ℕ → Machine = λ o. after_effect (after_write regs flags m v (allowed o (put_bytes m (below_top regs) (little_bytes 8 v.word)))) next (now t regs flags p m) in
      ap Q open'

  pub pop_flags_is : (v : ℕ) (new : Flags) → read_word m (word (get_or regs 4 0)) ≡ Ok v → flags_in v ≡ Some new
      → perform insn.PopFlags next (now t regs flags p m) ≡ now t (set regs 4 ((get_or regs 4 0 + 8) % 2 ^ 64)) new next m
  unfolding carry plain_effect
  pop_flags_is v new h is =
      let P : Result ℕ Exception → Machine = λ o. after_effect (after_first (pop_flags_effect regs flags) regs flags m o) next (now t regs flags p m) in
      let Q : Option Flags → Machine = λ o. after_effect (Rattle.rz_exec.specs.Form.after_gives None regs flags m (Rattle.rz_exec.specs.Stack.taken_flags (Rattle.rz_exec.specs.Stack.popped (get_or regs 4 0) regs) o)) next (now t regs flags p m) in
      ap P h ∙ ap Q is
