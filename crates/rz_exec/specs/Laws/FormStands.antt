-- What every put of a byte leaves, every effect leaves.
use Rattle.std.proofs.Common.{ℕ, zero, suc, Bool, true, false, List, Option, Some, None, Result, Ok, Err}
use Rattle.byteorder.specs.Endian.{little_bytes}
use Rattle.rz_flags.specs.declared.Flags.{Flags}
use Rattle.rz_image.specs.Memory.{Regions, refused, is_writable}
use Rattle.rz_image.specs.Word.{byte_count}
use Rattle.rz_image.specs.Laws.Alike.{StandsPut, puts_stand}
use Rattle.rz_exec.specs.Form.{WordAt, NewValues, Stop, Exception, Effect, Completion, allowed, read_word, write_word}
use Rattle.rz_exec.specs.Form.{after_write, after_gives, after_second, after_first, carry}
use Rattle.rz_exec.specs.Form.{Repeat, if_follows, and_then, iterate, PlainEffect, Once, Repeats, complete}

module _ (P : Regions → Type 0) (stands : StandsPut P) where
  -- an effect
  pub carry_stands : (e : Effect) (regs : List ℕ) (flags : Flags) (m : Regions) → P m → P (carry e regs flags m).mem
  unfolding carry
  carry_stands e regs flags m h = at_first (read_word m e.accesses.first)
    where
      put : (o : Option ℕ) (v : NewValues) (n : Regions) → P n → P (after_write regs flags m v (allowed o n)).mem
      put (Some bad) v n p = h
      put None v n p = p

      at_write : (w : Option WordAt) (v : NewValues) → P (after_write regs flags m v (write_word m w v.word)).mem
      at_write None v = h
      at_write (Some a) v =
          let n = byte_count a.width in
          put (refused is_writable m a.at n) v _ (puts_stand P stands m a.at (little_bytes n v.word) h)

      at_gives : (o : Result NewValues Stop) → P (after_gives e.accesses.write regs flags m o).mem
      at_gives (Err why) = h
      at_gives (Ok v) = at_write e.accesses.write v

      at_second : (a : ℕ) (o : Result ℕ Exception) → P (after_second e a regs flags m o).mem
      at_second a (Err x) = h
      at_second a (Ok b) = at_gives (e.gives a b)

      at_first : (o : Result ℕ Exception) → P (after_first e regs flags m o).mem
      at_first (Err x) = h
      at_first (Ok a) = at_second a (read_word m e.accesses.second)

  abbrev Turns : Repeat → ℕ → Type 0
  Turns p n = (regs : List ℕ) (flags : Flags) (m : Regions) → P m → P (iterate p n regs flags m).mem

  -- a repeat
  pub iterate_stands : (p : Repeat) (n : ℕ) (regs : List ℕ) (flags : Flags) (m : Regions) → P m → P (iterate p n regs flags m).mem
  unfolding iterate
  iterate_stands p zero regs flags m h = h
  iterate_stands p (suc n) regs flags m h =
      let e : Effect = p.each regs flags in
      go (carry e regs flags m) (carry_stands e regs flags m h) (λ regs flags m. iterate_stands p n regs flags m)
    where
      more : (b : Bool) (c : Completion) → P c.mem → Turns p n → P (if_follows b c (iterate p n)).mem
      more false c k ih = k
      more true c k ih = ih c.regs c.flags c.mem k

      split : (o : Option Exception) (b : Bool) (c : Completion) → P c.mem → Turns p n → P (and_then o b c (iterate p n)).mem
      split (Some x) b c k ih = k
      split None b c k ih = more b c k ih

      go : (c : Completion) → P c.mem → Turns p n → P (and_then c.exception (p.follows c.flags) c (iterate p n)).mem
      go c k ih = split c.exception (p.follows c.flags) c k ih

  -- a plain instruction
  pub complete_stands : (p : PlainEffect) (regs : List ℕ) (flags : Flags) (m : Regions) → P m → P (complete p regs flags m).mem
  complete_stands (Once e) regs flags m h = carry_stands e regs flags m h
  complete_stands (Repeats p) regs flags m h = iterate_stands p _ regs flags m h
