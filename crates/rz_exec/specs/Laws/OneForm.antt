-- Two states that are alike have alike effects.
use Rattle.std.proofs.Common.{◌≡◌, ℕ, zero, suc, Bool, true, false, List, length, Option, Some, None, Result, Ok, Err, refl, sym, ap, ap₂, subst}
use Rattle.byteorder.specs.Endian.{little_bytes, little_number}
use Rattle.byteorder.specs.Numbers.{length-bytes_low_first}
use Rattle.rz_flags.specs.declared.Flags.{Flags}
use Rattle.rz_image.specs.Memory.{Regions, Range, IsClear, Alike, refused, is_writable, put_bytes}
use Rattle.rz_image.specs.Word.{byte_count}
use Rattle.rz_image.specs.Laws.Puts.{alike_puts}
use Rattle.rz_image.specs.Laws.Alike.{alike_bytes, alike_readable, alike_writable}
use Rattle.rz_exec.specs.Form.{WordAt, NewValues, Stop, Exception, Own, Effect, Completion, allowed, read_word, write_word, unchanged}
use Rattle.rz_exec.specs.Form.{after_write, after_gives, after_second, after_first, carry}
use Rattle.rz_exec.specs.Form.{Repeat, if_follows, and_then, iterate, PlainEffect, Once, Repeats, complete}
use Rattle.rz_exec.specs.Attempts.{WordClear, GivesClear, SecondClear, FirstClear, EffectClear, FollowsClear, ThenClear, IterationsClear, PlainClear}

-- equal registers, flags and exceptions, and memories alike outside the range
pub record CompletionAlike (r : Range) (c d : Completion) : Type 0 where
  pub regs : c.regs ≡ d.regs
  pub flags : c.flags ≡ d.flags
  pub mem : Alike r c.mem d.mem
  pub exception : c.exception ≡ d.exception

-- the same word is read, or the same address refused
pub alike_read : (r : Range) (m m' : Regions) (o : Option WordAt) → WordClear r o → Alike r m m' → read_word m o ≡ read_word m' o
alike_read r m m' None clear h = refl
alike_read r m m' (Some a) clear h =
    let n = byte_count a.width in
    ap₂ (λ o bs. allowed o (little_number n bs)) (alike_readable r m m' a.at n clear h) (alike_bytes r m m' a.at n clear h)

abbrev MemoryAlike : Range → Result Regions Exception → Result Regions Exception → Type 0
MemoryAlike r (Ok m) (Ok n) = Alike r m n
MemoryAlike r (Err x) (Err y) = x ≡ y
MemoryAlike r _ _ = ⊥

-- memory is written alike, or the same address refused
alike_write : (r : Range) (m m' : Regions) (o : Option WordAt) (v : ℕ) → WordClear r o → Alike r m m' → MemoryAlike r (write_word m o v) (write_word m' o v)
alike_write r m m' None v clear h = h
alike_write r m m' (Some a) v clear h =
    let P : Option ℕ → Type 0 = λ o. MemoryAlike r (write_word m (Some a) v) (allowed o (put_bytes m' a.at bytes)) in
    subst P (alike_writable r m m' a.at n clear h) (go (refused is_writable m a.at n))
  where
    n : ℕ
    n = byte_count a.width

    bytes : List ℕ
    bytes = little_bytes n v

    go : (o : Option ℕ) → MemoryAlike r (allowed o (put_bytes m a.at bytes)) (allowed o (put_bytes m' a.at bytes))
    go (Some bad) = refl
    go None =
        let e : length bytes ≡ n = length-bytes_low_first 0 n v in
        alike_puts r m m' a.at bytes (subst (IsClear r a.at) (sym e) clear) h

unchanged_alike : (r : Range) (regs : List ℕ) (flags : Flags) (m m' : Regions) (x : Option Exception) → Alike r m m' → CompletionAlike r (unchanged regs flags m x) (unchanged regs flags m' x)
unchanged_alike r regs flags m m' x h = record { regs = refl; flags = refl; mem = h; exception = refl }

-- the one form: equal registers and flags, and memories alike at the accesses that are attempted, have alike effects
pub carry_alike : (r : Range) (m m' : Regions) (e : Effect) (regs : List ℕ) (flags : Flags) → EffectClear r e m → Alike r m m' → CompletionAlike r (carry e regs flags m) (carry e regs flags m')
unfolding carry
carry_alike r m m' e regs flags clear h =
    rw (← alike_read r m m' e.accesses.first clear.first h) (at_first (read_word m e.accesses.first) clear.rest)
  where
    write : Option WordAt
    write = e.accesses.write

    at_write : (v : NewValues) (p q : Result Regions Exception) → MemoryAlike r p q → CompletionAlike r (after_write regs flags m v p) (after_write regs flags m' v q)
    at_write v (Ok n) (Ok n') s = record { regs = refl; flags = refl; mem = s; exception = refl }
    at_write v (Err x) (Err y) s = record { regs = refl; flags = refl; mem = h; exception = ap Some s }
    at_write v (Ok n) (Err y) s = absurd s
    at_write v (Err x) (Ok n) s = absurd s

    at_gives : (o : Result NewValues Stop) → GivesClear r write o → CompletionAlike r (after_gives write regs flags m o) (after_gives write regs flags m' o)
    at_gives (Err why) c = unchanged_alike r regs flags m m' (Some (Own why)) h
    at_gives (Ok v) c = at_write v (write_word m write v.word) (write_word m' write v.word) (alike_write r m m' write v.word c h)

    at_second : (a : ℕ) (o : Result ℕ Exception) → SecondClear r e a o → CompletionAlike r (after_second e a regs flags m o) (after_second e a regs flags m' o)
    at_second a (Err x) c = unchanged_alike r regs flags m m' (Some x) h
    at_second a (Ok b) c = at_gives (e.gives a b) c

    at_first : (o : Result ℕ Exception) → FirstClear r e m o → CompletionAlike r (after_first e regs flags m o) (after_first e regs flags m' o)
    at_first (Err x) c = unchanged_alike r regs flags m m' (Some x) h
    at_first (Ok a) c = rw (← alike_read r m m' e.accesses.second c.0 h) (at_second a (read_word m e.accesses.second) c.1)

abbrev Turns : Range → Repeat → ℕ → Type 0
Turns r p n =
    (regs : List ℕ) (flags : Flags) (m m' : Regions) → IterationsClear r p n regs flags m → Alike r m m'
    → CompletionAlike r (iterate p n regs flags m) (iterate p n regs flags m')

-- and so has each iteration of a repeat
pub iterate_alike : (r : Range) (p : Repeat) (n : ℕ) (regs : List ℕ) (flags : Flags) (m m' : Regions) → IterationsClear r p n regs flags m → Alike r m m'
    → CompletionAlike r (iterate p n regs flags m) (iterate p n regs flags m')
unfolding iterate IterationsClear
iterate_alike r p zero regs flags m m' clear h = unchanged_alike r regs flags m m' None h
iterate_alike r p (suc n) regs flags m m' clear h =
    let e : Effect = p.each regs flags in
    go (carry e regs flags m) (carry e regs flags m') (carry_alike r m m' e regs flags clear.0 h) (λ regs flags m m'. iterate_alike r p n regs flags m m') clear.1
  where
    more : (b : Bool) (c d : Completion) → CompletionAlike r c d → Turns r p n → FollowsClear b c (IterationsClear r p n)
        → CompletionAlike r (if_follows b c (iterate p n)) (if_follows b d (iterate p n))
    more false c d s ih k = s
    more true c d s ih k = rw (← s.regs, ← s.flags) (ih c.regs c.flags c.mem d.mem k s.mem)

    split : (o : Option Exception) (b : Bool) (c d : Completion) → CompletionAlike r c d → Turns r p n → ThenClear o b c (IterationsClear r p n)
        → CompletionAlike r (and_then o b c (iterate p n)) (and_then o b d (iterate p n))
    split (Some x) b c d s ih k = s
    split None b c d s ih k = more b c d s ih k

    go : (c d : Completion) → CompletionAlike r c d → Turns r p n → ThenClear c.exception (p.follows c.flags) c (IterationsClear r p n)
        → CompletionAlike r (and_then c.exception (p.follows c.flags) c (iterate p n)) (and_then d.exception (p.follows d.flags) d (iterate p n))
    go c d s ih k =
        let P : Option Exception → Bool → Type 0 = λ o b. CompletionAlike r (and_then c.exception (p.follows c.flags) c (iterate p n)) (and_then o b d (iterate p n)) in
        let here : P c.exception (p.follows c.flags) = split c.exception (p.follows c.flags) c d s ih k in
        subst (λ o. P o (p.follows d.flags)) s.exception (subst (λ f. P c.exception (p.follows f)) s.flags here)

-- so has a plain instruction
pub complete_alike : (r : Range) (p : PlainEffect) (regs : List ℕ) (flags : Flags) (m m' : Regions) → PlainClear r p regs flags m → Alike r m m' → CompletionAlike r (complete p regs flags m) (complete p regs flags m')
complete_alike r (Once e) regs flags m m' clear h = carry_alike r m m' e regs flags clear h
complete_alike r (Repeats p) regs flags m m' clear h = iterate_alike r p _ regs flags m m' clear h
