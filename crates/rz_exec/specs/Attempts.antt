-- The accesses that an effect attempts, allowed or not, and that none of them has a byte in a range.
use Rattle.std.specs.Prelude.{ℕ, zero, suc, Bool, true, false, List, get_or, Option, Some, None, Result, Ok, Err}
use Rattle.rz_flags.specs.declared.Flags.{Flags}
use Rattle.rz_image.specs.Memory.{Regions, Range, IsClear}
use Rattle.rz_image.specs.Word.{byte_count}
use Rattle.rz_exec.specs.Form.{WordAt, NewValues, Stop, Exception, Effect, Completion, read_word, carry}
use Rattle.rz_exec.specs.Form.{Repeat, PlainEffect, Once, Repeats}

abbrev pub WordClear : Range → Option WordAt → Type 0
WordClear r None = Unit {0}
WordClear r (Some a) = IsClear r a.at (byte_count a.width)

-- the write, which is attempted where the instruction doesn't stop
abbrev pub GivesClear : Range → Option WordAt → Result NewValues Stop → Type 0
GivesClear r w (Err why) = Unit {0}
GivesClear r w (Ok v) = WordClear r w

abbrev pub SecondClear : Range → Effect → ℕ → Result ℕ Exception → Type 0
SecondClear r e a (Err x) = Unit {0}
SecondClear r e a (Ok b) = GivesClear r e.accesses.write (e.gives a b)

abbrev pub FirstClear : Range → Effect → Regions → Result ℕ Exception → Type 0
FirstClear r e m (Err x) = Unit {0}
FirstClear r e m (Ok a) = WordClear r e.accesses.second × SecondClear r e a (read_word m e.accesses.second)

-- of one effect: up to the first access that is refused
pub record EffectClear (r : Range) (e : Effect) (m : Regions) : Type 0 where
  pub first : WordClear r e.accesses.first
  pub rest : FirstClear r e m (read_word m e.accesses.first)

abbrev pub FollowsClear : Bool → Completion → (List ℕ → Flags → Regions → Type 0) → Type 0
FollowsClear true c rest = rest c.regs c.flags c.mem
FollowsClear false c rest = Unit {0}

abbrev pub ThenClear : Option Exception → Bool → Completion → (List ℕ → Flags → Regions → Type 0) → Type 0
ThenClear None more c rest = FollowsClear more c rest
ThenClear (Some x) more c rest = Unit {0}

-- of each iteration that is begun
unfoldable pub IterationsClear : Range → Repeat → ℕ → List ℕ → Flags → Regions → Type 0
IterationsClear r p zero regs flags m = Unit {0}
IterationsClear r p (suc n) regs flags m =
    let c = carry (p.each regs flags) regs flags m in
    EffectClear r (p.each regs flags) m × ThenClear c.exception (p.follows c.flags) c (IterationsClear r p n)

-- of a plain instruction
abbrev pub PlainClear : Range → PlainEffect → List ℕ → Flags → Regions → Type 0
PlainClear r (Once e) regs flags m = EffectClear r e m
PlainClear r (Repeats p) regs flags m = IterationsClear r p (get_or regs 1 0) regs flags m
