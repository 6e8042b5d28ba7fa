-- Registers stay sixteen words below 2^64, whatever plain instruction runs.
use Rattle.std.proofs.Common.{ℕ, zero, suc, Bool, true, false, if◌then◌else◌, List, [], ◌∷◌, get_or, set, Option, Some, None, Result, Ok, Err, ◌∙◌, arith, length-set}
use Rattle.std.specs.List.{AllByRecursion}
use Rattle.rz_num.specs.declared.width.Width.{Width}
use Rattle.rz_num.specs.declared.width.Width.TheVariants.{W8, W16, W32, W64}
use Rattle.rz_num.specs.Width.{low_bits}
use Rattle.rz_flags.specs.declared.Flags.{Flags}
use Rattle.rz_flags.specs.declared.WideOp.{WideOp}
use Rattle.rz_flags.specs.declared.WideOp.TheVariants.{Mul, Imul, Div, Idiv}
use Rattle.rz_flags.specs.Word.{flags_in}
use Rattle.rz_image.specs.Memory.{Regions}
use Rattle.rz_isa.specs.declared.instruction.Reg.{Reg}
use Rattle.rz_isa.specs.declared.instruction.Reg.TheVariants.{R, High}
use Rattle.rz_isa.specs.declared.instruction.Place.{Place}
use Rattle.rz_isa.specs.declared.instruction.Place.TheVariants as places
use Rattle.rz_isa.specs.declared.instruction.Rep.{Rep}
use Rattle.rz_isa.specs.declared.instruction.Rep.TheVariants.{No, WhileEqual, WhileNot}
use Rattle.rz_isa.specs.declared.instruction.Insn.{Insn}
use Rattle.rz_isa.specs.declared.instruction.Insn.TheVariants as insns
use Rattle.rz_exec.specs.Form.{NewValues, Stop, Exception, Effect, Completion, read_word, write_word, carry}
use Rattle.rz_exec.specs.Form.{after_write, after_gives, after_second, after_first, if_follows, and_then, iterate, Repeat, complete}
use Rattle.rz_exec.specs.Registers.{IsWord, AreRegs, merge, merge_high, put_reg, put_named}
use Rattle.rz_exec.specs.Operands.{put, value_of}
use Rattle.rz_exec.specs.Arithmetic.{is_written}
use Rattle.rz_exec.specs.Stack.{taken_flags}
use Rattle.rz_exec.specs.Products.{put_pair, quotient_values, divided, wide_values}
use Rattle.rz_exec.specs.Bits.{is_changed, is_found}
use Rattle.rz_exec.specs.Exchanges.{cmpxchg_values}
use Rattle.rz_exec.specs.Strings.{moved, counted, movs_effect, stos_effect, elements}
use Rattle.rz_exec.specs.Comparisons.{cmps_effect, scas_effect, comparisons}
use Rattle.rz_exec.specs.Effect.{plain_effect}

-- ---- words among words

set_words : (regs : List ℕ) (i v : ℕ) → AllByRecursion IsWord regs → IsWord v → AllByRecursion IsWord (set regs i v)
set_words [] i v h w = h
set_words (x ∷ xs) zero v h w = (w, h.1)
set_words (x ∷ xs) (suc i) v h w = (h.0, set_words xs i v h.1 w)

-- a word among words, or zero past them
pub get_word : (regs : List ℕ) (i : ℕ) → AllByRecursion IsWord regs → IsWord (get_or regs i 0)
get_word [] i h = omega arith
get_word (x ∷ xs) zero h = h.0
get_word (x ∷ xs) (suc i) h = get_word xs i h.1

-- a register set to a word
pub set_regs : (regs : List ℕ) (i v : ℕ) → AreRegs regs → IsWord v → AreRegs (set regs i v)
set_regs regs i v h w = record { sixteen = length-set regs i v ∙ h.sixteen; words = set_words regs i v h.words w }

-- ---- values put into registers

merge_word : (w : Width) (old v : ℕ) → IsWord old → IsWord (merge w old v)
merge_word W8 old v h = omega arith
merge_word W16 old v h = omega arith
merge_word W32 old v h = omega arith
merge_word W64 old v h = omega arith

merge_high_word : (old v : ℕ) → IsWord old → IsWord (merge_high old v)
merge_high_word old v h = omega arith

pub put_reg_regs : (w : Width) (regs : List ℕ) (n v : ℕ) → AreRegs regs → AreRegs (put_reg w regs n v)
put_reg_regs w regs n v h = set_regs regs n _ h (merge_word w _ v (get_word regs n h.words))

pub put_named_regs : (w : Width) (regs : List ℕ) (r : Reg) (v : ℕ) → AreRegs regs → AreRegs (put_named w regs r v)
put_named_regs w regs (R n) v h = put_reg_regs w regs n v h
put_named_regs w regs (High n) v h = set_regs regs n _ h (merge_high_word _ v (get_word regs n h.words))

put_regs : (w : Width) (regs : List ℕ) (p : Place) (v : ℕ) → AreRegs regs → AreRegs (put w regs p v)
put_regs w regs (places.Reg r) v h = put_named_regs w regs r v h
put_regs w regs (places.Mem m) v h = h
put_regs w regs (places.At a) v h = h

either_regs : (b : Bool) (new old : List ℕ) → AreRegs new → AreRegs old → AreRegs (if b then new else old)
either_regs true new old n o = n
either_regs false new old n o = o

pair_regs : (w : Width) (regs : List ℕ) (low high : ℕ) → AreRegs regs → AreRegs (put_pair w regs low high)
pair_regs W8 regs low high h = put_named_regs W8 _ (High 0) high (put_reg_regs W8 regs 0 low h)
pair_regs W16 regs low high h = put_reg_regs W16 _ 2 high (put_reg_regs W16 regs 0 low h)
pair_regs W32 regs low high h = put_reg_regs W32 _ 2 high (put_reg_regs W32 regs 0 low h)
pair_regs W64 regs low high h = put_reg_regs W64 _ 2 high (put_reg_regs W64 regs 0 low h)

moved_regs : (w : Width) (flags : Flags) (n : ℕ) (regs : List ℕ) → AreRegs regs → AreRegs (moved w flags n regs)
moved_regs w flags n regs h = put_reg_regs W64 regs n _ h

counted_regs : (rep : Bool) (regs : List ℕ) → AreRegs regs → AreRegs (counted rep regs)
counted_regs true regs h = put_reg_regs W64 regs 1 _ h
counted_regs false regs h = h

-- ---- effects

abbrev pub GivesRegs : Result NewValues Stop → Type 0
GivesRegs (Ok v) = AreRegs v.regs
GivesRegs (Err why) = Unit {0}

-- what an effect gives, whatever words it reads
abbrev pub KeepsRegs : Effect → Type 0
KeepsRegs e = (a b : ℕ) → GivesRegs (e.gives a b)

pub carry_regs : (e : Effect) (regs : List ℕ) (flags : Flags) (m : Regions) → AreRegs regs → KeepsRegs e → AreRegs (carry e regs flags m).regs
unfolding carry
carry_regs e regs flags m h keeps = at_first (read_word m e.accesses.first)
  where
    at_write : (v : NewValues) (o : Result Regions Exception) → AreRegs v.regs → AreRegs (after_write regs flags m v o).regs
    at_write v (Ok n) k = k
    at_write v (Err x) k = h

    at_gives : (o : Result NewValues Stop) → GivesRegs o → AreRegs (after_gives e.accesses.write regs flags m o).regs
    at_gives (Err why) k = h
    at_gives (Ok v) k = at_write v (write_word m e.accesses.write v.word) k

    at_second : (a : ℕ) (o : Result ℕ Exception) → AreRegs (after_second e a regs flags m o).regs
    at_second a (Err x) = h
    at_second a (Ok b) = at_gives (e.gives a b) (keeps a b)

    at_first : (o : Result ℕ Exception) → AreRegs (after_first e regs flags m o).regs
    at_first (Err x) = h
    at_first (Ok a) = at_second a (read_word m e.accesses.second)

abbrev EachKeepsRegs : Repeat → Type 0
EachKeepsRegs p = (regs : List ℕ) (flags : Flags) → AreRegs regs → KeepsRegs (p.each regs flags)

abbrev Turns : Repeat → ℕ → Type 0
Turns p n = (regs : List ℕ) (flags : Flags) (m : Regions) → AreRegs regs → AreRegs (iterate p n regs flags m).regs

iterate_regs : (p : Repeat) (n : ℕ) (regs : List ℕ) (flags : Flags) (m : Regions) → AreRegs regs → EachKeepsRegs p → AreRegs (iterate p n regs flags m).regs
unfolding iterate
iterate_regs p zero regs flags m h keeps = h
iterate_regs p (suc n) regs flags m h keeps =
    let e : Effect = p.each regs flags in
    go (carry e regs flags m) (carry_regs e regs flags m h (keeps regs flags h)) (λ regs flags m k. iterate_regs p n regs flags m k keeps)
  where
    more : (b : Bool) (c : Completion) → AreRegs c.regs → Turns p n → AreRegs (if_follows b c (iterate p n)).regs
    more false c k ih = k
    more true c k ih = ih c.regs c.flags c.mem k

    split : (o : Option Exception) (b : Bool) (c : Completion) → AreRegs c.regs → Turns p n → AreRegs (and_then o b c (iterate p n)).regs
    split (Some x) b c k ih = k
    split None b c k ih = more b c k ih

    go : (c : Completion) → AreRegs c.regs → Turns p n → AreRegs (and_then c.exception (p.follows c.flags) c (iterate p n)).regs
    go c k ih = split c.exception (p.follows c.flags) c k ih

-- ---- exchanges, products, flags words, strings

either_values_regs : (b : Bool) (new old : NewValues) → AreRegs new.regs → AreRegs old.regs → AreRegs (if b then new else old).regs
either_values_regs true new old n o = n
either_values_regs false new old n o = o

cmpxchg_regs : (w : Width) (dst : Place) (src : Reg) (regs : List ℕ) (flags : Flags) (old : ℕ) → AreRegs regs → AreRegs (cmpxchg_values w dst src regs flags old).regs
cmpxchg_regs w dst src regs flags old h = either_values_regs _ _ _ (put_regs w regs dst _ h) (put_reg_regs w regs 0 _ h)

quotient_regs : (w : Width) (regs : List ℕ) (flags : Flags) (o : Option (ℕ × ℕ)) → AreRegs regs → GivesRegs (quotient_values w regs flags o)
quotient_regs w regs flags None h = tt
quotient_regs w regs flags (Some d) h = pair_regs w regs d.0 d.1 h

wide_regs : (op : WideOp) (w : Width) (regs : List ℕ) (v : ℕ) (flags : Flags) → AreRegs regs → GivesRegs (wide_values op w regs v flags)
wide_regs Mul w regs v flags h = pair_regs w regs _ _ h
wide_regs Imul w regs v flags h = pair_regs w regs _ _ h
wide_regs Div w regs v flags h = quotient_regs w regs flags (divided false w regs v) h
wide_regs Idiv w regs v flags h = quotient_regs w regs flags (divided true w regs v) h

taken_regs : (regs : List ℕ) (o : Option Flags) → AreRegs regs → GivesRegs (taken_flags regs o)
taken_regs regs None h = tt
taken_regs regs (Some flags) h = h

movs_regs : (w : Width) (rep : Bool) (regs : List ℕ) (flags : Flags) → AreRegs regs → KeepsRegs (movs_effect w rep regs flags)
movs_regs w rep regs flags h a b = counted_regs rep _ (moved_regs w flags 7 _ (moved_regs w flags 6 regs h))

stos_regs : (w : Width) (rep : Bool) (regs : List ℕ) (flags : Flags) → AreRegs regs → KeepsRegs (stos_effect w rep regs flags)
stos_regs w rep regs flags h a b = counted_regs rep _ (moved_regs w flags 7 regs h)

elements_regs : (each : Bool → List ℕ → Flags → Effect) → ((rep : Bool) (regs : List ℕ) (flags : Flags) → AreRegs regs → KeepsRegs (each rep regs flags))
    → (rep : Bool) (regs : List ℕ) (flags : Flags) (m : Regions) → AreRegs regs → AreRegs (complete (elements each rep regs flags) regs flags m).regs
elements_regs each keeps false regs flags m h = carry_regs (each false regs flags) regs flags m h (keeps false regs flags h)
elements_regs each keeps true regs flags m h = iterate_regs _ _ regs flags m h (λ regs flags k. keeps true regs flags k)

cmps_regs : (w : Width) (rep : Bool) (regs : List ℕ) (flags : Flags) → AreRegs regs → KeepsRegs (cmps_effect w rep regs flags)
cmps_regs w rep regs flags h a b = counted_regs rep _ (moved_regs w flags 7 _ (moved_regs w flags 6 regs h))

scas_regs : (w : Width) (rep : Bool) (regs : List ℕ) (flags : Flags) → AreRegs regs → KeepsRegs (scas_effect w rep regs flags)
scas_regs w rep regs flags h a b = counted_regs rep _ (moved_regs w flags 7 regs h)

comparisons_regs : (each : Bool → List ℕ → Flags → Effect) → ((rep : Bool) (regs : List ℕ) (flags : Flags) → AreRegs regs → KeepsRegs (each rep regs flags))
    → (rep : Rep) (regs : List ℕ) (flags : Flags) (m : Regions) → AreRegs regs → AreRegs (complete (comparisons each rep regs flags) regs flags m).regs
comparisons_regs each keeps No regs flags m h = carry_regs (each false regs flags) regs flags m h (keeps false regs flags h)
comparisons_regs each keeps WhileEqual regs flags m h = iterate_regs _ _ regs flags m h (λ regs flags k. keeps true regs flags k)
comparisons_regs each keeps WhileNot regs flags m h = iterate_regs _ _ regs flags m h (λ regs flags k. keeps true regs flags k)

-- ---- a plain instruction

pub complete_regs : (x : Insn) (regs : List ℕ) (flags : Flags) (m : Regions) → AreRegs regs → AreRegs (complete (plain_effect x regs flags) regs flags m).regs
unfolding plain_effect
complete_regs (insns.Arith op w dst src) regs flags m h = carry_regs _ regs flags m h (λ a b. either_regs (is_written op) _ regs (put_regs w regs dst _ h) h)
complete_regs (insns.Test w dst src) regs flags m h = carry_regs _ regs flags m h (λ a b. h)
complete_regs (insns.Mov w dst src) regs flags m h = carry_regs _ regs flags m h (λ a b. put_regs w regs dst _ h)
complete_regs (insns.Lea w dst src) regs flags m h = carry_regs _ regs flags m h (λ a b. put_reg_regs w regs dst _ h)
complete_regs (insns.Extend signed to from dst src) regs flags m h = carry_regs _ regs flags m h (λ a b. put_reg_regs to regs dst _ h)
complete_regs (insns.Push src) regs flags m h = carry_regs _ regs flags m h (λ a b. put_reg_regs W64 regs 4 _ h)
complete_regs (insns.Pop dst) regs flags m h = carry_regs _ regs flags m h (λ a b. put_regs W64 _ dst a (put_reg_regs W64 regs 4 _ h))
complete_regs insns.Leave regs flags m h = carry_regs _ regs flags m h (λ a b. put_reg_regs W64 _ 5 a (put_reg_regs W64 regs 4 _ h))
complete_regs insns.PushFlags regs flags m h = carry_regs _ regs flags m h (λ a b. put_reg_regs W64 regs 4 _ h)
complete_regs insns.PopFlags regs flags m h = carry_regs _ regs flags m h (λ a b. taken_regs _ (flags_in a) (put_reg_regs W64 regs 4 _ h))
complete_regs (insns.Unary op w dst) regs flags m h = carry_regs _ regs flags m h (λ a b. put_regs w regs dst _ h)
complete_regs (insns.Wide op w src) regs flags m h = carry_regs _ regs flags m h (λ a b. wide_regs op w regs (value_of w regs src a) flags h)
complete_regs (insns.Imul2 w dst src) regs flags m h = carry_regs _ regs flags m h (λ a b. put_reg_regs w regs dst _ h)
complete_regs (insns.Imul3 w dst src imm) regs flags m h = carry_regs _ regs flags m h (λ a b. put_reg_regs w regs dst _ h)
complete_regs (insns.Shift op w dst count) regs flags m h = carry_regs _ regs flags m h (λ a b. put_regs w regs dst _ h)
complete_regs (insns.DoubleShift left w dst src count) regs flags m h = carry_regs _ regs flags m h (λ a b. put_regs w regs dst _ h)
complete_regs (insns.Cmov cond w dst src) regs flags m h = carry_regs _ regs flags m h (λ a b. put_reg_regs w regs dst _ h)
complete_regs (insns.Set cond dst) regs flags m h = carry_regs _ regs flags m h (λ a b. put_regs W8 regs dst _ h)
complete_regs (insns.Convert w) regs flags m h = carry_regs _ regs flags m h (λ a b. put_reg_regs w regs 0 _ h)
complete_regs (insns.SignFill w) regs flags m h = carry_regs _ regs flags m h (λ a b. put_reg_regs w regs 2 _ h)
complete_regs (insns.Xchg w dst src) regs flags m h = carry_regs _ regs flags m h (λ a b. put_named_regs w _ src _ (put_regs w regs dst _ h))
complete_regs (insns.Bswap w reg) regs flags m h = carry_regs _ regs flags m h (λ a b. put_reg_regs w regs reg _ h)
complete_regs (insns.BitTest op w dst index) regs flags m h = carry_regs _ regs flags m h (λ a b. either_regs (is_changed op) _ regs (put_regs w regs dst _ h) h)
complete_regs (insns.Scan op w dst src) regs flags m h = carry_regs _ regs flags m h (λ a b. either_regs (is_found op (low_bits w (value_of w regs src a))) _ regs (put_reg_regs w regs dst _ h) h)
complete_regs (insns.Movs w rep) regs flags m h = elements_regs (movs_effect w) (movs_regs w) rep regs flags m h
complete_regs (insns.Stos w rep) regs flags m h = elements_regs (stos_effect w) (stos_regs w) rep regs flags m h
complete_regs (insns.Flag op) regs flags m h = carry_regs _ regs flags m h (λ a b. h)
complete_regs (insns.CmpXchg w dst src) regs flags m h = carry_regs _ regs flags m h (λ a b. cmpxchg_regs w dst src regs flags (value_of w regs dst a) h)
complete_regs (insns.Xadd w dst src) regs flags m h = carry_regs _ regs flags m h (λ a b. put_regs w _ dst _ (put_named_regs w regs src _ h))
complete_regs (insns.Cmps w rep) regs flags m h = comparisons_regs (cmps_effect w) (cmps_regs w) rep regs flags m h
complete_regs (insns.Scas w rep) regs flags m h = comparisons_regs (scas_effect w) (scas_regs w) rep regs flags m h
complete_regs insns.Nop regs flags m h = carry_regs _ regs flags m h (λ a b. h)
complete_regs (insns.Jcc c t) regs flags m h = carry_regs _ regs flags m h (λ a b. h)
complete_regs (insns.Jrcxz t) regs flags m h = carry_regs _ regs flags m h (λ a b. h)
complete_regs (insns.Jmp t) regs flags m h = carry_regs _ regs flags m h (λ a b. h)
complete_regs (insns.Call t) regs flags m h = carry_regs _ regs flags m h (λ a b. h)
complete_regs (insns.CallInd s) regs flags m h = carry_regs _ regs flags m h (λ a b. h)
complete_regs (insns.JmpInd s) regs flags m h = carry_regs _ regs flags m h (λ a b. h)
complete_regs (insns.Ret n) regs flags m h = carry_regs _ regs flags m h (λ a b. h)
complete_regs insns.Syscall regs flags m h = carry_regs _ regs flags m h (λ a b. h)
complete_regs insns.Ud2 regs flags m h = carry_regs _ regs flags m h (λ a b. h)
complete_regs insns.Hlt regs flags m h = carry_regs _ regs flags m h (λ a b. h)
complete_regs insns.Int3 regs flags m h = carry_regs _ regs flags m h (λ a b. h)
