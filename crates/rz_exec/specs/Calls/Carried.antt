-- What a group's function leaves, and the effect that it carries out.
use Rattle.std.specs.Prelude.{ℕ, ◌≡◌, ◌*◌, ◌<◌, List, Option, Some, None, Result, Ok, Err}
use Rattle.std.specs.List.{AllByRecursion}
use Rattle.rz_num.specs.declared.width.Width.{Width}
use Rattle.rz_num.specs.declared.width.Width.TheVariants.{W8, W16, W32, W64}
use Rattle.rz_num.specs.Width.{low_bits}
use Rattle.rz_flags.specs.declared.Flags.{Flags}
use Rattle.rz_image.specs.Memory.{Regions}
use Rattle.rz_exec.specs.declared.state.Cpu.{Cpu}
use Rattle.rz_exec.specs.declared.state.Fault.{Fault}
use Rattle.rz_exec.specs.Form.{Effect, Completion, carry, Repeat, Repeats, complete}
use Rattle.rz_exec.specs.Strings.{each_time}
use Rattle.rz_exec.specs.Fault.{completion}

abbrev pub fault_in : {A : Type 0} → Result A Fault → Option Fault
fault_in (Ok value) = None
fault_in (Err fault) = Some fault

-- registers, flags and memory as they stand, and the fault, if there was one
abbrev pub ended : {A : Type 0} → Cpu → Regions → Result A Fault → Completion
ended cpu m result = completion cpu m (fault_in result)

-- an effect carried out from a state
abbrev pub carried : (List ℕ → Flags → Effect) → Cpu → Regions → Completion
carried effect cpu m = carry (effect cpu.regs cpu.flags) cpu.regs cpu.flags m

-- a repeat carried out from a state
abbrev pub repeated_by : Repeat → Cpu → Regions → Completion
repeated_by r cpu m = complete (Repeats r) cpu.regs cpu.flags m

-- an effect repeated as often as RCX says
abbrev pub repeated : (List ℕ → Flags → Effect) → Cpu → Regions → Completion
repeated each cpu m = repeated_by (each_time each) cpu m

-- bytes are below 256
abbrev pub AreBytes : List ℕ → Type 0
AreBytes bs = AllByRecursion (λ b. b < 256) bs

-- what is left to do stands for the whole repeat
abbrev pub Remains : (List ℕ → Flags → Effect) → Cpu → Regions → Cpu → Regions → Type 0
Remains each old m new m' = repeated each new m' ≡ repeated each old m

-- eight bytes of copies of the low bits of a number
abbrev pub pattern_of : Width → ℕ → ℕ
pattern_of W8 v = low_bits W8 v * 0x0101_0101_0101_0101
pattern_of W16 v = low_bits W16 v * 0x0001_0001_0001_0001
pattern_of W32 v = low_bits W32 v * 0x1_0000_0001
pattern_of W64 v = low_bits W64 v
