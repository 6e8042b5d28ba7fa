-- Which accesses a run makes: where it touches no byte of a range.
use Rattle.std.specs.Prelude.{◌≡◌, ℕ, ◌+◌, ◌<◌, None}
use Rattle.rz_isa.specs.declared.instruction.Insn.{Insn}
use Rattle.rz_isa.specs.declared.decoding.Decoded.{Decoded}
use Rattle.rz_isa.specs.declared.decoding.Decoded.TheVariants as decoded
use Rattle.rz_machine.specs.declared.machine.Machine.{Machine}
use Rattle.rz_image.specs.Memory.{Range, wrap}
use Rattle.rz_isa.specs.Nodes.{Decoder}
use Rattle.rz_machine.specs.declared.way.Way.{Way}
use Rattle.rz_machine.specs.Way.{way_of}
use Rattle.rz_exec.specs.Attempts.{EffectClear, PlainClear}
use Rattle.rz_machine.specs.Action.{Action, Passes, Leads, Asks, Ends, action_by}
use Rattle.rz_sys.specs.Answer.{call_in, cut_count, rsi, rdx, CallClear}
use Rattle.rz_machine.specs.State.{decoded_at, after}

-- the accesses that an action attempts have no byte in the range
abbrev pub ActionClear : Range → Action → Machine → Type 0
ActionClear r (Passes p) s = PlainClear r p s.cpu.regs s.cpu.flags s.mem
ActionClear r (Leads e to) s = EffectClear r e s.mem
ActionClear r Asks s = CallClear r (call_in s.cpu.regs) (rsi s.cpu.regs) (cut_count (rdx s.cpu.regs))
ActionClear r (Ends why) s = Unit {0}

abbrev pub WayClear : Range → Way → Insn → ℕ → Machine → Type 0
WayClear r w x next s = ActionClear r (action_by w x s.cpu.rip next s.cpu.regs s.cpu.flags) s

-- those of the instruction; fetching is no access
abbrev pub InsnClear : Range → Decoded → Machine → Type 0
InsnClear r (decoded.Insn x len) s = WayClear r (way_of x) x (wrap (s.cpu.rip + len)) s
InsnClear r decoded.Short s = Unit {0}
InsnClear r decoded.Unknown s = Unit {0}

-- the next step touches no byte of the range
unfoldable pub StepClear : Range → Decoder → Machine → Type 0
StepClear r dec s = s.end ≡ None → InsnClear r (decoded_at dec s) s

-- none of the first n steps touches a byte of the range
abbrev pub RunClear : Range → Decoder → Machine → ℕ → Type 0
RunClear r dec s n = (j : ℕ) → j < n → StepClear r dec (after dec j s)
