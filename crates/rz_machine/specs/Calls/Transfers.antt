-- What the calls that carry out transfers leave and answer.
use Rattle.std.specs.Prelude.{ℕ, Option, Some, None, Result, Ok, Err}
use Rattle.rz_image.specs.Memory.{Regions}
use Rattle.rz_exec.specs.declared.state.Cpu.{Cpu}
use Rattle.rz_exec.specs.declared.state.Fault.{Fault}
use Rattle.rz_exec.specs.Form.{Completion, carry}
use Rattle.rz_machine.specs.declared.way.Transfer.{Transfer}
use Rattle.rz_machine.specs.Action.{transfer_effect}

-- what a transfer before `next` leaves of a state
abbrev pub carried : Transfer → ℕ → Cpu → Regions → Completion
carried t next cpu m = carry (transfer_effect t next cpu.regs cpu.flags) cpu.regs cpu.flags m

abbrev pub fault_in : {A : Type 0} → Result A Fault → Option Fault
fault_in (Ok value) = None
fault_in (Err fault) = Some fault
