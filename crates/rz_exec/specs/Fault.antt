-- Faults as the form's exceptions; what a call leaves, and what it has to leave.
use Rattle.std.specs.Prelude.{Option, Some, None}
use Rattle.rz_image.specs.Memory.{Regions}
use Rattle.rz_isa.specs.declared.instruction.Insn.{Insn}
use Rattle.rz_exec.specs.declared.state.Cpu.{Cpu}
use Rattle.rz_exec.specs.declared.state.Fault.{Fault}
use Rattle.rz_exec.specs.declared.state.Fault.TheVariants as faults
use Rattle.rz_exec.specs.Form.{Exception, Memory, Own, Divide, Popped, Completion, complete}
use Rattle.rz_exec.specs.Effect.{plain_effect}

abbrev pub exception_of : Fault → Exception
exception_of (faults.Memory at) = Memory at
exception_of faults.Divide = Own Divide
exception_of faults.Popped = Own Popped

abbrev pub exception_in : Option Fault → Option Exception
exception_in None = None
exception_in (Some fault) = Some (exception_of fault)

-- registers, flags and memory as they stand, and the fault, if there was one
abbrev pub completion : Cpu → Regions → Option Fault → Completion
completion cpu m fault = record { regs = cpu.regs; flags = cpu.flags; mem = m; exception = exception_in fault }

-- what a plain instruction has to leave
abbrev pub plain_completion : Insn → Cpu → Regions → Completion
plain_completion x cpu m = complete (plain_effect x cpu.regs cpu.flags) cpu.regs cpu.flags m
