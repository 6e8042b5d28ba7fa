-- States that differ from one in registers, flags, RIP and memory, or in a fault; addresses that are absolute.
use Rattle.std.proofs.Common.{◌≡◌, ℕ, ◌^◌, ◌<◌, List, Some, arith}
use Rattle.rz_flags.specs.declared.Flags.{Flags}
use Rattle.rz_isa.specs.Items.{absolute}
use Rattle.rz_image.specs.Memory.{Regions}
use Rattle.rz_exec.specs.Form.{Exception}
use Rattle.rz_exec.specs.Operands.{address}
use Rattle.rz_machine.specs.declared.machine.Machine.{Machine}
use Rattle.rz_machine.specs.State.{end_of}

-- a state with other registers, flags, RIP and memory
abbrev pub now : Machine → List ℕ → Flags → ℕ → Regions → Machine
now t regs flags p m = record t { cpu = record { regs = regs; rip = p; flags = flags }; mem = m }

abbrev pub fault_at : Exception → Machine → Machine
fault_at x t = record t { end = Some (end_of x) }

pub absolute_is : (regs : List ℕ) (a : ℕ) → a < 2 ^ 31 → address regs (absolute a) ≡ a
absolute_is regs a h = omega arith
