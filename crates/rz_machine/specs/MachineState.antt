-- The state of a run.
use Rattle.std.specs.Prelude.{Option}
use Rattle.rz_image.specs.Memory.{Regions}
use Rattle.rz_sys.specs.declared.world.World.{World}
use Rattle.rz_exec.specs.declared.state.Cpu.{Cpu}
use Rattle.rz_machine.specs.declared.machine.End.{End}

-- registers, memory, the outside, and an end or none
pub record MachineState : Type 0 where
  pub cpu : Cpu
  pub mem : Regions
  pub world : World
  pub end : Option End
