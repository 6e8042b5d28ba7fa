-- The state that a system call leaves.
use Rattle.std.proofs.Common.{◌≡◌, ℕ, Option, Some, None, ap₂}
use Rattle.rz_machine.specs.declared.machine.End.TheVariants as end
use Rattle.rz_machine.specs.declared.machine.Machine.{Machine}
use Rattle.rz_sys.specs.Answer.{Called, answer_put, regs_left, world_after}
use Rattle.rz_machine.specs.State.{after_exit, after_call}

-- the state that a call leaves which ends the run
pub call_ends : (c : Called) (next : ℕ) (s : Machine) (status : ℕ) → c.exit ≡ Some status → c.mem ≡ s.mem
    → record { cpu = record { regs = regs_left s.cpu.regs c; rip = s.cpu.rip; flags = s.cpu.flags }; mem = c.mem; world = world_after s.cpu.regs s.world c; end = Some (end.Exit status) } ≡ after_call c next s
call_ends c next s status exit mem = go c.exit exit
  where
    go : (e : Option ℕ) → e ≡ Some status
        → record { cpu = record { regs = answer_put e s.cpu.regs c.answer; rip = s.cpu.rip; flags = s.cpu.flags }; mem = c.mem; world = world_after s.cpu.regs s.world c; end = Some (end.Exit status) } ≡ after_exit e c next s
    go (Some t) e =
        let same : status ≡ t = cc in
        ap₂ (λ m x. let t : Machine = record s { mem = m; world = world_after s.cpu.regs s.world c; end = Some (end.Exit x) } in t) mem same
    go None e = cc
