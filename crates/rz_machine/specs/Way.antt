-- How each instruction goes on, as far as it says itself (Intel SDM, volume 1, sections 6.4 and 7.3.8).
use Rattle.rz_isa.specs.declared.instruction.Insn.{Insn}
use Rattle.rz_isa.specs.declared.instruction.Insn.TheVariants as insn
use Rattle.rz_machine.specs.declared.way.Transfer.TheVariants as transfer
use Rattle.rz_machine.specs.declared.way.Halt.TheVariants as halt
use Rattle.rz_machine.specs.declared.way.Way.{Way}
use Rattle.rz_machine.specs.declared.way.Way.TheVariants.{Onward, Jumps, Branches, BranchesOnRcx, Transfers, Calls, Halts}

-- all others are plain
abbrev pub way_of : Insn → Way
way_of (insn.Jcc cond target) = Branches cond target
way_of (insn.Jrcxz target) = BranchesOnRcx target
way_of (insn.Jmp target) = Jumps target
way_of (insn.Call target) = Transfers (transfer.Call target)
way_of (insn.CallInd src) = Transfers (transfer.CallInd src)
way_of (insn.JmpInd src) = Transfers (transfer.JmpInd src)
way_of (insn.Ret pop) = Transfers (transfer.Ret pop)
way_of insn.Syscall = Calls
way_of insn.Ud2 = Halts halt.Ud2
way_of insn.Hlt = Halts halt.Hlt
way_of insn.Int3 = Halts halt.Int3
way_of x = Onward
