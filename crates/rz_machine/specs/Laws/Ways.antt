-- Ways, kinds and targets of instructions.
use Rattle.std.proofs.Common.{◌≡◌, ℕ, Option, Some, None, refl, ap, ◌∙◌}
use Rattle.rz_isa.specs.declared.instruction.Insn.{Insn}
use Rattle.rz_isa.specs.declared.instruction.Insn.TheVariants as insn
use Rattle.rz_isa.specs.declared.instruction.Kind.{Kind}
use Rattle.rz_isa.specs.declared.instruction.Kind.TheVariants as kind
use Rattle.rz_isa.specs.Insn.{kind_of, target_of}
use Rattle.rz_machine.specs.declared.way.Transfer.{Transfer}
use Rattle.rz_machine.specs.declared.way.Transfer.TheVariants as transfer
use Rattle.rz_machine.specs.declared.way.Way.{Way}
use Rattle.rz_machine.specs.declared.way.Way.TheVariants.{Onward, Jumps, Branches, BranchesOnRcx, Transfers, Calls, Halts}
use Rattle.rz_machine.specs.Way.{way_of}

abbrev transfer_kind : Transfer → Kind
transfer_kind (transfer.Call target) = kind.Call
transfer_kind (transfer.CallInd src) = kind.CallInd
transfer_kind (transfer.JmpInd src) = kind.JmpInd
transfer_kind (transfer.Ret pop) = kind.Ret

abbrev pub kind_in : Way → Kind
kind_in Onward = kind.Plain
kind_in (Jumps target) = kind.Jmp
kind_in (Branches cond target) = kind.Jcc
kind_in (BranchesOnRcx target) = kind.Jrcxz
kind_in (Transfers t) = transfer_kind t
kind_in Calls = kind.Syscall
kind_in (Halts how) = kind.Halt

abbrev transfer_target : Transfer → Option ℕ
transfer_target (transfer.Call target) = Some target
transfer_target _ = None

abbrev pub target_in : Way → Option ℕ
target_in (Jumps target) = Some target
target_in (Branches cond target) = Some target
target_in (BranchesOnRcx target) = Some target
target_in (Transfers t) = transfer_target t
target_in _ = None

pub kind_by_way : (x : Insn) → kind_of x ≡ kind_in (way_of x)
kind_by_way insn.Syscall = refl
kind_by_way x = refl

pub target_by_way : (x : Insn) → target_of x ≡ target_in (way_of x)
target_by_way insn.Syscall = refl
target_by_way x = refl

-- what goes on to the next address is plain
pub plain_kind : (x : Insn) → way_of x ≡ Onward → kind_of x ≡ kind.Plain
plain_kind x e = kind_by_way x ∙ ap kind_in e

-- there is one instruction that makes a system call
pub system_call : (x : Insn) → way_of x ≡ Calls → x ≡ insn.Syscall
system_call insn.Syscall e = refl
system_call x e = cc
