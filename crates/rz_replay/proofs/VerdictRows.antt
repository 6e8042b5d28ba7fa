-- Worked rows: what two runs came to, and how far a new file is run.
use Rattle.std.proofs.Common.{◌≡◌, true, false, [], ◌∷◌, length, replicate, Some, None, refl}
use Rattle.rz_image.specs.Perm.{read_execute, read_write}
use Rattle.rz_elf.specs.declared.elf.Load.{Load}
use Rattle.rz_elf.specs.Loaded.{ElfFile}
use Rattle.rz_isa.specs.Nodes.{Decoder}
use Rattle.rz_isa.specs.declared.decoding.Decoded.TheVariants as decoded
use Rattle.rz_isa.specs.declared.instruction.Insn.TheVariants.{Syscall}
use Rattle.rz_sys.specs.Answer.{answer}
use Rattle.rz_sys.specs.declared.event.Event.{Event}
use Rattle.rz_machine.specs.declared.machine.End.TheVariants as end
use Rattle.rz_machine.specs.declared.machine.Machine.{Machine}
use Rattle.rz_machine.specs.Start.{no_flags}
use Rattle.rz_machine.specs.State.{after, step}
use Rattle.rz_machine.specs.Until.{steps_until}
use Rattle.rz_replay.specs.declared.compare.Ran.{Ran}
use Rattle.rz_replay.specs.declared.compare.Verdict.TheVariants as verdict
use Rattle.rz_elf.specs.Executable.{executable_size}
use Rattle.rz_replay.specs.Verdict.{same_end, first_difference, verdict_at, until_decided}

-- two system calls: a write of two bytes, and an exit
written : Event
written = record { number = 1; args = 1 ∷ 0x401022 ∷ 2 ∷ []; answer = 2; bytes = 0x68 ∷ 0x69 ∷ [] }

exit : Event
exit = record { number = 60; args = 7 ∷ 0 ∷ 0 ∷ []; answer = 0; bytes = [] }

-- the same write of other bytes
other : Event
other = record written { bytes = 0x68 ∷ 0x6a ∷ [] }

-- ---- places, from 1

at-first : first_difference (written ∷ exit ∷ []) (other ∷ exit ∷ []) ≡ 1
unfolding written other exit
at-first = refl

at-second : first_difference (written ∷ exit ∷ []) (written ∷ other ∷ []) ≡ 2
unfolding written other exit
at-second = refl

past-shorter : first_difference (written ∷ []) (written ∷ exit ∷ []) ≡ 2
unfolding written exit
past-shorter = refl

past-both : first_difference (written ∷ exit ∷ []) (written ∷ exit ∷ []) ≡ 3
unfolding written exit
past-both = refl

-- ---- ends

elsewhere : same_end (end.Illegal 0x401000) (end.Illegal 0x3ff000) ≡ true
elsewhere = refl

other-address : same_end (end.Memory 0x601000) (end.Memory 0x601008) ≡ false
other-address = refl

-- ---- verdicts: where the old run ended with both calls, or runs on

ended : Ran
ended = record { events = written ∷ exit ∷ []; end = Some (end.Exit 7) }

running : Ran
running = record { events = written ∷ exit ∷ []; end = None }

same : verdict_at None ended ended ≡ verdict.Same 2
unfolding ended written exit
same = refl

-- one call fewer, and an end
shorter : verdict_at None ended (record { events = written ∷ []; end = Some end.Halted }) ≡ verdict.Differ 2
unfolding ended written exit
shorter = refl

-- the same calls, and another end, or none
other-end : verdict_at None ended (record { events = written ∷ exit ∷ []; end = Some (end.Exit 8) }) ≡ verdict.Differ 3
unfolding ended written exit
other-end = refl

no-end : verdict_at None ended running ≡ verdict.Differ 3
unfolding ended running written exit
no-end = refl

-- both run on: a prefix, one call more, and an end after a prefix
behind : verdict_at None running (record { events = written ∷ []; end = None }) ≡ verdict.Same 2
unfolding running written exit
behind = refl

ahead : verdict_at None running (record { events = written ∷ exit ∷ other ∷ []; end = None }) ≡ verdict.Differ 3
unfolding running written exit
ahead = refl

ended-behind : verdict_at None running (record { events = written ∷ []; end = Some end.Halted }) ≡ verdict.Differ 2
unfolding running written exit
ended-behind = refl

-- a stub outranks a difference
at-stub : verdict_at (Some 0x401011) ended (record { events = other ∷ []; end = Some (end.Illegal 0x3ff018) }) ≡ verdict.Stub 0x401011
at-stub = refl

-- ---- how far

-- a machine that makes a call in each step
calls : Decoder
calls bytes at = decoded.Insn Syscall 2

-- and one that finds no instruction
lost : Decoder
lost bytes at = decoded.Unknown

first : Machine
first =
    record {
      cpu = record { regs = replicate 16 59; rip = 0x401000; flags = no_flags };
      mem = [];
      world = record { stdin = []; replies = []; events = []; first_break = 0; brk = 0; heap = 0 };
      end = None;
    }

-- it is stopped at the third call, where two were made; or by its steps; or at its end
more-calls : length (until_decided calls 2 10 first).world.events ≡ 3
unfolding until_decided steps_until calls first after step answer
more-calls = refl

no-more-steps : length (until_decided calls 2 2 first).world.events ≡ 2
unfolding until_decided steps_until calls first after step answer
no-more-steps = refl

at-end : (until_decided lost 2 10 first).end ≡ Some (end.Unknown 0x401000)
unfolding until_decided steps_until lost first after step
at-end = refl

-- 65 steps are waited for in place of one, where the code of a new file has one byte
load : Load
load = record { at = 0x401000; size = 1; file_at = 0; file_size = 1; align = 1; perm = read_execute; index = 0 }

file : ElfFile
file =
    record {
      bytes = 0xf4 ∷ [];
      loads = load ∷ record load { at = 0x402000; size = 4096; perm = read_write } ∷ [];
      entry = 0x401000;
      first_break = 0x403000;
    }

one-byte : executable_size file ≡ 1
unfolding file load
one-byte = refl
