-- The machine's step, and runs of it. A state is a `Machine`: registers, memory, the outside, and an end or none.
use Rattle.std.specs.Prelude.{ℕ, zero, suc, ◌+◌, List, set, Option, Some, None}
use Rattle.rz_flags.specs.declared.Flags.{Flags}
use Rattle.rz_flags.specs.Word.{flags_word}
use Rattle.rz_isa.specs.declared.instruction.Insn.{Insn}
use Rattle.rz_isa.specs.declared.decoding.Decoded.{Decoded}
use Rattle.rz_isa.specs.declared.decoding.Decoded.TheVariants as decoded
use Rattle.rz_machine.specs.declared.machine.End.{End}
use Rattle.rz_machine.specs.declared.machine.End.TheVariants as end
use Rattle.rz_machine.specs.declared.machine.Machine.{Machine}
use Rattle.rz_image.specs.Memory.{fetch, wrap}
use Rattle.rz_isa.specs.Nodes.{Decoder}
use Rattle.rz_machine.specs.declared.way.Way.{Way}
use Rattle.rz_machine.specs.Way.{way_of}
use Rattle.rz_exec.specs.Form.{Divide, Popped, Exception, Memory, Own, Completion, first_word, carry, complete}
use Rattle.rz_machine.specs.Action.{Action, Passes, Leads, Asks, Ends, action_by}
use Rattle.rz_sys.specs.Answer.{Called, answer, world_after}

abbrev pub end_with : End → Machine → Machine
end_with why s = record s { end = Some why }

-- the end by an exception
abbrev pub end_of : Exception → End
end_of (Memory bad) = end.Memory bad
end_of (Own Divide) = end.Divide
end_of (Own Popped) = end.Popped

-- on to `to`; an exception ends the run at the instruction, with what the whole iterations of a repeat leave
abbrev pub after_exception : Option Exception → Completion → ℕ → Machine → Machine
after_exception None c to s = record s { cpu = record { regs = c.regs; rip = to; flags = c.flags }; mem = c.mem }
after_exception (Some x) c to s =
    record s {
      cpu = record { regs = c.regs; rip = s.cpu.rip; flags = c.flags };
      mem = c.mem;
      end = Some (end_of x);
    }

abbrev pub after_effect : Completion → ℕ → Machine → Machine
after_effect c to s = after_exception c.exception c to s

-- RAX is the answer, RCX the next address, R11 the flags word (Intel SDM, volume 2, "SYSCALL")
abbrev pub regs_after : List ℕ → Flags → ℕ → ℕ → List ℕ
regs_after regs flags next ans = set (set (set regs 0 ans) 1 next) 11 (flags_word flags)

abbrev pub after_exit : Option ℕ → Called → ℕ → Machine → Machine
after_exit (Some status) c next s = record s { world = world_after s.cpu.regs s.world c; end = Some (end.Exit status) }
after_exit None c next s =
    record s {
      cpu = record { regs = regs_after s.cpu.regs s.cpu.flags next c.answer; rip = next; flags = s.cpu.flags };
      mem = c.mem;
      world = world_after s.cpu.regs s.world c;
    }

abbrev pub after_call : Called → ℕ → Machine → Machine
after_call c next s = after_exit c.exit c next s

-- an instruction's action, before `next`
abbrev pub perform_action : Action → ℕ → Machine → Machine
perform_action (Passes p) next s = after_effect (complete p s.cpu.regs s.cpu.flags s.mem) next s
perform_action (Leads e to) next s = after_effect (carry e s.cpu.regs s.cpu.flags s.mem) (to (first_word e s.mem)) s
perform_action Asks next s = after_call (answer s.cpu.regs s.mem s.world) next s
perform_action (Ends why) next s = end_with why s

abbrev pub perform_by : Way → Insn → ℕ → Machine → Machine
perform_by w x next s = perform_action (action_by w x s.cpu.rip next s.cpu.regs s.cpu.flags) next s

-- an instruction before `next`
abbrev pub perform : Insn → ℕ → Machine → Machine
perform x next s = perform_by (way_of x) x next s

-- what the executable bytes at RIP spell
abbrev pub decoded_at : Decoder → Machine → Decoded
decoded_at dec s = dec (fetch s.mem s.cpu.rip 15) s.cpu.rip

abbrev pub act : Decoded → Machine → Machine
act (decoded.Insn x len) s = perform x (wrap (s.cpu.rip + len)) s
act decoded.Short s = end_with (end.Fetch s.cpu.rip) s
act decoded.Unknown s = end_with (end.Unknown s.cpu.rip) s

abbrev pub running : Option End → Decoder → Machine → Machine
running None dec s = act (decoded_at dec s) s
running (Some why) dec s = s

-- one step; a state that has ended stays
unfoldable pub step : Decoder → Machine → Machine
step dec s = running s.end dec s

-- n steps
unfoldable pub after : Decoder → ℕ → Machine → Machine
after dec zero s = s
after dec (suc n) s = after dec n (step dec s)
