-- Worked rows: the least number that passes a test, and steps counted.
use Rattle.std.proofs.Common.{◌≡◌, nat_lt, [], replicate, None, refl}
use Rattle.rz_isa.specs.Nodes.{Decoder}
use Rattle.rz_isa.specs.declared.decoding.Decoded.TheVariants as decoded
use Rattle.rz_isa.specs.declared.instruction.Insn.TheVariants.{Syscall}
use Rattle.rz_sys.specs.Answer.{answer}
use Rattle.rz_machine.specs.declared.machine.Machine.{Machine}
use Rattle.rz_machine.specs.Start.{no_flags}
use Rattle.rz_machine.specs.State.{after, step}
use Rattle.rz_machine.specs.Until.{least, steps_until, steps_made}

third : least (nat_lt 2) 10 ≡ 3
third = refl

none : least (nat_lt 2) 2 ≡ 2
none = refl

-- a machine that makes a call in each step
calls : Decoder
calls bytes at = decoded.Insn Syscall 2

-- and one that finds no instruction
lost : Decoder
lost bytes at = decoded.Unknown

first : Machine
first =
    record {
      cpu = record { regs = replicate 16 59; rip = 0x401000; flags = no_flags };
      mem = [];
      world = record { stdin = []; replies = []; events = []; first_break = 0; brk = 0; heap = 0 };
      end = None;
    }

-- a run that ends makes one step, with its end; one that doesn't makes as many as it may
one-step : steps_made lost 10 first ≡ 1
unfolding steps_until lost first after step
one-step = refl

all-steps : steps_made calls 3 first ≡ 3
unfolding steps_until calls first after step answer
all-steps = refl

no-step : steps_made lost 0 first ≡ 0
unfolding steps_until
no-step = refl
