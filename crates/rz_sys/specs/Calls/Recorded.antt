-- A call added to the events of a world.
use Rattle.std.specs.Prelude.{ℕ, List, [], ◌∷◌, ◌++◌}
use Rattle.rz_sys.specs.declared.world.World.{World}
use Rattle.rz_sys.specs.Answer.{rax, rdi, rsi, rdx, negative, later_replies}

-- a call with this answer recorded, which moved these bytes
abbrev pub recorded_call : List ℕ → ℕ → List ℕ → World → World
recorded_call regs ans bytes w =
    record w {
      events = w.events ++ (record { number = rax regs; args = rdi regs ∷ rsi regs ∷ rdx regs ∷ []; answer = ans; bytes = bytes }) ∷ [];
    }

-- a call recorded that the reply in turn refuses with an error number
abbrev pub refused_call : List ℕ → ℕ → World → World
refused_call regs number w = record (recorded_call regs (negative number) [] w) { replies = later_replies w.replies }
