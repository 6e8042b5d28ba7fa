-- Worlds that are the same to a run.
use Rattle.std.specs.Prelude.{◌≡◌}
use Rattle.rz_sys.specs.declared.world.World.{World}

-- equal rests of input and replies, events, first break and break; the number of the heap's region is aside
pub record SameWorld (v w : World) : Type 0 where
  pub stdin : v.stdin ≡ w.stdin
  pub replies : v.replies ≡ w.replies
  pub events : v.events ≡ w.events
  pub first_break : v.first_break ≡ w.first_break
  pub brk : v.brk ≡ w.brk
