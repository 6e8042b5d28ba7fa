use Rattle.std.proofs.Common.{◌≡◌, ℕ, ◌+◌, ◌<◌, length, get_or}
use Rattle.rz_layout.specs.Calls.Pieces.{piece_offset}
use Rattle.rz_layout.proofs.sizes.places_of.Given as goal

abbrev pub invariant-loop-k : goal.invariant-loop-k
invariant-loop-k l =
    record {
      here : l.here ≡ l.base + piece_offset l.pieces l.forms l.k;
      each : length l.places ≡ l.k;
      at : (j : ℕ) → j < l.k → get_or l.places j 0 ≡ l.base + piece_offset l.pieces l.forms j;
    }
