use Rattle.std.proofs.Common.{◌≡◌, ◌≢◌, ◌+◌, ◌<◌, ◌≤◌, ℕ}
use Rattle.std.specs.Prelude.{slice_index}
use Rattle.rz_syms.proofs.named.end_of_names.Given as goal

abbrev pub invariant-loop-place : goal.invariant-loop-place
invariant-loop-place l =
    record {
      within : l.end ≤ l.place;
      zero : (i : ℕ) → l.end ≡ i + 1 → slice_index l.strings i ≡ 0;
      behind : (i : ℕ) → l.end ≤ i → i < l.place → slice_index l.strings i ≢ 0;
    }
