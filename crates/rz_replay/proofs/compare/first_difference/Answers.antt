use Rattle.std.proofs.Common.{ℕ, ◌<◌, ◌≤◌, ◌⊎◌, min, inl, inr, arith}
use Rattle.std.proofs.lemmas.Bool.{cases_lt}
use Rattle.rz_replay.proofs.VerdictLaws.{place_past}
use Rattle.rz_replay.proofs.compare.first_difference.Goals as goal

shorter_past : (m n i : ℕ) → min m n ≤ i → (m ≤ i) ⊎ (n ≤ i)
shorter_past m n i h = go (cases_lt m n)
  where
    go : (m < n) ⊎ (n ≤ m) → (m ≤ i) ⊎ (n ≤ i)
    go (inl lt) = inl (omega arith)
    go (inr le) = inr (omega arith)

pub returns : goal.returns
returns c =
    let past = place_past c.args.old.now c.args.new.now c.loop-i.i (shorter_past _ _ c.loop-i.i (omega arith)) in
    omega (arith, c.loop-i.invariant, past)
