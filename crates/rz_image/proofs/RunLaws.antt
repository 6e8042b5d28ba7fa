-- Fronts of runs of bytes.
use Rattle.std.proofs.Common.{◌≡◌, ℕ, ◌-◌, ◌≤◌, ◌⊎◌, inl, inr, true, false, if◌then◌else◌, List, [], length, get_or, take, drop, refl, sym, ap, ◌∙◌, arith, length-take}
use Rattle.std.proofs.lemmas.List.{get_or-take}
use Rattle.rz_image.specs.declared.access.Access.{Access}
use Rattle.rz_image.specs.declared.region.Region.{Region}
use Rattle.rz_image.specs.Memory.{Regions}
use Rattle.rz_image.specs.Run.{permits, run_in, IsRun, IsFront}

-- the first bytes of a run are one
pub front_run : (access : Access) (m : Regions) (a : ℕ) (front whole : List ℕ) → IsRun access m a whole → IsFront front whole → IsRun access m a front
front_run access m a front whole run is =
    let len : length front ≤ length whole = (let l = ap length is.same in let t = length-take (length front) whole in omega (arith, l, t)) in
    record {
      allowed = λ k lt. run.allowed k (omega (arith, len, lt));
      same = λ k lt. run.same k (omega (arith, len, lt)) ∙ sym (ap (λ (l : List ℕ). get_or l k 0) is.same ∙ get_or-take (length front) whole k 0 lt);
      fits = let f = run.fits in omega (arith, f, len);
      none = λ z. run.none (is.some z);
    }

-- no byte is open where the access isn't permitted, or from a place on that isn't open
pub closed_run : (access : Access) (r : Region) (place : ℕ) → (permits access r.perm ≡ false) ⊎ (r.opened ≤ place) → length (run_in access r place) ≡ 0
closed_run access r place (inl e) = ap (λ b. length (if b then take (r.opened - place) (drop place r.bytes) else [])) e
closed_run access r place (inr le) = go (permits access r.perm)
  where
    go : (b : _) → length (if b then take (r.opened - place) (drop place r.bytes) else []) ≡ 0
    go true = let t = length-take (r.opened - place) (drop place r.bytes) in omega (arith, t, le)
    go false = refl

pub open_run : (access : Access) (r : Region) (place : ℕ) → permits access r.perm ≡ true → run_in access r place ≡ take (r.opened - place) (drop place r.bytes)
open_run access r place e = ap (λ b. if b then take (r.opened - place) (drop place r.bytes) else []) e
