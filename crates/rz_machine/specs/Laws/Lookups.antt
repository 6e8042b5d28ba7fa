-- What a lookup means to a site: the new run comes to the place of a target, or to the site's stub.
use Rattle.std.proofs.Common.{◌≡◌, ℕ, zero, suc, ◌+◌, ◌^◌, ◌<◌, ◌≤◌, inl, inr, ⊎_elim, Bool, true, false, ◌||◌, ◌==◌, if◌then◌else◌, IsTrue, List, [], ◌∷◌, length, set, Some, refl, sym, ap, ◌∙◌, subst, arith, eqb-true}
use Rattle.std.proofs.lemmas.Nat.{leading_length}
use Rattle.std.specs.List.{AllByRecursion}
use Rattle.std.specs.Prelude.{unwrap_or, slice_get}
use Rattle.rz_isa.specs.Nodes.{Decoder}
use Rattle.rz_image.specs.Memory.{Regions, SameCell, Alike, IsOutside}
use Rattle.rz_sys.specs.World.{SameWorld}
use Rattle.rz_machine.specs.declared.machine.Machine.{Machine}
use Rattle.rz_machine.specs.Added.{Layout}
use Rattle.rz_machine.specs.Kept.{IsAscending, has_node}
use Rattle.rz_machine.specs.Simulates.{HasScratch, leads}
use Rattle.rz_machine.specs.Laws.Comes.{Comes}
use Rattle.rz_machine.specs.Tables.{AscendFrom, IsTable, led, placed, binary_digits}
use Rattle.rz_machine.specs.Lookup.{LookedUp}

-- ---- the run

-- a state that is the same but for RCX, which is kept, is the same behind the routine
pub looked_up_comes : (dec : Decoder) (lay : Layout) (wm : Regions) (scratch rcx most q : ℕ) (s t : Machine) → HasScratch scratch lay.added wm
    → s.cpu.regs ≡ set t.cpu.regs 1 rcx → s.cpu.flags ≡ t.cpu.flags → SameWorld s.world t.world → Alike lay.added s.mem t.mem
    → LookedUp dec lay wm scratch rcx most q t → Comes dec lay.added s t 1 most q
looked_up_comes dec lay wm scratch rcx most q s t page regs flags world mem l =
    record {
      steps = l.steps;
      enough = l.some;
      few = l.few;
      runs = l.runs;
      there = l.there;
      same = record {
        regs = regs ∙ sym l.regs;
        flags = flags ∙ sym l.flags;
        world = subst (SameWorld s.world) (sym l.world) world;
        mem = record { at = λ a out. both (mem.at a out) (l.mem.at a (outside a out)) };
      };
    }
  where
    both : {c d e : Rattle.rz_image.specs.Memory.Cell} → SameCell c d → SameCell d e → SameCell c e
    both x y = record { byte = x.byte ∙ y.byte; read = x.read ∙ y.read; write = x.write ∙ y.write }

    outside : (a : ℕ) → IsOutside lay.added a → IsOutside (record { low = scratch + 24; high = scratch + 4096 }) a
    outside a out = ⊎_elim (λ h. inl (omega (arith, h, page.first))) (λ h. inr (omega (arith, h, page.last))) out

-- ---- the table of a site's targets

-- it leads where the site leads
pub led_by_targets : (place stub : ℕ → ℕ) (a v : ℕ) (targets : List ℕ) → led (stub a) (placed place targets) v ≡ leads (has_node targets) place stub a v
led_by_targets place stub a v [] = refl
led_by_targets place stub a v (b ∷ rest) = go (b == v) refl (led_by_targets place stub a v rest)
  where
    go : (c : Bool) → (b == v) ≡ c → led (stub a) (placed place rest) v ≡ leads (has_node rest) place stub a v
        → unwrap_or (if b == v then Some (place b) else Rattle.rz_isa.specs.Items.beside (placed place rest) v) (stub a) ≡ (if (b == v) || has_node rest v then place v else stub a)
    go true e ih =
        ap (λ c. unwrap_or (if c then Some (place b) else Rattle.rz_isa.specs.Items.beside (placed place rest) v) (stub a)) e
        ∙ ap place (eqb-true b v e) ∙ sym (ap (λ c. if c || has_node rest v then place v else stub a) e)
    go false e ih =
        ap (λ c. unwrap_or (if c then Some (place b) else Rattle.rz_isa.specs.Items.beside (placed place rest) v) (stub a)) e
        ∙ ih ∙ sym (ap (λ c. if c || has_node rest v then place v else stub a) e)

ascend_placed : (place : ℕ → ℕ) (n : ℕ) (targets : List ℕ) → AllByRecursion (λ b. n ≤ b) targets → IsAscending targets → AscendFrom n (placed place targets)
ascend_placed place n [] above h = tt
ascend_placed place n (b ∷ rest) above h = (above.0, ascend_placed place (suc b) rest (next rest h.0) h.1)
  where
    next : (xs : List ℕ) → AllByRecursion (λ c. b < c) xs → AllByRecursion (λ c. suc b ≤ c) xs
    next [] k = tt
    next (x ∷ xs) k = (let l : b < x = k.0 in omega (arith, l), next xs k.1)

-- ascending targets whose places are low have a table
pub targets_table : (place : ℕ → ℕ) (stub : ℕ) (targets : List ℕ) → stub < 2 ^ 64 → length targets < 2 ^ 28 → IsAscending targets
    → AllByRecursion (λ b. b < 2 ^ 32) targets → AllByRecursion (λ b. place b < 2 ^ 32) targets → IsTable stub (placed place targets)
targets_table place stub targets low few ascend all places =
    record { stub_low = low; targets_low = lows targets all; places_low = placed_lows targets places; ascend = ascend_placed place 0 targets (any targets) ascend; few = let e = count targets in omega (arith, e, few) }
  where
    lows : (xs : List ℕ) → AllByRecursion (λ b. b < 2 ^ 32) xs → AllByRecursion (λ p. p.0 < 2 ^ 32) (placed place xs)
    lows [] h = tt
    lows (x ∷ xs) h = (h.0, lows xs h.1)

    placed_lows : (xs : List ℕ) → AllByRecursion (λ b. place b < 2 ^ 32) xs → AllByRecursion (λ p. p.1 < 2 ^ 32) (placed place xs)
    placed_lows [] h = tt
    placed_lows (x ∷ xs) h = (h.0, placed_lows xs h.1)

    any : (xs : List ℕ) → AllByRecursion (λ b. 0 ≤ b) xs
    any [] = tt
    any (x ∷ xs) = (omega arith, any xs)

    count : (xs : List ℕ) → length (placed place xs) ≡ length xs
    count [] = refl
    count (x ∷ xs) = ap suc (count xs)

-- ---- binary digits

-- a number below 2^64 is below 2 to the power of its digits
pub digits_enough : (n : ℕ) → n < 2 ^ 64 → n < 2 ^ binary_digits n
digits_enough n h =
    let all = leading_length 64 n h in
    let m : binary_digits n ≡ all.0 = omega (arith, all.1) in
    subst (λ k. n < 2 ^ k) (sym m) all.2

-- 0 has none
pub no_digits : binary_digits 0 ≡ 0
unfolding lib.Count.count_leading_zeros
no_digits = refl
