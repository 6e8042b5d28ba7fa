-- From one instruction to whole runs, over any placement.
use Rattle.std.proofs.Common.{◌≡◌, ℕ, zero, suc, ◌+◌, ◌*◌, ◌<◌, ◌≤◌, ⊎_elim, Bool, true, false, if◌then◌else◌, Option, Some, None, refl, sym, ap, ◌∙◌, subst, subst₂, arith}
use Rattle.std.proofs.lemmas.Bool.{cases_lt}
use Rattle.rz_machine.specs.declared.machine.End.{End}
use Rattle.rz_machine.specs.declared.machine.Machine.{Machine}
use Rattle.rz_image.specs.Memory.{Regions, Range, RangeStands}
use Rattle.rz_isa.specs.Nodes.{Decoder}
use Rattle.rz_machine.specs.State.{step, after, running}
use Rattle.rz_machine.specs.Touches.{StepClear, RunClear}
use Rattle.rz_machine.specs.Added.{Layout}
use Rattle.rz_machine.specs.Keeps.{Same, Leaves, IsCut, NoCut, AlikeEnds, StopsAtStub, KeepsRun}
use Rattle.rz_machine.specs.Kept.{Edges, has_edge}
use Rattle.rz_machine.specs.Pace.{IsMoment, Paced}
use Rattle.rz_machine.specs.Simulates.{HasCode, Stand, Follows, leads}
use Rattle.rz_machine.specs.Laws.Steps.{step_heap, after_heap, after_break}
use Rattle.rz_machine.specs.Laws.Code.{step_code, after_code, after_range}
use Rattle.rz_machine.specs.Laws.Registers.{step_regs}

-- a run that has ended stays
pub stays : (dec : Decoder) (s : Machine) (why : End) → s.end ≡ Some why → step dec s ≡ s
unfolding step
stays dec s why e = ap (λ o. running o dec s) e

-- m steps and then n more
pub after-+ : (dec : Decoder) (m n : ℕ) (s : Machine) → after dec (m + n) s ≡ after dec n (after dec m s)
unfolding after
after-+ dec zero n s = let e : zero + n ≡ n = omega arith in ap (λ k. after dec k s) e
after-+ dec (suc m) n s = let e : suc m + n ≡ suc (m + n) = omega arith in ap (λ k. after dec k s) e ∙ after-+ dec m n (step dec s)

-- n steps and then one more
pub after-suc : (dec : Decoder) (n : ℕ) (s : Machine) → after dec (suc n) s ≡ step dec (after dec n s)
unfolding after
after-suc dec zero s = refl
after-suc dec (suc n) s = after-suc dec n (step dec s)

-- a run that goes on was running
pub ran : (dec : Decoder) (s : Machine) → (step dec s).end ≡ None → s.end ≡ None
ran dec s runs = go s.end refl
  where
    go : (o : Option End) → s.end ≡ o → o ≡ None
    go None e = refl
    go (Some why) e = let f : s.end ≡ None = ap (λ u. u.end) (sym (stays dec s why e)) ∙ runs in cc

-- no fewer steps than the old run's
pub moment_least : (dec : Decoder) (r : Range) (bound : ℕ → ℕ) (x w : Machine) (n m : ℕ) → IsMoment dec r bound x w n m → n ≤ m
moment_least dec r bound x w zero m h = omega arith
moment_least dec r bound x w (suc n) m h = let i = moment_least dec r bound x w n h.0 h.1 in omega (arith, i, h.2)

-- and no more than a bound for each
pub moment_most : (dec : Decoder) (r : Range) (bound : ℕ → ℕ) (b : ℕ) → ((a : ℕ) → bound a ≤ b) → (x w : Machine) (n m : ℕ) → IsMoment dec r bound x w n m → m ≤ b * n
moment_most dec r bound b low x w zero m h = omega (arith, h)
moment_most dec r bound b low x w (suc n) m h =
    let i = moment_most dec r bound b low x w n h.0 h.1 in
    let j = low (after dec n x).cpu.rip in
    let e : b * suc n ≡ b * n + b = omega arith in
    omega (arith, i, j, e, h.3)

module _ (dec : Decoder) (edges : Edges) (lay : Layout) (place bound : ℕ → ℕ) (IsNode : ℕ → Type 0) (xm wm : Regions)
    (ends_are_nodes : (a b : ℕ) → has_edge edges a b ≡ true → IsNode b)
    (each : (s t : Machine) → IsNode s.cpu.rip → Stand lay place xm wm s t → StepClear lay.added dec s → Follows dec lay (leads (has_edge edges s.cpu.rip) place lay.stub s.cpu.rip) (bound s.cpu.rip) (step dec s) t)
    (stub_stops : (s t : Machine) → IsNode s.cpu.rip → t.end ≡ None → HasCode wm t.mem → RangeStands lay.added wm t.mem → t.cpu.rip ≡ lay.stub s.cpu.rip → StopsAtStub dec lay s t)
    (x w : Machine) (begins : IsNode x.cpu.rip) (stands : Stand lay place xm wm x w) where
  -- after n steps along kept edges the old run stands at a node, and the new one at its place
  record Arrived (n : ℕ) : Type 0 where
    steps : ℕ
    moment : IsMoment dec lay.added bound x w n steps
    node : IsNode (after dec n x).cpu.rip
    stand : Stand lay place xm wm (after dec n x) (after dec steps w)
    kept : (i : ℕ) → i < n → Leaves dec edges (after dec i x) → ⊥

  -- one kept edge more
  one_more : (n : ℕ) → Arrived n → StepClear lay.added dec (after dec n x) → (step dec (after dec n x)).end ≡ None → (IsCut dec edges x n → ⊥) → Arrived (suc n)
  one_more n a clear runs nocut = go (has_edge edges s.cpu.rip (step dec s).cpu.rip) refl
    where
      s : Machine
      s = after dec n x

      t : Machine
      t = after dec a.steps w

      go : (b : Bool) → has_edge edges s.cpu.rip (step dec s).cpu.rip ≡ b → Arrived (suc n)
      go false e = absurd (nocut (record { leaves = record { runs = runs; left = e }; first = a.kept }))
      go true e =
          let f = (each s t a.node a.stand clear).goes runs in
          let there : (after dec f.0 t).cpu.rip ≡ place (step dec s).cpu.rip = f.4 ∙ ap (λ v. if v then place (step dec s).cpu.rip else lay.stub s.cpu.rip) e in
          let stand : Stand lay place xm wm (step dec s) (after dec f.0 t) =
          record {
            old_runs = runs;
            new_runs = f.3;
            there = there;
            same = f.5;
            regs = step_regs dec s a.stand.old_heap a.stand.regs;
            old_code = step_code xm dec s a.stand.old_heap a.stand.old_code;
            new_code = after_code wm dec f.0 t a.stand.new_heap a.stand.new_code;
            added = after_range lay.added wm dec f.0 t a.stand.new_heap a.stand.below a.stand.added;
            old_heap = step_heap dec s a.stand.old_heap;
            new_heap = after_heap dec f.0 t a.stand.new_heap;
            below = subst (λ k. lay.added.high ≤ k) (sym (after_break t.world.first_break dec f.0 t refl)) a.stand.below;
          } in
          let old : after dec (suc n) x ≡ step dec s = after-suc dec n x in
          let new : after dec (a.steps + f.0) w ≡ after dec f.0 t = after-+ dec a.steps f.0 w in
          let P : Machine → Type 0 = λ u. IsNode u.cpu.rip in
          record {
            steps = a.steps + f.0;
            moment = (a.steps, a.moment, omega (arith, f.1), omega (arith, f.2), subst₂ (Same lay.added) (sym old) (sym new) f.5);
            node = subst P (sym old) (ends_are_nodes s.cpu.rip (step dec s).cpu.rip e);
            stand = subst₂ (Stand lay place xm wm) (sym old) (sym new) stand;
            kept = λ i lt l. ⊎_elim (λ h. a.kept i h l) (λ h. here i (omega arith) e l) (cases_lt i n);
          }
        where
          here : (i : ℕ) → i ≡ n → has_edge edges s.cpu.rip (step dec s).cpu.rip ≡ true → Leaves dec edges (after dec i x) → ⊥
          here i same e l =
              let Q : ℕ → Type 0 = λ k. Leaves dec edges (after dec k x) in
              let m : Leaves dec edges s = subst Q same l in
              let g = m.left in
              cc

  -- so far a run goes that meets no touch, no cut and no end
  arrives : (n : ℕ) → RunClear lay.added dec x n → NoCut dec edges x n → (after dec n x).end ≡ None → Arrived n
  unfolding after
  arrives zero clear nocut runs = record { steps = 0; moment = refl; node = begins; stand = stands; kept = λ i lt. absurd (omega arith) }
  arrives (suc n) clear nocut runs =
      let goes : (step dec (after dec n x)).end ≡ None = ap (λ u. u.end) (sym (after-suc dec n x)) ∙ runs in
      let a : Arrived n = arrives n (λ j lt. clear j (omega arith)) (λ j lt. nocut j (omega arith)) (ran dec (after dec n x) goes) in
      one_more n a (clear n (omega arith)) goes (nocut n (omega arith))

  -- each step is followed within its bound
  pub paced : Paced dec edges lay bound x w
  paced = record { goes_on = goes_on; ends = ends; cut = cut }
    where
      goes_on : (n : ℕ) → RunClear lay.added dec x n → NoCut dec edges x n → (after dec n x).end ≡ None
          → (m : ℕ) × IsMoment dec lay.added bound x w n m × ((after dec m w).end ≡ None) × Same lay.added (after dec n x) (after dec m w)
      goes_on n clear nocut runs = let a = arrives n clear nocut runs in (a.steps, a.moment, a.stand.new_runs, a.stand.same)

      ends : (j : ℕ) (why : End) → RunClear lay.added dec x (suc j) → NoCut dec edges x (suc j) → (after dec j x).end ≡ None → (after dec (suc j) x).end ≡ Some why
          → (m : ℕ) × (why' : End) × IsMoment dec lay.added bound x w (suc j) m × ((after dec m w).end ≡ Some why') × AlikeEnds lay.code (Some why) (Some why')
      ends j why clear nocut runs over =
          let a = arrives j (λ i lt. clear i (omega arith)) (λ i lt. nocut i (omega arith)) runs in
          let old = after-suc dec j x in
          let f = (each (after dec j x) (after dec a.steps w) a.node a.stand (clear j (omega arith))).ends why (ap (λ u. u.end) (sym old) ∙ over) in
          let new = after-+ dec a.steps f.0 w in
          (a.steps + f.0, f.3, (a.steps, a.moment, omega (arith, f.1), omega (arith, f.2), subst₂ (Same lay.added) (sym old) (sym new) f.6), ap (λ u. u.end) new ∙ f.4, f.5)

      cut : (j : ℕ) → RunClear lay.added dec x (suc j) → IsCut dec edges x j
          → (m : ℕ) × IsMoment dec lay.added bound x w (suc j) m × ((after dec m w).end ≡ None) × ((after dec m w).cpu.rip ≡ lay.stub (after dec j x).cpu.rip)
      cut j clear h =
          let s = after dec j x in
          let a = arrives j (λ i lt. clear i (omega arith)) (λ i lt c. h.first i lt c.leaves) (ran dec s h.leaves.runs) in
          let f = (each s (after dec a.steps w) a.node a.stand (clear j (omega arith))).goes h.leaves.runs in
          let there : (after dec f.0 (after dec a.steps w)).cpu.rip ≡ lay.stub s.cpu.rip = f.4 ∙ ap (λ v. if v then place (step dec s).cpu.rip else lay.stub s.cpu.rip) h.leaves.left in
          let old = after-suc dec j x in
          let new = after-+ dec a.steps f.0 w in
          (a.steps + f.0, (a.steps, a.moment, omega (arith, f.1), omega (arith, f.2), subst₂ (Same lay.added) (sym old) (sym new) f.5), ap (λ u. u.end) new ∙ f.3, ap (λ u. u.cpu.rip) new ∙ there)

  -- the step that ended a run
  record Last (n : ℕ) (why : End) : Type 0 where
    count : ℕ
    before : count < n
    runs : (after dec count x).end ≡ None
    over : (after dec (suc count) x).end ≡ Some why
    rest : after dec n x ≡ after dec (suc count) x

  -- each run that has ended has such a step
  last : (n : ℕ) (why : End) → (after dec n x).end ≡ Some why → Last n why
  unfolding after
  last zero why over = absurd (let f = stands.old_runs in cc)
  last (suc n) why over = go (after dec n x).end refl (λ v e. last n v e)
    where
      go : (o : Option End) → (after dec n x).end ≡ o → ((v : End) → (after dec n x).end ≡ Some v → Last n v) → Last (suc n) why
      go None e earlier = record { count = n; before = omega arith; runs = e; over = over; rest = refl }
      go (Some v) e earlier =
          let l = earlier v e in
          let same : after dec (suc n) x ≡ after dec n x = after-suc dec n x ∙ stays dec (after dec n x) v e in
          let rest = same ∙ l.rest in
          record { count = l.count; before = omega (arith, l.before); runs = l.runs; over = ap (λ u. u.end) (sym rest) ∙ over; rest = rest }

  -- the new run keeps the old one
  pub keeps : KeepsRun dec edges lay x w
  keeps = record { goes_on = goes_on; ends = ends; cut = cut }
    where
      goes_on : (n : ℕ) → RunClear lay.added dec x n → NoCut dec edges x n → (after dec n x).end ≡ None
          → (m : ℕ) × (n ≤ m) × ((after dec m w).end ≡ None) × Same lay.added (after dec n x) (after dec m w)
      goes_on n clear nocut runs = let p = paced.goes_on n clear nocut runs in (p.0, moment_least dec lay.added bound x w n p.0 p.1, p.2, p.3)

      ends : (n : ℕ) (why : End) → RunClear lay.added dec x n → NoCut dec edges x n → (after dec n x).end ≡ Some why
          → (m : ℕ) × (why' : End) × ((after dec m w).end ≡ Some why') × AlikeEnds lay.code (Some why) (Some why') × Same lay.added (after dec n x) (after dec m w)
      ends n why clear nocut over =
          let l = last n why over in
          let p = paced.ends l.count why (λ i lt. clear i (omega (arith, l.before))) (λ i lt. nocut i (omega (arith, l.before))) l.runs l.over in
          (p.0, p.1, p.3, p.4, subst (λ u. Same lay.added u (after dec p.0 w)) (sym l.rest) p.2.4)

      cut : (j : ℕ) → RunClear lay.added dec x (suc j) → IsCut dec edges x j
          → (m : ℕ) × (j < m) × ((after dec m w).end ≡ None) × Same lay.added (after dec (suc j) x) (after dec m w)
          × ((after dec m w).cpu.rip ≡ lay.stub (after dec j x).cpu.rip)
          × StopsAtStub dec lay (after dec j x) (after dec m w)
      cut j clear h =
          let p = paced.cut j clear h in
          let a = arrives j (λ i lt. clear i (omega arith)) (λ i lt c. h.first i lt c.leaves) (ran dec (after dec j x) h.leaves.runs) in
          (p.0, moment_least dec lay.added bound x w (suc j) p.0 p.1, p.2, p.1.4, p.3, stub_stops (after dec j x) (after dec p.0 w) a.node p.2 (after_code wm dec p.0 w stands.new_heap stands.new_code) (after_range lay.added wm dec p.0 w stands.new_heap stands.below stands.added) p.3)
