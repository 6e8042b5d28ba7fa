-- A run whose steps are each followed within its bound has costs.
use Rattle.std.proofs.Common.{◌≡◌, ℕ, zero, suc, ◌+◌, ◌<◌, ◌≤◌, ◌⊎◌, inl, inr, ⊎_elim, Bool, true, false, Option, Some, None, refl, sym, ap, ◌∙◌, subst, arith}
use Rattle.std.proofs.lemmas.Bool.{cases_lt}
use Rattle.rz_machine.specs.declared.machine.End.{End}
use Rattle.rz_machine.specs.declared.machine.Machine.{Machine}
use Rattle.rz_isa.specs.Nodes.{Decoder}
use Rattle.rz_machine.specs.State.{step, after}
use Rattle.rz_machine.specs.Touches.{RunClear}
use Rattle.rz_machine.specs.Added.{Layout}
use Rattle.rz_machine.specs.Keeps.{Leaves, IsCut, NoCut}
use Rattle.rz_machine.specs.Kept.{Edges, has_edge}
use Rattle.rz_machine.specs.Pace.{IsMoment, Paced, HasAll, HasEnded, HasCut, Costs}
use Rattle.rz_machine.specs.Laws.Runs.{after-suc}

module _ (dec : Decoder) (edges : Edges) (lay : Layout) (bound : ℕ → ℕ) (x w : Machine) where
  -- before a cut no step leaves the kept edges
  none_leaves : (n : ℕ) → NoCut dec edges x n → (b i : ℕ) → i < b → b ≤ n → Leaves dec edges (after dec i x) → ⊥
  none_leaves n nocut zero i lt le l = omega (arith, lt)
  none_leaves n nocut (suc b) i lt le l =
      ⊎_elim (λ less. none_leaves n nocut b i less (omega (arith, le)) l)
      (λ ge.
      let same : i ≡ b = omega (arith, lt, ge) in
      nocut b (omega (arith, le)) (record { leaves = subst (λ j. Leaves dec edges (after dec j x)) same l; first = λ j less. none_leaves n nocut b j less (omega (arith, le)) }))
      (cases_lt i b)

  abbrev Reached : ℕ → Type 0
  Reached n = (k : ℕ) × (k ≤ n) × (m : ℕ) × IsMoment dec lay.added bound x w k m × (HasAll dec edges x w n k m ⊎ HasEnded dec lay x w k m ⊎ HasCut dec edges lay x w k m)

  module _ (runs : x.end ≡ None) (pace : Paced dec edges lay bound x w) where
    -- one step more
    one_more : (n : ℕ) → RunClear lay.added dec x (suc n) → NoCut dec edges x n → (after dec n x).end ≡ None → Reached (suc n)
    one_more n clear nocut running = by_end (step dec s).end refl
      where
        s : Machine
        s = after dec n x

        next : after dec (suc n) x ≡ step dec (after dec n x)
        next = after-suc dec n x

        -- where step n + 1 is no cut
        no_cut : (Leaves dec edges (after dec n x) → ⊥) → NoCut dec edges x (suc n)
        no_cut stays j lt c = ⊎_elim (λ less. nocut j less c) (λ ge. let same : j ≡ n = omega (arith, lt, ge) in stays (subst (λ i. Leaves dec edges (after dec i x)) same c.leaves)) (cases_lt j n)

        by_edge : (step dec (after dec n x)).end ≡ None → (v : Bool) → has_edge edges (after dec n x).cpu.rip (step dec (after dec n x)).cpu.rip ≡ v → Reached (suc n)
        by_edge e true edge =
            let none = no_cut (λ l. let f = l.left in let g : true ≡ false = sym edge ∙ f in absurd (cc)) in
            let over = ap (λ (u : Machine). u.end) next ∙ e in
            let p = pace.goes_on (suc n) clear none over in
            (suc n, omega arith, p.0, p.1, inl (record { all = refl; no_cut = none; old_runs = over; new_runs = p.2 }))
        by_edge e false edge =
            let c : IsCut dec edges x n = record { leaves = record { runs = e; left = edge }; first = λ i lt. none_leaves n nocut n i lt (omega arith) } in
            let p = pace.cut n clear c in
            (suc n, omega arith, p.0, p.1, inr (inr (record { before = n; last = refl; cut = c; new_runs = p.2; there = p.3 })))

        by_end : (o : Option End) → (step dec (after dec n x)).end ≡ o → Reached (suc n)
        by_end None e = by_edge e (has_edge edges (after dec n x).cpu.rip (step dec (after dec n x)).cpu.rip) refl
        by_end (Some why) e =
            let none = no_cut (λ l. let f = l.runs in let g : Some why ≡ None = sym e ∙ f in absurd (cc)) in
            let over = ap (λ (u : Machine). u.end) next ∙ e in
            let p = pace.ends n why clear none running over in
            (suc n, omega arith, p.0, p.2, inr (inl (record { why = why; new_why = p.1; old_ends = over; new_ends = p.3; alike = p.4 })))

    pub costs : Costs dec edges lay bound x w
    unfolding after
    costs zero clear =
        let none : NoCut dec edges x zero = λ j lt c. omega (arith, lt) in
        let p = pace.goes_on zero clear none runs in
        (zero, omega arith, p.0, p.1, inl (record { all = refl; no_cut = none; old_runs = runs; new_runs = p.2 }))
    costs (suc n) clear = go (costs n (λ j lt. clear j (omega (arith, lt))))
      where
        go : Reached n → Reached (suc n)
        go r = ⊎_elim (λ all. one_more n clear all.no_cut all.old_runs) (λ rest. (r.0, omega (arith, r.1), r.2, r.3, inr rest)) r.4
