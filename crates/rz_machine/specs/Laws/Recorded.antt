-- What a trace records can be rewritten, and its own run has no cut.
use Rattle.std.proofs.Common.{◌≡◌, ℕ, zero, suc, ◌-◌, ◌<◌, ◌≤◌, ◌⊎◌, inl, inr, ⊎_elim, Bool, true, false, ◌&&◌, ◌||◌, ◌==◌, List, [], ◌∷◌, ◌++◌, Option, Some, None, refl, sym, ap, ◌∙◌, subst, arith, eq-eqb}
use Rattle.std.proofs.lemmas.Bool.{or_left, or_right, cases_lt}
use Rattle.rz_machine.specs.declared.machine.End.{End}
use Rattle.rz_machine.specs.declared.machine.Machine.{Machine}
use Rattle.rz_sys.specs.declared.input.Input.{Input}
use Rattle.rz_machine.specs.Kept.{Kept, with_nodes, with_edges, Edges, has_edge, has_node}
use Rattle.rz_image.specs.Memory.{Regions}
use Rattle.rz_elf.specs.Elf.{Image}
use Rattle.rz_isa.specs.Nodes.{Decoder}
use Rattle.rz_machine.specs.State.{step, after}
use Rattle.rz_machine.specs.Start.{start}
use Rattle.rz_machine.specs.Begun.{begun_at, begun, neighbours, recorded}
use Rattle.rz_machine.specs.Keeps.{NoCut}
use Rattle.rz_machine.specs.LeftCode.{left_at, StaysInCode}
use Rattle.rz_machine.specs.Traced.{with_run}
use Rattle.rz_isa.specs.Nodes.{Code}
use Rattle.rz_machine.specs.Nodes.{code_in, StandsIn}
use Rattle.rz_machine.specs.Recorded.{IsUncut, StaysPlausible}
use Rattle.rz_machine.specs.Laws.Sets.{has_node-with_nodes, has_edge-with_edges}
use Rattle.rz_machine.specs.Simulates.{HasCode}
use Rattle.rz_sys.specs.Heap.{HasHeap}
use Rattle.rz_machine.specs.Laws.StartCode.{start_code}
use Rattle.rz_machine.specs.Laws.Trace.{IsDirect, Begins, begins, begins_or, step_ended, after_ended, begun_nodes, begun_direct, neighbours_in}

pub nothing_stands : (dec : Decoder) (code : Code) → StandsIn dec code (record { nodes = []; edges = [] })
nothing_stands dec code = record { nodes = λ a h. cc; sources = λ a b h. cc; ends = λ a b h. cc; direct = λ a b h site. cc }

either : {A : Type 0} (x y : Bool) → (x || y) ≡ true → (x ≡ true → A) → (y ≡ true → A) → A
either true y e f g = f refl
either false y e f g = g e

-- a run added to what stands in the code stands there
pub with_run_stands : (dec : Decoder) (m : Regions) (n : ℕ) (s : Machine) (kept : Kept) → HasHeap s.mem s.world → HasCode m s.mem → StandsIn dec (code_in m) kept → StandsIn dec (code_in m) (with_run dec n s kept)
unfolding with_run IsDirect
with_run_stands dec m n s kept heap code h =
    record {
      nodes = λ a e. node a e (h.nodes a) (begun_nodes dec m n s a heap code);
      sources = λ a b e. edge a b e (λ f. old a (h.sources a b f)) (λ f. new a (neighbours_in list a b f).0);
      ends = λ a b e. edge a b e (λ f. old b (h.ends a b f)) (λ f. new b (neighbours_in list a b f).1);
      direct = λ a b e. edge a b e (h.direct a b) (begun_direct dec m n s a b heap code);
    }
  where
    list : List ℕ
    list = begun dec n s

    node : {A : Type 0} (a : ℕ) → has_node (with_nodes kept.nodes list) a ≡ true → (has_node kept.nodes a ≡ true → A) → (has_node list a ≡ true → A) → A
    node a e = either (has_node kept.nodes a) (has_node list a) (sym (has_node-with_nodes kept.nodes list a) ∙ e)

    edge : {A : Type 0} (a b : ℕ) → has_edge (with_edges kept.edges (neighbours list)) a b ≡ true → (has_edge kept.edges a b ≡ true → A) → (has_edge (neighbours list) a b ≡ true → A) → A
    edge a b e = either (has_edge kept.edges a b) (has_edge (neighbours list) a b) (sym (has_edge-with_edges kept.edges (neighbours list) a b) ∙ e)

    old : (a : ℕ) → has_node kept.nodes a ≡ true → has_node (with_nodes kept.nodes list) a ≡ true
    old a f = has_node-with_nodes kept.nodes list a ∙ or_left (has_node kept.nodes a) (has_node list a) f

    new : (a : ℕ) → has_node list a ≡ true → has_node (with_nodes kept.nodes list) a ≡ true
    new a f = has_node-with_nodes kept.nodes list a ∙ or_right (has_node kept.nodes a) (has_node list a) f

-- a run that stays in the code for n steps does so for each number of steps up to n
pub stays_before : (dec : Decoder) (k n : ℕ) (s : Machine) → k ≤ n → StaysInCode dec n s → StaysInCode dec k s
unfolding after
stays_before dec zero n s le h = go s.end refl
  where
    go : (o : Option End) → s.end ≡ o → left_at s.end ≡ None
    go None e = ap left_at e
    go (Some why) e = ap (λ t. left_at t.end) (sym (after_ended dec n s why e)) ∙ h
stays_before dec (suc k) zero s le h = absurd (omega arith)
stays_before dec (suc k) (suc n) s le h = stays_before dec k n (step dec s) (omega arith) h

-- an end stays
pub ended_later : (dec : Decoder) (n k : ℕ) (s : Machine) (why : End) → n ≤ k → (after dec n s).end ≡ Some why → (after dec k s).end ≡ Some why
unfolding after
ended_later dec zero k s why le e = ap (λ t. t.end) (after_ended dec k s why e) ∙ e
ended_later dec (suc n) zero s why le e = absurd (omega arith)
ended_later dec (suc n) (suc k) s why le e = ended_later dec n k (step dec s) why (omega arith) e

running_before : (dec : Decoder) (s : Machine) → (step dec s).end ≡ None → s.end ≡ None
running_before dec s h = go s.end refl
  where
    go : (o : Option End) → s.end ≡ o → s.end ≡ None
    go None e = e
    go (Some why) e = let k = ap (λ t. t.end) (step_ended dec s why e) in cc

pub after_suc : (dec : Decoder) (n : ℕ) (s : Machine) → after dec (suc n) s ≡ step dec (after dec n s)
unfolding after
after_suc dec zero s = refl
after_suc dec (suc n) s = after_suc dec n (step dec s)

-- a run that stays in the code begins the entry
pub begun_first : (dec : Decoder) (n : ℕ) (s : Machine) → 1 ≤ n → s.end ≡ None → StaysInCode dec n s → has_node (begun dec n s) s.cpu.rip ≡ true
unfolding begun after
begun_first dec zero s le e h = absurd (omega arith)
begun_first dec (suc n) s le e h =
    let first = begins dec s e (stays_before dec 1 (suc n) s le h) in
    let P : List ℕ → Type 0 = λ l. has_node (l ++ begun dec n (step dec s)) s.cpu.rip ≡ true in
    subst P (sym first) (or_left (s.cpu.rip == s.cpu.rip) _ (eq-eqb s.cpu.rip s.cpu.rip refl))

both_true : (x y z : Bool) → x ≡ true → y ≡ true → ((x && y) || z) ≡ true
both_true true true z e f = refl
both_true true false z e f = cc
both_true false y z e f = cc

-- one more node before a list keeps its edges
edge_after : (x : ℕ) (l : List ℕ) (a b : ℕ) → has_edge (neighbours l) a b ≡ true → has_edge (neighbours (x ∷ l)) a b ≡ true
edge_after x [] a b h = cc
edge_after x (y ∷ rest) a b h = or_right (x == a && y == b) _ h

-- two steps of a run that stays in the code leave an edge
begun_edge : (dec : Decoder) (j n : ℕ) (s : Machine) → suc j < n → StaysInCode dec n s → (step dec (after dec j s)).end ≡ None → has_edge (neighbours (begun dec n s)) (after dec j s).cpu.rip (step dec (after dec j s)).cpu.rip ≡ true
unfolding begun after
begun_edge dec j zero s lt h e = absurd (omega arith)
begun_edge dec j (suc zero) s lt h e = absurd (omega arith)
begun_edge dec zero (suc (suc n)) s lt h e =
    let here = s.cpu.rip in
    let there = (step dec s).cpu.rip in
    let one = begins dec s (running_before dec s e) (stays_before dec 1 (suc (suc n)) s (omega arith) h) in
    let two = begins dec (step dec s) e (stays_before dec 2 (suc (suc n)) s (omega arith) h) in
    let rest = begun dec n (step dec (step dec s)) in
    let P : List ℕ → List ℕ → Type 0 = λ l k. has_edge (neighbours (l ++ (k ++ rest))) here there ≡ true in
    let found : P (here ∷ []) (there ∷ []) = both_true (here == here) (there == there) _ (eq-eqb here here refl) (eq-eqb there there refl) in
    subst (λ l. P l (begun_at dec (step dec s))) (sym one) (subst (P (here ∷ [])) (sym two) found)
begun_edge dec (suc j) (suc (suc n)) s lt h e =
    more (begins_or dec s) (begun_edge dec j (suc n) (step dec s) (omega arith) h e)
  where
    from : ℕ
    from = (after dec j (step dec s)).cpu.rip

    to : ℕ
    to = (step dec (after dec j (step dec s))).cpu.rip

    rest : List ℕ
    rest = begun dec (suc n) (step dec s)

    more : (begun_at dec s ≡ []) ⊎ Begins dec s → has_edge (neighbours rest) from to ≡ true → has_edge (neighbours (begun_at dec s ++ rest)) from to ≡ true
    more (inl none) f = subst (λ l. has_edge (neighbours (l ++ rest)) from to ≡ true) (sym none) f
    more (inr b) f = subst (λ l. has_edge (neighbours (l ++ rest)) from to ≡ true) (sym b.at) (edge_after s.cpu.rip rest from to f)

-- a set of edges has those of the first n steps
abbrev pub HasRun : Decoder → ℕ → Machine → Edges → Type 0
HasRun dec n s edges = (a b : ℕ) → has_edge (neighbours (begun dec n s)) a b ≡ true → has_edge edges a b ≡ true

-- where they are kept, a run that stays in the code has no cut before its last step
pub run_no_cut : (dec : Decoder) (n : ℕ) (s : Machine) (edges : Edges) → StaysInCode dec n s → HasRun dec n s edges → NoCut dec edges s (n - 1)
run_no_cut dec n s edges stays has j lt cut =
    let kept = has _ _ (begun_edge dec j n s (omega arith) stays cut.leaves.runs) in
    cc (kept, cut.leaves.left)

-- and one that has ended has no cut at all
pub ended_no_cut : (dec : Decoder) (n : ℕ) (s : Machine) (edges : Edges) (why : End) → (after dec n s).end ≡ Some why → StaysInCode dec n s → HasRun dec n s edges → (m : ℕ) → NoCut dec edges s m
ended_no_cut dec n s edges why ended stays has m j lt cut = ⊎_elim inside past (cases_lt (suc j) n)
  where
    inside : suc j < n → ⊥
    inside l = run_no_cut dec n s edges stays has j (omega arith) cut

    past : n ≤ suc j → ⊥
    past l =
        let over = ended_later dec n (suc j) s why l ended in
        let goes = cut.leaves.runs in
        cc (over, goes, after_suc dec j s)

pub with_run_has : (dec : Decoder) (n : ℕ) (s : Machine) (kept : Kept) → HasRun dec n s (with_run dec n s kept).edges
unfolding with_run
with_run_has dec n s kept a b h =
    has_edge-with_edges kept.edges (neighbours (begun dec n s)) a b ∙ or_right (has_edge kept.edges a b) (has_edge (neighbours (begun dec n s)) a b) h

-- so the record of a run that stays in the code has no cut for it
pub with_run_uncut : (dec : Decoder) (n : ℕ) (s : Machine) (kept : Kept) → StaysInCode dec n s → IsUncut dec (with_run dec n s kept).edges s n
with_run_uncut dec n s kept stays =
    record { before = run_no_cut dec n s _ stays (with_run_has dec n s kept); ended = λ why e. ended_no_cut dec n s _ why e stays (with_run_has dec n s kept) }

-- what is recorded is a run added to nothing
pub recorded_run : (dec : Decoder) (n : ℕ) (s : Machine) → recorded dec n s ≡ with_run dec n s (record { nodes = []; edges = [] })
unfolding recorded with_run
recorded_run dec n s = refl

-- no step of a recorded run before the last is its cut, and none at all where it ended
pub recorded_no_cut : (dec : Decoder) (n : ℕ) (s : Machine) → StaysInCode dec n s → IsUncut dec (recorded dec n s).edges s n
recorded_no_cut dec n s stays =
    subst (λ (kept : Kept). IsUncut dec kept.edges s n) (sym (recorded_run dec n s)) (with_run_uncut dec n s _ stays)

-- a run added to what stands in the code makes it plausible
with_run_plausible : (dec : Decoder) (x : Image) (input : Input) (n : ℕ) (kept : Kept) → HasHeap (start x input).mem (start x input).world → StaysInCode dec n (start x input) → StaysPlausible dec n x kept (with_run dec n (start x input) kept)
unfolding with_run
with_run_plausible dec x input n kept heap stays some fixed old =
    let s = start x input in
    let first = begun_first dec n s some refl stays in
    record {
      stands = with_run_stands dec x.loads n s kept heap (start_code x input fixed) old;
      entry_kept = has_node-with_nodes kept.nodes (begun dec n s) x.entry ∙ or_right (has_node kept.nodes x.entry) (has_node (begun dec n s) x.entry) first;
    }

-- the same of a state and a record that a trace began and ended with
pub traced_plausible : (dec : Decoder) (x : Image) (input : Input) (n : ℕ) (s : Machine) (old new : Kept) → HasHeap s.mem s.world → s ≡ start x input → new ≡ with_run dec n s old → StaysInCode dec n s → StaysPlausible dec n x old new
traced_plausible dec x input n s old new heap began added stays =
    let P : Machine → Type 0 = StaysInCode dec n in
    let H : Machine → Type 0 = λ t. HasHeap t.mem t.world in
    subst (StaysPlausible dec n x old) (sym (added ∙ ap (λ t. with_run dec n t old) began)) (with_run_plausible dec x input n old (subst H began heap) (subst P began stays))

pub traced_uncut : (dec : Decoder) (n : ℕ) (s t : Machine) (old new : Kept) → s ≡ t → new ≡ with_run dec n s old → StaysInCode dec n s → IsUncut dec new.edges t n
traced_uncut dec n s t old new began added stays =
    subst (λ (u : Machine). IsUncut dec new.edges u n) began (subst (λ (kept : Kept). IsUncut dec kept.edges s n) (sym added) (with_run_uncut dec n s old stays))
