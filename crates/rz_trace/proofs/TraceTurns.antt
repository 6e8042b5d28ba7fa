-- One more step of a run that is traced.
use Rattle.std.proofs.Common.{◌≡◌, ℕ, zero, suc, ◌+◌, ◌≤◌, Bool, true, false, if◌then◌else◌, List, [], ◌∷◌, ◌++◌, Option, Some, None, is_some, Result, Ok, Err, IfErr, refl, sym, ap, ap₂, ◌∙◌, subst, arith, add-one}
use Rattle.std.proofs.lemmas.List.{append_assoc, append-nil}
use Rattle.std.proofs.lemmas.List.Sums.{fold-append}
use Rattle.std.specs.Result.{IsErrAnd}
use Rattle.rz_machine.specs.declared.machine.End.{End}
use Rattle.rz_machine.specs.declared.machine.Machine.{Machine}
use Rattle.rz_machine.specs.Kept.{Kept, with_nodes, with_edges}
use Rattle.rz_aset.specs.Sets.{with_address, with_edge}
use Rattle.rz_trace.specs.declared.tracer.TraceRefusal.{TraceRefusal}
use Rattle.rz_trace.specs.declared.tracer.TraceRefusal.TheVariants as refusal
use Rattle.rz_isa.specs.Nodes.{Decoder}
use Rattle.rz_machine.specs.State.{step, after, decoded_at}
use Rattle.rz_machine.specs.Begun.{begun_by, begun_at, begun, neighbours}
use Rattle.rz_machine.specs.LeftCode.{left_at}
use Rattle.rz_machine.specs.Traced.{with_run}
use Rattle.rz_trace.specs.Traced.{HasPart, IsRefused}
use Rattle.rz_trace.specs.Calls.Begun.{edge_from, with_begun}
use Rattle.rz_trace.specs.Calls.Followed.{last_of, Followed}
use Rattle.rz_trace.specs.Calls.Memo.{Knows}
use Rattle.rz_trace.specs.declared.memo.Memo.{Memo}
use Rattle.rz_machine.specs.Until.{least, steps_until, has_ended, steps_made}
use Rattle.rz_machine.specs.Laws.Trace.{begins, begins_nothing, begun_none}

last_of-push : (xs : List ℕ) (a : ℕ) → last_of (xs ++ a ∷ []) ≡ Some a
last_of-push [] a = refl
last_of-push (x ∷ []) a = refl
last_of-push (x ∷ y ∷ rest) a = last_of-push (y ∷ rest) a

neighbours-push : (xs : List ℕ) (a : ℕ) → neighbours (xs ++ a ∷ []) ≡ neighbours xs ++ edge_from (last_of xs) a
neighbours-push [] a = refl
neighbours-push (x ∷ []) a = refl
neighbours-push (x ∷ y ∷ rest) a = ap (λ l. (x, y) ∷ l) (neighbours-push (y ∷ rest) a)

-- the first n steps and one more
pub begun_suc : (dec : Decoder) (n : ℕ) (s : Machine) → begun dec (suc n) s ≡ begun dec n s ++ begun_at dec (after dec n s)
unfolding begun after
begun_suc dec zero s = append-nil (begun_at dec s)
begun_suc dec (suc n) s = ap (λ l. begun_at dec s ++ l) (begun_suc dec n (step dec s)) ∙ sym (append_assoc (begun_at dec s) (begun dec n (step dec s)) (begun_at dec (after dec n (step dec s))))

with_run_turn : (dec : Decoder) (i : ℕ) (s : Machine) (kept : Kept) (at : ℕ) → begun_at dec (after dec i s) ≡ at ∷ [] → with_begun (with_run dec i s kept) (last_of (begun dec i s)) at ≡ with_run dec (suc i) s kept
unfolding with_run
with_run_turn dec i s kept at h =
    let list = begun dec i s in
    let more : begun dec (suc i) s ≡ list ++ at ∷ [] = begun_suc dec i s ∙ ap (λ l. list ++ l) h in
    let nodes : with_nodes kept.nodes (list ++ at ∷ []) ≡ with_address (with_nodes kept.nodes list) at = fold-append with_address kept.nodes list (at ∷ []) in
    let edges : with_edges kept.edges (neighbours (list ++ at ∷ [])) ≡ with_edges (with_edges kept.edges (neighbours list)) (edge_from (last_of list) at) =
    ap (with_edges kept.edges) (neighbours-push list at) ∙ fold-append with_edge kept.edges (neighbours list) (edge_from (last_of list) at) in
    let P : List ℕ → Kept = λ l. record { nodes = with_nodes kept.nodes l; edges = with_edges kept.edges (neighbours l) } in
    ap₂ (λ (ns : List ℕ) (es : List (ℕ × ℕ)). let r : Kept = record { nodes = ns; edges = es } in r) (sym nodes) (sym edges) ∙ ap P (sym more)

some_of : (o : Option End) → is_some o ≡ true → (why : End) × (o ≡ Some why)
some_of None h = cc
some_of (Some why) h = (why, refl)

none_of : (o : Option End) → is_some o ≡ false → o ≡ None
none_of None h = refl
none_of (Some why) h = cc

-- one step that begins nothing
run_same : (dec : Decoder) (i : ℕ) (s : Machine) (old : Kept) → begun_at dec (after dec i s) ≡ [] → (begun dec (suc i) s ≡ begun dec i s) × (with_run dec i s old ≡ with_run dec (suc i) s old)
unfolding with_run
run_same dec i s old none =
    let same : begun dec (suc i) s ≡ begun dec i s = begun_suc dec i s ∙ ap (λ l. begun dec i s ++ l) none ∙ append-nil (begun dec i s) in
    (same, ap (λ l. record { nodes = with_nodes old.nodes l; edges = with_edges old.edges (neighbours l) }) (sym same))

-- the steps up to the end begin what the whole run begins
begun_next : (dec : Decoder) (n m : ℕ) (s : Machine) (b : Bool) → has_ended s ≡ b → begun dec m (step dec s) ≡ begun dec n (step dec s) → begun dec (if b then 0 else suc m) s ≡ begun dec (suc n) s
unfolding begun
begun_next dec n m s true h rest = sym (begun_none dec (suc n) s (none_begun (some_of s.end h)))
  where
    none_begun : (why : End) × (s.end ≡ Some why) → begun_at dec s ≡ []
    none_begun found = ap (λ o. begun_by o (decoded_at dec s) s.cpu.rip) found.1
begun_next dec n m s false h rest = ap (λ l. begun_at dec s ++ l) rest

begun_whole : (dec : Decoder) (n : ℕ) (s : Machine) → begun dec (steps_made dec n s) s ≡ begun dec n s
unfolding steps_until after begun
begun_whole dec zero s = refl
begun_whole dec (suc n) s =
    begun_next dec n (least (λ k. has_ended (after dec k (step dec s))) n) s (has_ended s) refl (begun_whole dec n (step dec s))

-- so they add to a record what the whole run adds
pub run_whole : (dec : Decoder) (n k : ℕ) (s : Machine) (old kept : Kept) → k ≡ steps_made dec n s → kept ≡ with_run dec k s old → kept ≡ with_run dec n s old
unfolding with_run
run_whole dec n k s old kept made holds =
    let same : begun dec k s ≡ begun dec n s = ap (λ j. begun dec j s) made ∙ begun_whole dec n s in
    holds ∙ ap (λ l. record { nodes = with_nodes old.nodes l; edges = with_edges old.edges (neighbours l) }) same

pub Followed-start : (dec : Decoder) (s : Machine) (old : Kept) (memo : Memo) → Knows old memo → Followed dec 0 s old old memo None
unfolding after with_run begun
Followed-start dec s old memo knows = record { holds = refl; before = refl; knows = knows }

-- want of memory refuses with a part of the run
pub no_memory : {A : Type 0} (dec : Decoder) (n : ℕ) (s : Machine) (old new : Kept) (r : Result A TraceRefusal) → IsErrAnd r (λ e. e ≡ refusal.OutOfMemory) → HasPart dec n s old new → IfErr r (IsRefused dec n s old new)
no_memory dec n s old new (Ok a) h part = tt
no_memory dec n s old new (Err e) h part = subst (IsRefused dec n s old new) (sym h) part

-- where there is no memory for the start
pub HasPart-nothing : (dec : Decoder) (n : ℕ) (s : Machine) (old : Kept) → HasPart dec n s old old
unfolding begun
HasPart-nothing dec n s old = record { node_steps = 0; edge_steps = 0; few = (omega arith, omega arith); nodes = refl; edges = refl }

-- a part of fewer steps
pub HasPart-more : (dec : Decoder) (m n : ℕ) (s : Machine) (old new : Kept) → m ≤ n → HasPart dec m s old new → HasPart dec n s old new
HasPart-more dec m n s old new le part =
    record { node_steps = part.node_steps; edge_steps = part.edge_steps; few = (omega (arith, le, part.few.0), omega (arith, le, part.few.1)); nodes = part.nodes; edges = part.edges }

module _ (dec : Decoder) (i : ℕ) (s : Machine) (old kept : Kept) (memo : Memo) (last : Option ℕ) (f : Followed dec i s old kept memo last) where
  -- where there is no memory
  pub Followed-part : (n : ℕ) (new : Kept) → i ≤ n → new.nodes ≡ kept.nodes → new.edges ≡ kept.edges → HasPart dec n s old new
  unfolding with_run
  Followed-part n new le nodes edges =
      record { node_steps = i; edge_steps = i; few = (le, le); nodes = nodes ∙ ap (λ r. r.nodes) f.holds; edges = edges ∙ ap (λ r. r.edges) f.holds }

  module _ (next : Machine) (running : has_ended (after dec i s) ≡ false) (stepped : next ≡ step dec (after dec i s)) where
    -- where the next step leaves the code
    pub Followed-left : (a : ℕ) → left_at next.end ≡ Some a → Followed dec (i + 1) s old kept memo last
    Followed-left a left =
        let stops : left_at (step dec (after dec i s)).end ≡ Some a = ap (λ t. left_at t.end) (sym stepped) ∙ left in
        let same = run_same dec i s old (begins_nothing dec (after dec i s) a (none_of (after dec i s).end running) stops) in
        rw add-one (record { holds = f.holds ∙ same.1; before = f.before ∙ ap last_of (sym same.0); knows = f.knows })

    module _ (stays : left_at next.end ≡ None) (at : ℕ) (rip : at ≡ (after dec i s).cpu.rip) where
      begun_here : begun_at dec (after dec i s) ≡ at ∷ []
      begun_here =
          begins dec (after dec i s) (none_of (after dec i s).end running) (ap (λ t. left_at t.end) (sym stepped) ∙ stays) ∙ ap (λ a. a ∷ []) (sym rip)

      holds_more : with_begun kept last at ≡ with_run dec (suc i) s old
      holds_more = ap₂ (λ r l. with_begun r l at) f.holds f.before ∙ with_run_turn dec i s old at begun_here

      -- where the next step begins an instruction
      pub Followed-turn : (new : Kept) (more : Memo) → new ≡ with_begun kept last at → Knows new more → Followed dec (i + 1) s old new more (Some at)
      Followed-turn new more added knows =
          rw add-one (record {
            holds = added ∙ holds_more;
            before = sym (ap last_of (begun_suc dec i s ∙ ap (λ l. begun dec i s ++ l) begun_here) ∙ last_of-push (begun dec i s) at);
            knows = knows;
          })

      -- where there is memory for its node, but not for its edge
      pub Followed-node : (new : Kept) → new.nodes ≡ with_address kept.nodes at → new.edges ≡ kept.edges → HasPart dec (i + 1) s old new
      unfolding with_run
      Followed-node new nodes edges =
          record { node_steps = suc i; edge_steps = i; few = (omega arith, omega arith); nodes = nodes ∙ ap (λ r. r.nodes) holds_more; edges = edges ∙ ap (λ r. r.edges) f.holds }
