-- The runs on several inputs, one after another: what they record together, and how they end.
use Rattle.std.proofs.Common.{◌≡◌, true, ℕ, suc, ◌+◌, ◌<◌, ◌≤◌, List, [], ◌∷◌, fold, length, drop, get_or, inl, inr, sym, ap, ◌∙◌, subst, add-one, drop-cons, arith}
use Rattle.std.specs.Prelude.{Bool, ◌||◌}
use Rattle.std.proofs.lemmas.Bool.{or_left}
use Rattle.std.proofs.Math.Bool.{or-false, or_assoc}
use Rattle.std.proofs.lemmas.List.{drop_all}
use Rattle.std.specs.List.{AllByRecursion, list_any}
use Rattle.rz_sys.specs.declared.input.Input.{Input}
use Rattle.rz_elf.specs.Elf.{image_of}
use Rattle.rz_machine.specs.Kept.{Kept, Edges, has_edge, has_node}
use Rattle.rz_machine.specs.Begun.{begun, neighbours}
use Rattle.rz_machine.specs.Traced.{with_run}
use Rattle.rz_machine.specs.LeftCode.{StaysInCode}
use Rattle.rz_machine.specs.Recorded.{IsUncut}
use Rattle.rz_machine.specs.Nodes.{code_in, StandsIn}
use Rattle.rz_machine.specs.Laws.Sets.{has_edge-with_edges, has_node-with_nodes}
use Rattle.rz_machine.specs.Laws.Recorded.{HasRun, run_no_cut, ended_no_cut, with_run_has, nothing_stands}
use Rattle.rz_rewrite.specs.Rewritten.{CanRewrite}
use Rattle.rz_core.specs.Decoding.{decode_profile}
use Rattle.rz_core.specs.declared.status.Status.{Status}
use Rattle.rz_core.specs.declared.status.Status.TheVariants as status
use Rattle.rz_core.specs.Debloated.{traced, recorded_of, AllStay, LeavesFirst}
use Rattle.rz_core.specs.Calls.Making.{RunsRefusal, RunRefusal}

-- a record of nothing
abbrev pub nothing : Kept
nothing = record { nodes = []; edges = [] }

module _ (limit : ℕ) (x : List ℕ) where
  abbrev with_input : Kept → Input → Kept
  with_input kept input = with_run decode_profile limit (traced x input) kept

  -- what a run begins, and the neighbours in it
  abbrev pub run_nodes : Input → List ℕ
  run_nodes input = begun decode_profile limit (traced x input)

  abbrev pub run_edges : Input → Edges
  run_edges input = neighbours (run_nodes input)

  -- after some runs the record has what it had and what one of them used, and no more
  nodes_after : (inputs : List Input) (kept : Kept) (a : ℕ) → has_node (fold with_input kept inputs).nodes a ≡ (has_node kept.nodes a || list_any (λ input. has_node (run_nodes input) a) inputs)
  unfolding with_run
  nodes_after [] kept a = sym (or-false (has_node kept.nodes a))
  nodes_after (i ∷ is) kept a =
      let rest = list_any (λ (input : Input). has_node (run_nodes input) a) is in
      nodes_after is (with_input kept i) a ∙ ap (λ (has : Bool). has || rest) (has_node-with_nodes kept.nodes (run_nodes i) a) ∙ or_assoc (has_node kept.nodes a) (has_node (run_nodes i) a) rest

  edges_after : (inputs : List Input) (kept : Kept) (a b : ℕ) → has_edge (fold with_input kept inputs).edges a b ≡ (has_edge kept.edges a b || list_any (λ input. has_edge (run_edges input) a b) inputs)
  unfolding with_run
  edges_after [] kept a b = sym (or-false (has_edge kept.edges a b))
  edges_after (i ∷ is) kept a b =
      let rest = list_any (λ (input : Input). has_edge (run_edges input) a b) is in
      edges_after is (with_input kept i) a b ∙ ap (λ (has : Bool). has || rest) (has_edge-with_edges kept.edges (run_edges i) a b) ∙ or_assoc (has_edge kept.edges a b) (has_edge (run_edges i) a b) rest

  -- so the record of all inputs is the union of what their runs use
  pub union_nodes : (inputs : List Input) (a : ℕ) → has_node (recorded_of limit x inputs).nodes a ≡ list_any (λ input. has_node (run_nodes input) a) inputs
  union_nodes inputs a = nodes_after inputs nothing a

  pub union_edges : (inputs : List Input) (a b : ℕ) → has_edge (recorded_of limit x inputs).edges a b ≡ list_any (λ input. has_edge (run_edges input) a b) inputs
  union_edges inputs a b = edges_after inputs nothing a b

  -- a set of edges that has those of a run cuts it nowhere
  uncut_by : (input : Input) (edges : Edges) → StaysInCode decode_profile limit (traced x input) → HasRun decode_profile limit (traced x input) edges → IsUncut decode_profile edges (traced x input) limit
  uncut_by input edges stays has =
      record {
        before = run_no_cut decode_profile limit (traced x input) edges stays has;
        ended = λ why e. ended_no_cut decode_profile limit (traced x input) edges why e stays has;
      }

  -- so one that has all of the union of runs that stay in the code cuts none of them
  module _ (edges : Edges) where
    abbrev HasAll : Edges → Type 0
    HasAll few = (a b : ℕ) → has_edge few a b ≡ true → has_edge edges a b ≡ true

    uncut_from : (inputs : List Input) (kept : Kept) → HasAll (fold with_input kept inputs).edges → AllStay limit x inputs
        → AllByRecursion (λ input. IsUncut decode_profile edges (traced x input) limit) inputs
    uncut_from [] kept has all = tt
    uncut_from (i ∷ is) kept has all = (
      uncut_by i edges all.0 (λ a b h. has a b (edges_after is (with_input kept i) a b ∙ or_left (has_edge (with_input kept i).edges a b) _ (with_run_has decode_profile limit (traced x i) kept a b h))),
      uncut_from is (with_input kept i) has all.1,
    )

    pub all_uncut : (inputs : List Input) → ((a b : ℕ) → has_edge (recorded_of limit x inputs).edges a b ≡ true → has_edge edges a b ≡ true) → AllStay limit x inputs
        → AllByRecursion (λ input. IsUncut decode_profile edges (traced x input) limit) inputs
    all_uncut inputs has all = uncut_from inputs nothing has all

  -- the runs on the first k inputs stayed in the code and are recorded, and the rest is to come
  pub record Unites (k : ℕ) (rest inputs : List Input) (kept : Kept) : Type 0 where
    pub union : fold (λ kept input. with_run decode_profile limit (traced x input) kept) kept rest ≡ recorded_of limit x inputs
    pub stay : AllStay limit x rest → AllStay limit x inputs
    pub leaves : (n a : ℕ) → LeavesFirst limit x (suc k) rest n a → LeavesFirst limit x 1 inputs n a
    pub stands : StandsIn decode_profile (code_in (image_of x).loads) kept
    pub plausible : 1 ≤ k → CanRewrite decode_profile (image_of x) kept

  pub unites_none : (inputs : List Input) (kept : Kept) → kept ≡ nothing → Unites 0 inputs inputs kept
  unites_none inputs kept e =
      record {
        union = ap (λ (k : Kept). fold with_input k inputs) e;
        stay = λ h. h;
        leaves = λ n a h. h;
        stands = subst (StandsIn decode_profile (code_in (image_of x).loads)) (sym e) (nothing_stands decode_profile (code_in (image_of x).loads));
        plausible = λ some. absurd (omega (arith, some));
      }

  module _ (inputs : List Input) (k : ℕ) (input : Input) (inside : k < length inputs) (is : input ≡ get_or inputs k input) where
    pub splits : drop k inputs ≡ input ∷ drop (k + 1) inputs
    splits = rw (add-one, drop-cons inputs k input inside) (ap (λ (e : Input). e ∷ drop (suc k) inputs) (sym is))

    pub unites_more : (old new : Kept) → Unites k (drop k inputs) inputs old → new ≡ with_run decode_profile limit (traced x input) old
        → StaysInCode decode_profile limit (traced x input)
        → (StandsIn decode_profile (code_in (image_of x).loads) old → CanRewrite decode_profile (image_of x) new)
        → Unites (k + 1) (drop (k + 1) inputs) inputs new
    unites_more old new so added stays can =
        let before : Unites k (input ∷ drop (k + 1) inputs) inputs old = subst (λ (l : List Input). Unites k l inputs old) splits so in
        let able : CanRewrite decode_profile (image_of x) new = can before.stands in
        record {
          union = ap (λ (r : Kept). fold with_input r (drop (k + 1) inputs)) added ∙ before.union;
          stay = λ rest. before.stay (stays, rest);
          leaves = λ n a h. before.leaves n a (inr (stays, subst (λ (j : ℕ). LeavesFirst limit x (suc j) (drop (k + 1) inputs) n a) (add-one k) h));
          stands = able.stands;
          plausible = λ some. able;
        }

    -- the refusal of a run, where those before it stayed
    pub unites_not : (old : Kept) (st : Status) → Unites k (drop k inputs) inputs old → RunRefusal (k + 1) limit x input st → RunsRefusal limit x inputs st
    unites_not old (status.LeftCode n a) so h =
        let before : Unites k (input ∷ drop (k + 1) inputs) inputs old = subst (λ (l : List Input). Unites k l inputs old) splits so in
        before.leaves n a (inl (h.0 ∙ add-one k, h.1))
    unites_not old status.OutOfMemory so h = tt
    unites_not old _ so h = absurd h

  -- at the end
  pub unites_all : (inputs : List Input) (k : ℕ) (kept : Kept) → length inputs ≤ k → Unites k (drop k inputs) inputs kept → Unites k [] inputs kept
  unites_all inputs k kept past so = subst (λ (l : List Input). Unites k l inputs kept) (drop_all k inputs past) so
