-- Lists of the edges of nodes, as nodes and edges are added.
use Rattle.std.proofs.Common.{◌≡◌, ◌≢◌, ◌⊎◌, ◌+◌, ◌<◌, ◌==◌, ℕ, zero, suc, Bool, true, false, if◌then◌else◌, Option, Some, None, List, [], ◌∷◌, ◌++◌, All, length, filter, replicate, slice_get, inl, inr, ⊎_elim, refl, sym, ap, ◌∙◌, arith, eq-eqb, ne_eqb, nat_eq, append-nil, get_or-set_same, get_or-set_other, length-set, length-append, true≢false}
use Rattle.std.specs.List.{IsDistinct}
use Rattle.std.proofs.lemmas.Bool.{cases_eq}
use Rattle.std.proofs.lemmas.List.{length_push}
use Rattle.std.proofs.lemmas.List.Elements.{All-head, All-tail, All-weaker, All-push, All-map, All-filter}
use Rattle.std.proofs.lemmas.Option.{none-some, same_Some, slice_get_within}
use Rattle.rz_links.specs.declared.arena.Family.{Family}
use Rattle.rz_links.specs.declared.arena.Family.TheVariants.{Out, In}
use Rattle.rz_links.specs.Arena.{Arena, lists_of, with_empty_lists, with_node_at_back}
use Rattle.rz_links.specs.Lists.{IsNext, list_at, with_back}
use Rattle.rz_links.specs.Laws.Paths.{list_at-more}
use Rattle.rz_aset.specs.Sets.{has, has_edge, with_address, with_edge}
use Rattle.rz_aset.specs.Laws.Places.{has_at, same_place, with_address-keeps}
use Rattle.rz_flow.specs.Flow.{near, far, neighbours}
use Rattle.rz_flow.specs.Calls.Linked.{places, edges_at, HasLists, IsLinked}
use Rattle.rz_flow.proofs.Places.{places-push}

-- an item more: it stands last, and the others stay
item_more : (xs : List ℕ) (a i : ℕ) → (slice_get (xs ++ a ∷ []) i ≡ slice_get xs i) ⊎ ((slice_get (xs ++ a ∷ []) i ≡ Some a) × (slice_get xs i ≡ None))
item_more [] a zero = inr (refl, refl)
item_more [] a (suc i) = inl refl
item_more (x ∷ xs) a zero = inl refl
item_more (x ∷ xs) a (suc i) = item_more xs a i

module _ (f : Family) (nodes : List ℕ) where
  -- an address that is no node has no edges
  no_places : (a i : ℕ) (es : List (ℕ × ℕ)) → has nodes a ≡ false → All (λ e. has nodes (near f e) ≡ true) es → places (λ e. near f e == a) i es ≡ []
  no_places a i [] none h = refl
  no_places a i (e ∷ es) none h =
      let known = All-head (λ e. has nodes (near f e) ≡ true) e es h in
      let ne : near f e ≢ a = λ same. true≢false (sym known ∙ ap (has nodes) same ∙ none) in
      rw (ne_eqb (near f e) a ne) (no_places a (suc i) es none (All-tail (λ e. has nodes (near f e) ≡ true) e es h))

  -- more empty lists
  pub more_lists : (edges : List (ℕ × ℕ)) (lists : List (List ℕ)) (extra : ℕ) → HasLists f nodes edges lists → HasLists f nodes edges (lists ++ replicate extra [])
  more_lists edges lists extra h = record {
    size = omega (arith, h.size, length-append lists (replicate extra []));
    lists = λ i. list_at-more lists extra i ∙ h.lists i;
    ends = h.ends;
  }

  -- one node more
  pub more_nodes : (a : ℕ) (edges : List (ℕ × ℕ)) (lists : List (List ℕ)) → has nodes a ≡ false → length nodes < length lists → HasLists f nodes edges lists → HasLists f (nodes ++ a ∷ []) edges lists
  more_nodes a edges lists none room h = record {
    size = rw length_push (omega arith);
    lists = λ i. h.lists i ∙ ⊎_elim
        (λ same. ap (edges_at f edges) (sym same))
        (λ new. rw (new.0, new.1) (sym (no_places a 0 edges none h.ends)))
        (item_more nodes a i);
    ends = All-weaker (λ e. has nodes (near f e) ≡ true) (λ e. has (nodes ++ a ∷ []) (near f e) ≡ true) (λ e known. rw none at (with_address-keeps nodes a (near f e) known)) edges h.ends;
  }

  -- one edge more, at the back of the list of a node
  module _ (e : ℕ × ℕ) (i m : ℕ) (edges : List (ℕ × ℕ)) (lists : List (List ℕ)) (apart : IsDistinct nat_eq nodes) (here : slice_get nodes i ≡ Some (near f e)) (last : m ≡ length edges) where
    list_at-back : (l : ℕ) → i < length lists → list_at (with_back lists i m) l ≡ list_at lists l ++ (if i == l then m ∷ [] else [])
    list_at-back l lt =
        elim (cases_eq i l) [
          | inl same ↦ rw (← same, eq-eqb i i refl) (get_or-set_same lists i (list_at lists i ++ m ∷ []) [] lt)
          | inr ne ↦ rw (ne_eqb i l ne, append-nil) (get_or-set_other lists i l (list_at lists i ++ m ∷ []) [] (λ same. ne (sym same)))
        ]

    edges_at-back : (l : ℕ) → edges_at f (edges ++ e ∷ []) (slice_get nodes l) ≡ edges_at f edges (slice_get nodes l) ++ (if i == l then m ∷ [] else [])
    edges_at-back l = go (slice_get nodes l) refl
      where
        go : (o : Option ℕ) → slice_get nodes l ≡ o → edges_at f (edges ++ e ∷ []) o ≡ edges_at f edges o ++ (if i == l then m ∷ [] else [])
        go None s =
            let ne : i ≢ l = λ same. none-some (near f e) (sym s ∙ ap (slice_get nodes) (sym same) ∙ here) in
            rw (ne_eqb i l ne) refl
        go (Some b) s =
            let push = places-push (λ e. near f e == b) 0 m edges e (omega arith) in
            let test : (near f e == b) ≡ (i == l) = elim (cases_eq i l) [
              | inl same ↦ eq-eqb (near f e) b (same_Some (near f e) b (sym here ∙ ap (slice_get nodes) same ∙ s)) ∙ sym (eq-eqb i l same)
              | inr ne ↦ ne_eqb (near f e) b (λ same. ne (same_place nodes i l b apart (here ∙ ap Some same) s)) ∙ sym (ne_eqb i l ne)
            ] in
            push ∙ ap (λ (v : Bool). places (λ e. near f e == b) 0 edges ++ (if v then m ∷ [] else [])) test

    pub more_edges : i < length lists → HasLists f nodes edges lists → HasLists f nodes (edges ++ e ∷ []) (with_back lists i m)
    more_edges lt h = record {
      size = rw (length-set lists i (list_at lists i ++ m ∷ [])) h.size;
      lists = λ l. list_at-back l lt ∙ ap (λ xs. xs ++ (if i == l then m ∷ [] else [])) (h.lists l) ∙ sym (edges_at-back l);
      ends = All-push (λ e. has nodes (near f e) ≡ true) edges e h.ends (has_at nodes i (near f e) here);
    }

-- the other ends of the edges of a node are nodes
module _ (nodes : List ℕ) (edges : List (ℕ × ℕ)) (outs : All (λ e. has nodes (near Out e) ≡ true) edges) (ins : All (λ e. has nodes (near In e) ≡ true) edges) where
  pub ends_known : (f : Family) (a : ℕ) → All (λ b. has nodes b ≡ true) (neighbours f edges a)
  ends_known Out a = All-map (λ b. has nodes b ≡ true) (far Out) (filter (λ e. near Out e == a) edges) (All-filter (λ e. near Out e == a) (λ e. has nodes (near In e) ≡ true) edges ins)
  ends_known In a = All-map (λ b. has nodes b ≡ true) (far In) (filter (λ e. near In e == a) edges) (All-filter (λ e. near In e == a) (λ e. has nodes (near Out e) ≡ true) edges outs)

module _ (nodes : List ℕ) (edges : List (ℕ × ℕ)) (arena : Arena (ℕ × ℕ)) (x : IsLinked nodes edges arena) where
  pub linked_node : (a : ℕ) → has nodes a ≡ false → IsLinked (with_address nodes a) edges (with_empty_lists arena 1 1)
  linked_node a none = rw none (record {
    values = x.values;
    outs = more_nodes Out nodes a edges (arena.outs ++ [] ∷ []) none (let h = x.outs.size in rw length_push (omega arith)) (more_lists Out nodes edges arena.outs 1 x.outs);
    ins = more_nodes In nodes a edges (arena.ins ++ [] ∷ []) none (let h = x.ins.size in rw length_push (omega arith)) (more_lists In nodes edges arena.ins 1 x.ins);
  })

  -- the number of a node is below the number of lists of a family
  pub linked_within : (f : Family) (i a : ℕ) → slice_get nodes i ≡ Some a → i < length (lists_of arena f)
  linked_within Out i a at = omega (arith, slice_get_within nodes i a at, x.outs.size)
  linked_within In i a at = omega (arith, slice_get_within nodes i a at, x.ins.size)

  pub linked_edge : (a b i j spare : ℕ) → has_edge edges (a, b) ≡ false → IsDistinct nat_eq nodes → slice_get nodes i ≡ Some a → slice_get nodes j ≡ Some b → IsLinked nodes (with_edge edges (a, b)) (with_node_at_back (record arena { spare = spare }) (a, b) i j)
  linked_edge a b i j spare none apart at bt = rw none (record {
    values = ap (λ es. es ++ (a, b) ∷ []) x.values;
    outs = more_edges Out nodes (a, b) i (length arena.values) edges arena.outs apart at (ap length x.values) (linked_within Out i a at) x.outs;
    ins = more_edges In nodes (a, b) j (length arena.values) edges arena.ins apart bt (ap length x.values) (linked_within In j b bt) x.ins;
  })

  -- the list of a node has the places of its edges
  pub list_of : (f : Family) (i a : ℕ) → slice_get nodes i ≡ Some a → list_at (lists_of arena f) i ≡ places (λ e. near f e == a) 0 edges
  list_of Out i a at = x.outs.lists i ∙ ap (edges_at Out edges) at
  list_of In i a at = x.ins.lists i ∙ ap (edges_at In edges) at

  pub neighbours_known : (f : Family) (a : ℕ) → All (λ b. has nodes b ≡ true) (neighbours f edges a)
  neighbours_known = ends_known nodes edges x.outs.ends x.ins.ends

  -- what follows in the list of a node follows among those places
  pub next_place : (f : Family) (i a k m : ℕ) (next : Option ℕ) → slice_get nodes i ≡ Some a → IsNext (lists_of arena f) m next → slice_get (places (λ e. near f e == a) 0 edges) k ≡ Some m → next ≡ slice_get (places (λ e. near f e == a) 0 edges) (k + 1)
  next_place f i a k m next at h e =
      let list = list_of f i a at in
      h i k (ap (λ xs. slice_get xs k) list ∙ e) ∙ ap (λ xs. slice_get xs (k + 1)) list
