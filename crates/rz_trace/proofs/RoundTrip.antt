-- A printed record is read back in ascending order.
use Rattle.std.proofs.Common.{◌≡◌, ℕ, suc, ◌+◌, ◌^◌, ◌<◌, ◌≤◌, ◌==◌, ◌&&◌, ◌||◌, Bool, true, false, List, [], ◌∷◌, ◌++◌, length, map, nat_eq, nat_lt, Option, Some, None, append-nil, append_assoc, refl, sym, ap, subst, ◌∙◌, arith}
use Rattle.std.specs.Prelude.{IsSorted, fold}
use Rattle.std.specs.Ordering.{nat_cmp, is_lt}
use Rattle.std.specs.List.{All, AllByRecursion, IsDistinct, enumerate_from, list_any, last_or}
use Rattle.std.proofs.lemmas.Bool.{le-ltb}
use Rattle.std.proofs.lemmas.List.Folds.{list_any-append}
use Rattle.rz_text.specs.Lines.{Line, lines, lines_from}
use Rattle.rz_text.specs.Fault.{first_fault}
use Rattle.rz_text.specs.Laws.Lines.{lines-ended}
use Rattle.rz_aset.specs.declared.kept.Record.{Record}
use Rattle.rz_aset.specs.Sets.{edge_cmp, has, has_edge, is_same_edge, with_address, with_edge}
use Rattle.rz_trace.specs.declared.entry.Entry.{Entry}
use Rattle.rz_trace.specs.declared.file.TraceFile.{TraceFile}
use Rattle.rz_trace.specs.declared.entry.Entry.TheVariants.{Begin, Profile, Node, Edge, End}
use Rattle.rz_trace.specs.Order.{edge_follows, end_follows, fits, node_follows}
use Rattle.rz_trace.specs.Value.{entries, no_file, file_from, file_of, record_of, with_entry}
use Rattle.rz_trace.specs.Fault.{end_fault, fault_behind, fault_of, fault_of_line, last_entry}
use Rattle.rz_trace.specs.Printed.{ReadsBack, entries_of, entry_line, text_of}
use Rattle.rz_trace.proofs.ReadLaws.{entries-more, last_or-more, file_from-some}
use Rattle.std.specs.List.Sorted.{IsPermutation}
use Rattle.std.specs.Prelude.{slice_index}
use Rattle.std.proofs.lemmas.List.Sorted.{list_any-IsPermutation, All-permutation}
use Rattle.std.proofs.lemmas.List.Elements.{recursion_from_All, All-from_recursion}
use Rattle.std.proofs.lemmas.Map.Keys.{IsDistinct-IsPermutation}
use Rattle.rz_aset.specs.Laws.Places.{All_at}
use Rattle.rz_trace.proofs.Readable.{IsPrintable, entry_of-line, no_end-line}

-- each entry fits behind those before it, and together they make a file
abbrev Chain : TraceFile → Option Entry → List Entry → TraceFile → Type 0
Chain file last [] final = file ≡ final
Chain file last (e ∷ es) final = (fits file.rec last e ≡ true) × Chain (with_entry file e) (Some e) es final

chain_value : (file : TraceFile) (last : Option Entry) (es : List Entry) (final : TraceFile) → Chain file last es final → fold with_entry file es ≡ final
chain_value file last [] final h = h
chain_value file last (e ∷ es) final h = chain_value (with_entry file e) (Some e) es final h.1

-- ---- printed lines have no fault

entries_printed : (n : ℕ) (es : List Entry) → AllByRecursion IsPrintable es → entries (enumerate_from n (map entry_line es)) ≡ es
entries_printed n [] h = refl
entries_printed n (e ∷ es) h = rw (entry_of-line e h.0) (ap (λ (xs : List Entry). e ∷ xs) (entries_printed (n + 1) es h.1))

step : (earlier : List Line) (line : Line) (rest : List Line) → fault_of_line earlier line ≡ None
    → first_fault fault_of_line (earlier ++ line ∷ []) rest ≡ None → first_fault fault_of_line earlier (line ∷ rest) ≡ None
step earlier line rest here later = rw here later

no_fault : (earlier : List Line) (n : ℕ) (es : List Entry) (file : TraceFile) (last : Option Entry) (final : TraceFile) → AllByRecursion IsPrintable es
    → file_from (entries earlier) ≡ file → last_entry earlier ≡ last → Chain file last es final
    → first_fault fault_of_line earlier (enumerate_from n (map entry_line es)) ≡ None
no_fault earlier n [] file last final h k l chain = refl
no_fault earlier n (e ∷ es) file last final h k l chain =
    let line : Line = (n, entry_line e) in
    let said = entry_of-line e h.0 in
    let good = chain.0 in
    let fine : fault_behind file.rec last n (Some e) ≡ None = rw good refl in
    let here : fault_of_line earlier line ≡ None = rw (k, l, said) fine in
    let more = entries-more earlier line in
    let value : file_from (entries (earlier ++ line ∷ [])) ≡ with_entry file e =
    ap file_from more ∙ file_from-some (entries earlier) _ ∙ rw (k, said) refl in
    let ends : last_entry (earlier ++ line ∷ []) ≡ Some e = ap (last_or None) more ∙ rw said (last_or-more None (entries earlier) e) in
    step earlier line (enumerate_from (n + 1) (map entry_line es)) here (no_fault (earlier ++ line ∷ []) (n + 1) es (with_entry file e) (Some e) final h.1 value ends chain.1)

-- ---- members of ascending lists are new

module _ {X : Type 0} (E : X → X → Bool) where
  -- each of a list is new behind others
  abbrev pub Fresh : List X → List X → Type 0
  Fresh done xs = AllByRecursion (λ y. list_any (λ z. E z y) done ≡ false) xs × IsDistinct E xs

  none_more : (done : List X) (x : X) (xs : List X) → AllByRecursion (λ y. list_any (λ z. E z y) done ≡ false) xs → AllByRecursion (λ y. E x y ≡ false) xs
      → AllByRecursion (λ y. list_any (λ z. E z y) (done ++ x ∷ []) ≡ false) xs
  none_more done x [] h k = tt
  none_more done x (y ∷ ys) h k =
      (list_any-append (λ z. E z y) done (x ∷ []) ∙ rw (h.0, k.0) refl, none_more done x ys h.1 k.1)

  pub Fresh-more : (done : List X) (x : X) (xs : List X) → Fresh done (x ∷ xs) → Fresh (done ++ x ∷ []) xs
  unfolding IsDistinct
  Fresh-more done x xs h = (none_more done x xs h.0.1 h.1.0, h.1.1)

  none_before : (xs : List X) → AllByRecursion (λ y. list_any (λ z. E z y) [] ≡ false) xs
  none_before [] = tt
  none_before (x ∷ xs) = (refl, none_before xs)

  pub Fresh-start : (xs : List X) → IsDistinct E xs → Fresh [] xs
  Fresh-start xs h = (none_before xs, h)

nat_eq-flips : (x y : ℕ) → nat_eq x y ≡ nat_eq y x
nat_eq-flips x y = grind arith

same_edge-flips : (x y : ℕ × ℕ) → is_same_edge x y ≡ is_same_edge y x
same_edge-flips x y = let a = nat_eq-flips x.0 y.0 in let b = nat_eq-flips x.1 y.1 in rw (a, b) refl

-- ---- ascending lists fit

abbrev NodesFit : Option Entry → List ℕ → Type 0
NodesFit last [] = Unit {0}
NodesFit last (x ∷ xs) = (node_follows last x ≡ true) × NodesFit (Some (Node x)) xs

abbrev EdgesFit : Option Entry → List (ℕ × ℕ) → Type 0
EdgesFit last [] = Unit {0}
EdgesFit last (y ∷ ys) = (edge_follows last y.0 y.1 ≡ true) × EdgesFit (Some (Edge y.0 y.1)) ys

sorted_first : {X : Type 0} (cmp : X → X → _) (x y : X) (xs : List X) → IsSorted cmp (x ∷ y ∷ xs) → is_lt (cmp y x) ≡ false
sorted_first cmp x y xs h = h 0 x (omega arith) (omega arith)

sorted_tail : {X : Type 0} (cmp : X → X → _) (x : X) (xs : List X) → IsSorted cmp (x ∷ xs) → IsSorted cmp xs
sorted_tail cmp x xs h = λ k d low below.
    let next : suc k + 1 ≡ suc (k + 1) = omega arith in
    rw next at (h (suc k) d (omega arith) (omega arith))

node_above : (x y : ℕ) → is_lt (nat_cmp y x) ≡ false → nat_eq x y ≡ false → nat_lt x y ≡ true
node_above x y h e = grind arith

edge_above : (a b c d : ℕ) → is_lt (edge_cmp (c, d) (a, b)) ≡ false → is_same_edge (a, b) (c, d) ≡ false → (nat_lt a c || a == c && nat_lt b d) ≡ true
edge_above a b c d h e = grind arith

nodes_rise : (x : ℕ) (xs : List ℕ) → IsSorted nat_cmp (x ∷ xs) → IsDistinct nat_eq (x ∷ xs) → NodesFit (Some (Node x)) xs
unfolding IsDistinct
nodes_rise x [] s d = tt
nodes_rise x (y ∷ ys) s d = (node_above x y (sorted_first nat_cmp x y ys s) d.0.0, nodes_rise y ys (sorted_tail nat_cmp x (y ∷ ys) s) d.1)

edges_rise : (x : ℕ × ℕ) (xs : List (ℕ × ℕ)) → IsSorted edge_cmp (x ∷ xs) → IsDistinct is_same_edge (x ∷ xs) → EdgesFit (Some (Edge x.0 x.1)) xs
unfolding IsDistinct
edges_rise x [] s d = tt
edges_rise x (y ∷ ys) s d =
    (edge_above x.0 x.1 y.0 y.1 (sorted_first edge_cmp x y ys s) d.0.0, edges_rise y ys (sorted_tail edge_cmp x (y ∷ ys) s) d.1)

nodes_fit : (xs : List ℕ) → IsSorted nat_cmp xs → IsDistinct nat_eq xs → NodesFit (Some (Profile 2)) xs
nodes_fit [] s d = tt
nodes_fit (x ∷ xs) s d = (refl, nodes_rise x xs s d)

-- the profile or a node
abbrev IsEarly : Option Entry → Type 0
IsEarly (Some (Profile profile)) = Unit {0}
IsEarly (Some (Node at)) = Unit {0}
IsEarly _ = ⊥

edge_early : (last : Option Entry) (from to : ℕ) → IsEarly last → edge_follows last from to ≡ true
edge_early (Some (Profile profile)) from to h = refl
edge_early (Some (Begin version)) from to h = absurd h
edge_early (Some (Node at)) from to h = refl
edge_early (Some (Edge a b)) from to h = absurd h
edge_early (Some End) from to h = absurd h
edge_early None from to h = absurd h

end_early : (last : Option Entry) → IsEarly last → end_follows last ≡ true
end_early (Some (Profile profile)) h = refl
end_early (Some (Begin version)) h = absurd h
end_early (Some (Node at)) h = refl
end_early (Some (Edge a b)) h = refl
end_early (Some End) h = absurd h
end_early None h = absurd h

edges_fit : (last : Option Entry) (xs : List (ℕ × ℕ)) → IsEarly last → IsSorted edge_cmp xs → IsDistinct is_same_edge xs → EdgesFit last xs
edges_fit last [] early s d = tt
edges_fit last (x ∷ xs) early s d = (edge_early last x.0 x.1 early, edges_rise x xs s d)

-- ---- the chain of a file

abbrev pub file_with : List ℕ → List (ℕ × ℕ) → TraceFile
file_with nodes edges = record { profile = 2; rec = record { nodes = nodes; edges = edges } }

node_new : (done : List ℕ) (x : ℕ) → has done x ≡ false → with_address done x ≡ done ++ x ∷ []
node_new done x h = rw h refl

edge_new : (done : List (ℕ × ℕ)) (x : ℕ × ℕ) → has_edge done x ≡ false → with_edge done x ≡ done ++ x ∷ []
edge_new done x h = rw h refl

chain_nodes : (xs done : List ℕ) (last : Option Entry) (rest : List Entry) (final : TraceFile) → NodesFit last xs → Fresh nat_eq done xs → IsEarly last
    → ((l : Option Entry) → IsEarly l → Chain (file_with (done ++ xs) []) l rest final)
    → Chain (file_with done []) last (map (λ at. Node at) xs ++ rest) final
chain_nodes [] done last rest final fit fresh early next = rw (append-nil done) at (next last early)
chain_nodes (x ∷ xs) done last rest final fit fresh early next =
    let new = node_new done x fresh.0.0 in (
      fit.0,
      rw new (chain_nodes xs (done ++ x ∷ []) (Some (Node x)) rest final fit.1 (Fresh-more nat_eq done x xs fresh) tt
          (λ l e. rw (append_assoc done (x ∷ []) xs) (next l e))),
    )

abbrev pub HasBoth : List ℕ → ℕ × ℕ → Type 0
HasBoth nodes edge = (has nodes edge.0 ≡ true) × (has nodes edge.1 ≡ true)

chain_edges : (nodes : List ℕ) (ys done : List (ℕ × ℕ)) (last : Option Entry) → EdgesFit last ys → Fresh is_same_edge done ys
    → AllByRecursion (HasBoth nodes) ys → end_follows last ≡ true
    → Chain (file_with nodes done) last (map (λ edge. Edge edge.0 edge.1) ys ++ End ∷ []) (file_with nodes (done ++ ys))
chain_edges nodes [] done last fit fresh ends over = (over, ap (file_with nodes) (sym (append-nil done)))
chain_edges nodes (y ∷ ys) done last fit fresh ends over =
    let new = edge_new done y fresh.0.0 in
    let follows = fit.0 in
    let from = ends.0.0 in
    let to = ends.0.1 in
    (rw (follows, from, to) refl, rw new (rw (append_assoc done (y ∷ []) ys) at (chain_edges nodes ys (done ++ y ∷ []) (Some (Edge y.0 y.1)) fit.1 (Fresh-more is_same_edge done y ys fresh) ends.1 refl)))

chain_all : (nodes : List ℕ) (edges : List (ℕ × ℕ)) → IsSorted nat_cmp nodes → IsDistinct nat_eq nodes → IsSorted edge_cmp edges → IsDistinct is_same_edge edges
    → AllByRecursion (HasBoth nodes) edges → Chain no_file None (entries_of nodes edges) (file_with nodes edges)
chain_all nodes edges s d t e ends = (
  refl,
  (
    refl,
    chain_nodes nodes [] (Some (Profile 2)) (map (λ (edge : ℕ × ℕ). Edge edge.0 edge.1) edges ++ End ∷ []) (file_with nodes edges) (nodes_fit nodes s d) (Fresh-start nat_eq nodes d) tt
        (λ l early. chain_edges nodes edges [] l (edges_fit l edges early t e) (Fresh-start is_same_edge edges e) ends (end_early l early)),
  ),
)

-- ---- the round trip

IsPrintable-nodes : (nodes : List ℕ) (rest : List Entry) → AllByRecursion (λ a. a < 2 ^ 64) nodes → AllByRecursion IsPrintable rest
    → AllByRecursion IsPrintable (map (λ at. Node at) nodes ++ rest)
IsPrintable-nodes [] rest h k = k
IsPrintable-nodes (x ∷ xs) rest h k = (h.0, IsPrintable-nodes xs rest h.1 k)

IsPrintable-edges : (nodes : List ℕ) (edges : List (ℕ × ℕ)) → All (λ a. a < 2 ^ 64) nodes → AllByRecursion (HasBoth nodes) edges
    → AllByRecursion IsPrintable (map (λ edge. Edge edge.0 edge.1) edges ++ End ∷ [])
IsPrintable-edges nodes [] h k = (tt, tt)
IsPrintable-edges nodes (y ∷ ys) h k =
    ((All_at (λ a. a < 2 ^ 64) nodes y.0 h k.0.0, All_at (λ a. a < 2 ^ 64) nodes y.1 h k.0.1), IsPrintable-edges nodes ys h k.1)

no_ends : (es : List Entry) → AllByRecursion IsPrintable es → AllByRecursion (λ e. All (λ b. (b == 10) ≡ false) (entry_line e)) es
no_ends [] h = tt
no_ends (e ∷ es) h = (no_end-line e h.0, no_ends es h.1)

last_of : (nodes : List ℕ) (edges : List (ℕ × ℕ)) → last_or None (entries_of nodes edges) ≡ Some End
last_of nodes edges =
    let ns = map (λ (at : ℕ). Node at) nodes in
    let es = map (λ (edge : ℕ × ℕ). Edge edge.0 edge.1) edges in
    ap (λ (all : List Entry). last_or None (Begin 2 ∷ Profile 2 ∷ all)) (sym (append_assoc ns es (End ∷ []))) ∙ last_or-more None (Begin 2 ∷ Profile 2 ∷ (ns ++ es)) End

-- what is read of the text of ascending lists
pub record IsTextOf (text : List ℕ) (nodes : List ℕ) (edges : List (ℕ × ℕ)) : Type 0 where
  pub sound : fault_of text ≡ None
  pub value : file_of text ≡ file_with nodes edges

text_read : (nodes : List ℕ) (edges : List (ℕ × ℕ)) (text : List ℕ) → text ≡ text_of nodes edges → IsSorted nat_cmp nodes → IsDistinct nat_eq nodes → IsSorted edge_cmp edges → IsDistinct is_same_edge edges
    → AllByRecursion (λ a. a < 2 ^ 64) nodes → AllByRecursion (HasBoth nodes) edges → length text ≤ 16777216 → IsTextOf text nodes edges
text_read nodes edges text e s d t f small ends short =
    let es = entries_of nodes edges in
    let good : AllByRecursion IsPrintable es = (refl, (refl, IsPrintable-nodes nodes _ small (IsPrintable-edges nodes edges (All-from_recursion (λ a. a < 2 ^ 64) nodes small) ends))) in
    let all : lines text ≡ map entry_line es = ap lines e ∙ lines-ended entry_line es (no_ends es good) in
    let numbered : lines_from 1 text ≡ enumerate_from 1 (map entry_line es) = ap (enumerate_from 1) all in
    let said = entries_printed 1 es good in
    let chain = chain_all nodes edges s d t f ends in
    let test : nat_lt 16777216 (length text) ≡ false = le-ltb 16777216 (length text) short in
    let first = no_fault [] 1 es no_file None (file_with nodes edges) good refl refl chain in
    let last : last_entry (enumerate_from 1 (map entry_line es)) ≡ Some End = ap (last_or None) said ∙ last_of nodes edges in
    let over : end_fault (enumerate_from 1 (map entry_line es)) ≡ None = rw last refl in
    record {
      sound = rw (test, numbered, first, over) refl;
      value = ap (λ (ls : List Line). file_from (entries ls)) numbered ∙ ap file_from said ∙ chain_value no_file None es (file_with nodes edges) chain;
    }

pub words_small : (xs : List ℕ) → ((i : ℕ) → slice_index xs i < 2 ^ 64) → AllByRecursion (λ a. a < 2 ^ 64) xs
words_small [] h = tt
words_small (x ∷ xs) h = (h 0, words_small xs (λ i. h (suc i)))

both_permuted : (xs ys : List ℕ) (edges : List (ℕ × ℕ)) → IsPermutation xs ys → AllByRecursion (HasBoth xs) edges → AllByRecursion (HasBoth ys) edges
both_permuted xs ys [] p h = tt
both_permuted xs ys (e ∷ es) p h =
    ((sym (list_any-IsPermutation (λ z. z == e.0) xs ys p) ∙ h.0.0, sym (list_any-IsPermutation (λ z. z == e.1) xs ys p) ∙ h.0.1), both_permuted xs ys es p h.1)

pub read_back : (kept : Record) (text nodes : List ℕ) (edges : List (ℕ × ℕ)) → text ≡ text_of nodes edges → IsSorted nat_cmp nodes → IsSorted edge_cmp edges
    → IsPermutation kept.nodes nodes → IsPermutation kept.edges edges → IsDistinct nat_eq kept.nodes → IsDistinct is_same_edge kept.edges
    → ((i : ℕ) → slice_index nodes i < 2 ^ 64) → ReadsBack text kept
read_back kept text nodes edges e s t p q d f small = λ ends short.
    let has_both : AllByRecursion (HasBoth nodes) edges = both_permuted kept.nodes nodes edges p
    (recursion_from_All (HasBoth kept.nodes) edges (All-permutation (HasBoth kept.nodes) kept.edges edges q ends)) in
    let read = text_read nodes edges text e s (IsDistinct-IsPermutation nat_eq nat_eq-flips kept.nodes nodes p d) t (IsDistinct-IsPermutation is_same_edge same_edge-flips kept.edges edges q f) (words_small nodes small) has_both short in
    let listed : (record_of text).nodes ≡ nodes = ap (λ (file : TraceFile). file.rec.nodes) read.value in
    let linked : (record_of text).edges ≡ edges = ap (λ (file : TraceFile). file.rec.edges) read.value in
    record {
      sound = read.sound;
      profile = ap (λ (file : TraceFile). file.profile) read.value;
      nodes_ascend = subst (IsSorted nat_cmp) (sym listed) s;
      edges_ascend = subst (IsSorted edge_cmp) (sym linked) t;
      same_nodes = subst (IsPermutation kept.nodes) (sym listed) p;
      same_edges = subst (IsPermutation kept.edges) (sym linked) q;
    }
