-- Chains, after a node was taken out or put in.
use Rattle.std.specs.Vec.{with_items}
use Rattle.std.proofs.Common.{add-one, Vec, Global, ◌∙◌, ◌≡◌, ◌≢◌, ◌<◌, ◌++◌, ℕ, zero, suc, Some, slice_get, List, [], ◌∷◌, length, map, inl, inr, refl, sym, ap, subst, arith, get_or, eq-eqb, ne_eqb, get_or-set_other, get_or-set_same, length-set, ext_get_or, replicate, ◌+◌, length-append}
use Rattle.std.proofs.lemmas.Bool.{cases_eq, cases_lt}
use Rattle.std.proofs.lemmas.List.{get_or_past, length-map, length-replicate, with_items_is}
use Rattle.std.proofs.lemmas.Option.{none-some}
use mathlib.Core.Path.{fun_ext}
use Rattle.rz_links.specs.declared.links.Place.{Place}
use Rattle.rz_links.specs.declared.links.Place.TheVariants.{Head, Node}
use Rattle.rz_links.specs.declared.links.Link.{Link}
use Rattle.rz_links.specs.Calls.Links.{alone, next_of, node_of, AreInverse, Detached, Attached, AttachedBefore}
use Rattle.rz_links.specs.Calls.Chains.{Path, AreChains}
use Rattle.rz_links.specs.Laws.Chains.{Chains-same}
use Rattle.rz_links.specs.Lists.{AreBelow, IsNext, IsPrev, StandsOnce, after, list_at, node_in, with_back, without}

module _ {n n' : Place → Place} {k : ℕ} where
  -- c leads to what follows a once the node is out
  path_without : Detached n n' (Node k) → (xs : List ℕ) (a c : Place) (l : ℕ) → (n a ≢ Node k → n' c ≡ n a) → (n a ≡ Node k → n' c ≡ n (Node k)) → Path n a xs (Head l) → Path n' c (without k xs) (Head l)
  path_without t [] a c l other same p = other (λ e. cc) ∙ p
  path_without t (x ∷ xs) a c l other same p =
      elim (cases_eq x k) [
        | inl e ↦
            let s : n' c ≡ n (Node k) = same (cc) in
            rw (eq-eqb x k e) (path_without t xs (Node x) c l (λ _. cc) (λ _. s) p.1)
        | inr ne ↦
            let m : Node x ≢ Node k = λ e. ne (cc) in
            let s : n' c ≡ n a = other (λ e. m (cc)) in
            rw (ne_eqb x k ne) (s ∙ p.0, path_without t xs (Node x) (Node x) l (t.keeps (Node x) m) (t.skips (Node x) m) p.1)
      ]

  path_after : {m : ℕ} → Attached n n' (Node k) (Node m) → (xs : List ℕ) (a c : Place) (l : ℕ) → n' c ≡ n a → a ≢ Node k → Path n a xs (Head l) → Path n' c (after m k xs) (Head l)
  path_after {m} t [] a c l s ne p = s ∙ p
  path_after {m} t (x ∷ xs) a c l s ne p =
      let apart : Node x ≢ Node k = λ e. ne (t.own a (p.0 ∙ e)) in
      elim (cases_eq x m) [
        | inl e ↦
            let to : n' (Node x) ≡ Node k = cc (t.to) in
            let from : n' (Node k) ≡ n (Node x) = cc (t.from) in
            rw (eq-eqb x m e) (s ∙ p.0, (to, path_after t xs (Node x) (Node k) l from apart p.1))
        | inr nm ↦
            let keeps : n' (Node x) ≡ n (Node x) = t.keeps (Node x) (λ e. nm (cc)) apart in
            rw (ne_eqb x m nm) (s ∙ p.0, path_after t xs (Node x) (Node x) l keeps apart p.1)
      ]

  path_kept : {h : ℕ} → AttachedBefore n n' (Node k) (Head h) → (xs : List ℕ) (a : Place) (l : ℕ) → l ≢ h → a ≢ Node k → Path n a xs (Head l) → Path n' a xs (Head l)
  path_kept t [] a l other ne p = t.keeps a (λ e. other (cc)) ne ∙ p
  path_kept t (x ∷ xs) a l other ne p =
      (t.keeps a (λ e. cc) ne ∙ p.0, path_kept t xs (Node x) l other (λ e. ne (t.own a (p.0 ∙ e))) p.1)

  path_back : {h : ℕ} → AttachedBefore n n' (Node k) (Head h) → (xs : List ℕ) (a : Place) → a ≢ Node k → Path n a xs (Head h) → Path n' a (xs ++ k ∷ []) (Head h)
  path_back t [] a ne p = (t.to a p, t.from)
  path_back t (x ∷ xs) a ne p =
      (t.keeps a (λ e. cc) ne ∙ p.0, path_back t xs (Node x) (λ e. ne (t.own a (p.0 ∙ e))) p.1)

-- a change of each list, that leaves the list of no nodes
list_at-map : (f : List ℕ → List ℕ) (L : List (List ℕ)) (l : ℕ) → f [] ≡ [] → get_or (map f L) l [] ≡ f (get_or L l [])
list_at-map f [] l e = sym e
list_at-map f (xs ∷ L) zero e = refl
list_at-map f (xs ∷ L) (suc l) e = list_at-map f L l e

module _ {n n' : Place → Place} {k heads : ℕ} where
  pub chains_without : (L : List (List ℕ)) → Detached n n' (Node k) → AreChains n heads L → AreChains n' heads (map (without k) L)
  chains_without L t h = (
    length-map L (without k) ∙ h.0,
    λ l. rw (list_at-map (without k) L l refl) (path_without t (get_or L l []) (Head l) (Head l) l (t.keeps (Head l) (λ e. cc)) (t.skips (Head l) (λ e. cc)) (h.1 l)),
  )

  pub chains_after : (L : List (List ℕ)) (m : ℕ) → Attached n n' (Node k) (Node m) → AreChains n heads L → AreChains n' heads (map (after m k) L)
  chains_after L m t h = (
    length-map L (after m k) ∙ h.0,
    λ l. rw (list_at-map (after m k) L l refl) (path_after t (get_or L l []) (Head l) (Head l) l (t.keeps (Head l) (λ e. cc) (λ e. cc)) (λ e. cc) (h.1 l)),
  )

  pub chains_back : (L : List (List ℕ)) (b : ℕ) → b < heads → AttachedBefore n n' (Node k) (Head b) → AreChains n heads L → AreChains n' heads (with_back L b k)
  chains_back L b lt t h = (
    length-set L b (get_or L b [] ++ k ∷ []) ∙ h.0,
    λ l. elim (cases_eq l b) [
      | inl e ↦
          let lt' : b < length L = omega (arith, h.0) in
          rw (e, get_or-set_same) (path_back t (get_or L b []) (Head b) (λ e. cc) (h.1 b))
      | inr ne ↦ rw get_or-set_other (path_kept t (get_or L l []) (Head l) l ne (λ e. cc) (h.1 l))
    ],
  )

-- a node that leads to itself is in no list
module _ (n : Place → Place) where
  in_no_list : (xs : List ℕ) (x l : ℕ) → Path n (Node x) xs (Head l) → n (Node x) ≢ Node x
  in_no_list [] x l h e = cc
  in_no_list (y ∷ ys) x l h e = let same : y ≡ x = cc in in_no_list ys y l h.1 (cc)

  without_fresh : (xs : List ℕ) (a : Place) (l k : ℕ) → n (Node k) ≡ Node k → Path n a xs (Head l) → without k xs ≡ xs
  without_fresh [] a l k e h = refl
  without_fresh (x ∷ xs) a l k e h =
      rw (ne_eqb x k (λ s. in_no_list xs x l h.1 (cc))) (ap (λ ys. x ∷ ys) (without_fresh xs (Node x) l k e h.1))

  -- nor is one past the vector
  in_list : (xs : List ℕ) (a : Place) (l k x : ℕ) → Path n a xs (Head l) → slice_get xs k ≡ Some x → n (Node x) ≢ Node x
  in_list [] a l k x h e = absurd (none-some x e)
  in_list (y ∷ ys) a l zero x h e = let same : y ≡ x = cc in rw (← same) (in_no_list ys y l h.1)
  in_list (y ∷ ys) a l (suc k) x h e = in_list ys (Node y) l k x h.1 e

  pub lists_without_fresh : (heads : ℕ) (L : List (List ℕ)) (k : ℕ) → n (Node k) ≡ Node k → AreChains n heads L → map (without k) L ≡ L
  lists_without_fresh heads L k e h =
      ext_get_or [] (map (without k) L) L (length-map L (without k)) (λ l _. list_at-map (without k) L l refl ∙ without_fresh (get_or L l []) (Head l) l k e (h.1 l))

pub below : (heads nodes : List Link) (size : ℕ) (L : List (List ℕ)) → size ≡ length nodes → AreChains (next_of heads nodes) (length heads) L → AreBelow L size
below heads nodes size L all h x l k e =
    elim (cases_lt x (length nodes)) [
      | inl lt ↦ omega (arith, all)
      | inr ge ↦
          let own = ap (λ (r : Link). r.next) (get_or_past nodes x (alone (Node x)) ge) in
          absurd (in_list (next_of heads nodes) (list_at L l) (Head l) l k x (h.1 l) e own)
    ]

-- the chains that a value closes with are these
pub only_chains : (next : Place → Place) (heads : ℕ) (L : List (List ℕ)) → AreChains next heads L → (M : List (List ℕ)) → AreChains next heads M → M ≡ L
only_chains next heads L h M k = Chains-same next heads M L k h

-- places that lead where they led
pub chains_same : (n n' : Place → Place) (heads : ℕ) (L : List (List ℕ)) → ((r : Place) → n' r ≡ n r) → AreChains n heads L → AreChains n' heads L
chains_same n n' heads L e h = subst (λ f. AreChains f heads L) (fun_ext (λ r. sym (e r))) h

pub list_at-more : (L : List (List ℕ)) (extra l : ℕ) → get_or (L ++ replicate extra []) l [] ≡ get_or L l []
list_at-more [] zero l = refl
list_at-more [] (suc extra) zero = refl
list_at-more [] (suc extra) (suc l) = list_at-more [] extra l
list_at-more (xs ∷ L) extra zero = refl
list_at-more (xs ∷ L) extra (suc l) = list_at-more L extra l

-- further heads that lead to themselves
pub chains_more : (n : Place → Place) (heads extra : ℕ) (L : List (List ℕ)) → AreChains n heads L → AreChains n (heads + extra) (L ++ replicate extra [])
chains_more n heads extra L h =
    (simp (length-append, length-replicate) (omega (arith, h.0)), λ l. rw list_at-more (h.1 l))

-- what stands first and next
module _ (n : Place → Place) where
  first_at : (xs : List ℕ) (a : Place) (l : ℕ) → Path n a xs (Head l) → node_of (n a) ≡ slice_get xs 0
  first_at [] a l h = ap node_of h
  first_at (x ∷ xs) a l h = ap node_of h.0

  next_at : (xs : List ℕ) (a : Place) (l k m : ℕ) → Path n a xs (Head l) → slice_get xs k ≡ Some m → node_of (n (Node m)) ≡ slice_get xs (suc k)
  next_at [] a l k m h e = cc
  next_at (x ∷ xs) a l zero m h e = let same : x ≡ m = cc in rw (← same) (first_at xs (Node x) l h.1)
  next_at (x ∷ xs) a l (suc k) m h e = next_at xs (Node x) l k m h.1 e

  module _ (heads : ℕ) (L : List (List ℕ)) (h : AreChains n heads L) where
    pub is_first : (l : ℕ) → node_of (n (Head l)) ≡ node_in L l 0
    is_first l = first_at (list_at L l) (Head l) l (h.1 l)

    pub is_next : (m : ℕ) → IsNext L m (node_of (n (Node m)))
    is_next m l k e = rw add-one (next_at (list_at L l) (Head l) l k m (h.1 l) e)

-- what stands before an item is an item
item_before : (xs : List ℕ) (k m : ℕ) → slice_get xs (suc k) ≡ Some m → (y : ℕ) × (slice_get xs k ≡ Some y)
item_before [] k m e = absurd (none-some m e)
item_before (x ∷ xs) zero m e = (x, refl)
item_before (x ∷ xs) (suc k) m e = item_before xs k m e

module _ {n p : Place → Place} (i : AreInverse n p) where
  none_before : (xs : List ℕ) (a : Place) (l m : ℕ) → Path n a xs (Head l) → slice_get xs 0 ≡ Some m → p (Node m) ≡ a
  none_before [] a l m h e = cc
  none_before (x ∷ xs) a l m h e = let same : x ≡ m = cc in cc (i.back a, h.0)

  prev_at : (xs : List ℕ) (a : Place) (l k m : ℕ) → Path n a xs (Head l) → slice_get xs (suc k) ≡ Some m → node_of (p (Node m)) ≡ slice_get xs k
  prev_at [] a l k m h e = cc
  prev_at (x ∷ xs) a l zero m h e = ap node_of (none_before xs (Node x) l m h.1 e)
  prev_at (x ∷ xs) a l (suc k) m h e = prev_at xs (Node x) l k m h.1 e

  module _ (heads : ℕ) (L : List (List ℕ)) (h : AreChains n heads L) where
    pub is_prev : (m : ℕ) → IsPrev L m (node_of (p (Node m)))
    is_prev m l zero e = ap node_of (none_before (list_at L l) (Head l) l m (h.1 l) e)
    is_prev m l (suc k) e = prev_at (list_at L l) (Head l) l k m (h.1 l) e

    -- each node has one place before it
    pub stands_once : (x : ℕ) → StandsOnce L x
    stands_once x l m zero zero e f =
        let here = none_before (list_at L l) (Head l) l x (h.1 l) e in
        let there = none_before (list_at L m) (Head m) m x (h.1 m) f in
        (cc, refl)
    stands_once x l m zero (suc k) e f =
        let y = item_before (list_at L m) k x f in
        absurd (none-some y.0 (sym (is_prev x l zero e) ∙ is_prev x m (suc k) f ∙ y.1))
    stands_once x l m (suc j) zero e f =
        let y = item_before (list_at L l) j x e in
        absurd (none-some y.0 (sym (is_prev x m zero f) ∙ is_prev x l (suc j) e ∙ y.1))
    stands_once x l m (suc j) (suc k) e f =
        let y = item_before (list_at L l) j x e in
        let both = stands_once y.0 l m j k y.1 (sym (is_prev x m (suc k) f) ∙ is_prev x l (suc j) e ∙ y.1) in
        (both.0, ap suc both.1)

-- two vectors whose items were written
module _ (v w : Vec Link Global) (heads nodes : List Link) (L : List (List ℕ)) where
  pub chains_written : length heads ≡ v.len → length heads ≡ length v.items → length nodes ≡ w.len → AreChains (next_of heads nodes) (length v.items) L → AreChains (next_of (with_items v heads).items (with_items w nodes).items) (length (with_items v heads).items) L
  chains_written p p' q h = rw (with_items_is v heads p, with_items_is w nodes q, p') h

  pub lists_written : length heads ≡ v.len → length heads ≡ length v.items → length nodes ≡ w.len → AreChains (next_of heads nodes) (length v.items) L → (M : List (List ℕ)) → AreChains (next_of (with_items v heads).items (with_items w nodes).items) (length (with_items v heads).items) M → M ≡ L
  lists_written p p' q h M k = Chains-same (next_of (with_items v heads).items (with_items w nodes).items) (length (with_items v heads).items) M L k (chains_written p p' q h)
