-- The items of each kept node stand from its place on, without a last jump to what follows.
use Rattle.std.proofs.Common.{◌≡◌, ℕ, suc, ◌+◌, ◌^◌, ◌<◌, ◌≤◌, nat_lt, inl, inr, Bool, true, false, ◌||◌, ◌==◌, if◌then◌else◌, List, [], ◌∷◌, length, Option, Some, None, IsSomeAnd, refl, sym, ap, ◌∙◌, subst, arith, eqb-true, eq-eqb, ne_eqb}
use Rattle.std.specs.List.{AllByRecursion}
use Rattle.std.proofs.lemmas.List.{length-map}
use Rattle.std.specs.Option.{option_map}
use Rattle.std.proofs.lemmas.Bool.{cond-true, cond-false}
use Rattle.rz_isa.specs.declared.instruction.Insn.{Insn}
use Rattle.rz_isa.specs.declared.instruction.Insn.TheVariants as insn
use Rattle.rz_isa.specs.declared.item_list.Label.{Label}
use Rattle.rz_isa.specs.declared.item_list.Label.TheVariants as label
use Rattle.rz_isa.specs.declared.item_list.Item.{Item}
use Rattle.rz_isa.specs.declared.item_list.Item.TheVariants as item
use Rattle.rz_isa.specs.declared.item_list.Slot.{Slot}
use Rattle.rz_isa.specs.declared.fragment_list.Fragment.{Fragment}
use Rattle.rz_isa.specs.Items.{Addresses, list_slots, slots_from, first_number, fragment_number, item_count, resolved, store}
use Rattle.rz_isa.specs.Nodes.{Decoder}
use Rattle.rz_image.specs.Memory.{Regions}
use Rattle.rz_machine.specs.Kept.{has_node, IsAscending}
use Rattle.rz_machine.specs.Simulates.{ItemAt, ItemsFrom}
use Rattle.rz_rewrite.specs.Fragments.{is_following, is_needless, trimmed, first_node, fragment_list}
use Rattle.rz_rewrite.proofs.Standing.{AllFrom, all_append}

-- ---- addresses of more labels

-- what a label has an address by one, it has by the other
abbrev pub Extends : Addresses → Addresses → Type 0
Extends near far = (to : Label) (t : ℕ) → near to ≡ Some t → far to ≡ Some t

pub extended : (near far : Addresses) → Extends near far → (P : Insn → Type 0) (i : Item) → IsSomeAnd (resolved near i) P → IsSomeAnd (resolved far i) P
extended near far more P (item.Whole x) h = h
extended near far more P (item.Jump None to) h = go (near to) refl h
  where
    go : (o : Option ℕ) → near to ≡ o → IsSomeAnd (option_map (λ t. insn.Jmp t) o) P → IsSomeAnd (option_map (λ t. insn.Jmp t) (far to)) P
    go None e h = absurd h
    go (Some t) e h = subst (λ o. IsSomeAnd (option_map (λ t. insn.Jmp t) o) P) (sym (more to t e)) h
extended near far more P (item.Jump (Some c) to) h = go (near to) refl h
  where
    go : (o : Option ℕ) → near to ≡ o → IsSomeAnd (option_map (λ t. insn.Jcc c t) o) P → IsSomeAnd (option_map (λ t. insn.Jcc c t) (far to)) P
    go None e h = absurd h
    go (Some t) e h = subst (λ o. IsSomeAnd (option_map (λ t. insn.Jcc c t) o) P) (sym (more to t e)) h
extended near far more P (item.Jrcxz to) h = go (near to) refl h
  where
    go : (o : Option ℕ) → near to ≡ o → IsSomeAnd (option_map (λ t. insn.Jrcxz t) o) P → IsSomeAnd (option_map (λ t. insn.Jrcxz t) (far to)) P
    go None e h = absurd h
    go (Some t) e h = subst (λ o. IsSomeAnd (option_map (λ t. insn.Jrcxz t) o) P) (sym (more to t e)) h
extended near far more P (item.Store a to) h = by_test (nat_lt a (2 ^ 31)) h
  where
    by_test : (b : Bool) → IsSomeAnd (if b then option_map (store a) (near to) else None) P → IsSomeAnd (if b then option_map (store a) (far to) else None) P
    by_test true h = go (near to) refl h
      where
        go : (o : Option ℕ) → near to ≡ o → IsSomeAnd (option_map (store a) o) P → IsSomeAnd (option_map (store a) (far to)) P
        go None e h = absurd h
        go (Some t) e h = subst (λ o. IsSomeAnd (option_map (store a) o) P) (sym (more to t e)) h
    by_test false h = absurd h

-- ---- items that all stand

module _ (dec : Decoder) (m : Regions) (at : Addresses) (own : ℕ → ℕ) where
  abbrev pub EachAt : ℕ → List Item → Type 0
  EachAt k [] = Unit {0}
  EachAt k (i ∷ rest) = ItemAt dec m at (own k) i (own (suc k)) × EachAt (suc k) rest

  -- a jump to what follows leads to where the items end
  leads_on : (place : ℕ → ℕ) → ((b : ℕ) → at (label.Place b) ≡ Some (place b)) → (following : Option ℕ) (p : ℕ) → ((b : ℕ) → following ≡ Some b → p ≡ place b) → (to : Label) → is_following following to ≡ true → at to ≡ Some p
  leads_on place known None p falls to h = absurd (cc)
  leads_on place known (Some b) p falls (label.Place a) h = let same : a ≡ b = eqb-true a b h in known a ∙ ap Some (ap place same ∙ sym (falls b refl))
  leads_on place known (Some b) p falls (label.Stub a) h = absurd (cc)
  leads_on place known (Some b) p falls (label.Item a) h = absurd (cc)
  leads_on place known (Some b) p falls (label.Table a) h = absurd (cc)
  leads_on place known (Some b) p falls label.Routine h = absurd (cc)

  -- where the trimmed items stand, the whole sequence does, its last jump perhaps missing
  pub whole_stands : (place : ℕ → ℕ) → ((b : ℕ) → at (label.Place b) ≡ Some (place b)) → (following : Option ℕ) (k : ℕ) (items : List Item)
      → ((b : ℕ) → following ≡ Some b → own (k + length (trimmed following items)) ≡ place b) → EachAt k (trimmed following items) → ItemsFrom dec m at own k (own k) items
  whole_stands place known following k [] falls h = refl
  whole_stands place known following k (i ∷ []) falls h = (refl, inl (own (suc k), h.0, refl))
  whole_stands place known following k (i ∷ j ∷ []) falls h = go (is_needless following j) refl falls h
    where
      missing : (j : Item) → is_needless following j ≡ true → ((b : ℕ) → following ≡ Some b → own (k + 1) ≡ place b) → ItemAt dec m at (own k) i (own (suc k)) → ItemsFrom dec m at own k (own k) (i ∷ j ∷ [])
      missing (item.Jump None to) e falls h =
          let one : k + 1 ≡ suc k = omega arith in
          (refl, inl (own (suc k), h, (refl, inr (omega arith, leads_on place known following (own (suc k)) (λ b f. ap own (sym one) ∙ falls b f) to e))))
      missing (item.Jump (Some c) to) e falls h = absurd (cc)
      missing (item.Whole x) e falls h = absurd (cc)
      missing (item.Jrcxz to) e falls h = absurd (cc)
      missing (item.Store a to) e falls h = absurd (cc)

      go : (b : Bool) → is_needless following j ≡ b → ((c : ℕ) → following ≡ Some c → own (k + length (if b then i ∷ [] else (i ∷ j ∷ []))) ≡ place c) → EachAt k (if b then i ∷ [] else (i ∷ j ∷ [])) → ItemsFrom dec m at own k (own k) (i ∷ j ∷ [])
      go true e falls h = missing j e falls h.0
      go false e falls h = (refl, inl (own (suc k), h.0, (refl, inl (own (suc (suc k)), h.1.0, refl))))
  whole_stands place known following k (i ∷ j ∷ l ∷ rest) falls h =
      let ends : (b : ℕ) → following ≡ Some b → own (suc k + length (trimmed following (j ∷ l ∷ rest))) ≡ place b =
      λ b e. let f : suc k + length (trimmed following (j ∷ l ∷ rest)) ≡ k + suc (length (trimmed following (j ∷ l ∷ rest))) = omega arith in ap own f ∙ falls b e in
      (refl, inl (own (suc k), h.0, whole_stands place known following (suc k) (j ∷ l ∷ rest) ends h.1))

-- ---- the fragments of nodes, one after the other

module _ (items : ℕ → List Item) (some : (a : ℕ) (o : Option ℕ) → (i : Item) × (rest : List Item) × (trimmed o (items a) ≡ i ∷ rest)) where
  abbrev frags : List ℕ → List Fragment
  frags nodes = fragment_list items nodes

  first_is : (first a : ℕ) (o : Option ℕ) → first_number first (trimmed o (items a)) ≡ Some first
  first_is first a o = let s = some a o in ap (first_number first) s.2

  -- the fragment of a node: its number, what follows it, and that its items pass a test
  pub record Found (P : ℕ → Slot → Type 0) (first : ℕ) (nodes : List ℕ) (a : ℕ) : Type 0 where
    pub number : ℕ
    pub following : Option ℕ
    pub is : fragment_number first (frags nodes) a ≡ Some number
    pub pass : AllFrom P number (list_slots number (trimmed following (items a)))
    pub next : (b : ℕ) → following ≡ Some b → fragment_number first (frags nodes) b ≡ Some (number + length (trimmed following (items a)))
    pub within : number + length (trimmed following (items a)) ≤ first + item_count (frags nodes)

  -- a member of a list is above what is below all of it
  above : (a : ℕ) (nodes : List ℕ) → AllByRecursion (λ b. a < b) nodes → (b : ℕ) → has_node nodes b ≡ true → a < b
  above a [] h b e = absurd (cc)
  above a (c ∷ nodes) h b e = go (c == b) refl e (above a nodes h.1 b)
    where
      go : (v : Bool) → (c == b) ≡ v → (v || has_node nodes b) ≡ true → (has_node nodes b ≡ true → a < b) → a < b
      go true f e ih = let g : c ≡ b = eqb-true c b f in let k = h.0 in omega (arith, g, k)
      go false f e ih = ih e

  -- what has a fragment is a node
  is_node : (nodes : List ℕ) (first b n : ℕ) → fragment_number first (frags nodes) b ≡ Some n → has_node nodes b ≡ true
  is_node [] first b n e = absurd (cc)
  is_node (c ∷ nodes) first b n e = go (c == b) refl e (is_node nodes (first + length (trimmed (first_node nodes) (items c))) b n)
    where
      go : (v : Bool) → (c == b) ≡ v → (if v then first_number first (trimmed (first_node nodes) (items c)) else fragment_number (first + length (trimmed (first_node nodes) (items c))) (frags nodes) b) ≡ Some n
          → (fragment_number (first + length (trimmed (first_node nodes) (items c))) (frags nodes) b ≡ Some n → has_node nodes b ≡ true) → (v || has_node nodes b) ≡ true
      go true f e ih = refl
      go false f e ih = ih e

  pub found : (P : ℕ → Slot → Type 0) (nodes : List ℕ) (first a : ℕ) → IsAscending nodes → has_node nodes a ≡ true → AllFrom P first (slots_from first (frags nodes)) → Found P first nodes a
  found P [] first a up e h = absurd (cc)
  found P (c ∷ nodes) first a up e h = go (c == a) refl e (λ f. found P nodes (first + len) a up.1 f tail)
    where
      mine : List Item
      mine = trimmed (first_node nodes) (items c)

      len : ℕ
      len = length mine

      slots_long : length (list_slots first mine) ≡ len
      slots_long = length-map mine _

      parts : AllFrom P first (list_slots first mine) × AllFrom P (first + length (list_slots first mine)) (slots_from (first + len) (frags nodes))
      parts = all_append P first (list_slots first mine) (slots_from (first + len) (frags nodes)) h

      tail : AllFrom P (first + len) (slots_from (first + len) (frags nodes))
      tail = subst (λ n. AllFrom P (first + n) (slots_from (first + len) (frags nodes))) slots_long parts.1

      -- where the second node's fragment stands
      second : (nodes : List ℕ) (b : ℕ) → AllByRecursion (λ d. c < d) nodes → first_node nodes ≡ Some b → (n : ℕ) → (if c == b then first_number first mine else fragment_number n (frags nodes) b) ≡ Some n
      second [] b up e n = absurd (cc)
      second (d ∷ rest) b up e n =
          let here : d ≡ b = cc in
          let less : c < d = up.0 in
          let apart : (c == b) ≡ false = ne_eqb c b (λ f. omega arith) in
          cond-false (c == b) _ _ apart ∙ cond-true (d == b) _ _ (eq-eqb d b here) ∙ first_is n d (first_node rest)

      head : c ≡ a → Found P first (c ∷ nodes) a
      head same =
          let P' : ℕ → Type 0 = λ v. AllFrom P first (list_slots first (trimmed (first_node nodes) (items v))) in
          let long : length (trimmed (first_node nodes) (items a)) ≡ len = ap (λ v. length (trimmed (first_node nodes) (items v))) (sym same) in
          record {
            number = first;
            following = first_node nodes;
            is = cond-true (c == a) _ _ (eq-eqb c a same) ∙ first_is first c (first_node nodes);
            pass = subst P' same parts.0;
            next = λ b f. second nodes b up.0 f (first + len) ∙ ap (λ n. Some (first + n)) (sym long);
            within = omega (arith, long);
          }

      later : (c == a) ≡ false → Found P (first + len) nodes a → Found P first (c ∷ nodes) a
      later apart f = record {
        number = f.number;
        following = f.following;
        is = cond-false (c == a) _ _ apart ∙ f.is;
        pass = f.pass;
        next = λ b g.
            let s = f.next b g in
            let less = above c nodes up.0 b (is_node nodes (first + len) b _ s) in
            cond-false (c == b) _ _ (ne_eqb c b (λ e. omega arith)) ∙ s;
        within = let w = f.within in omega (arith, w);
      }

      go : (v : Bool) → (c == a) ≡ v → (v || has_node nodes a) ≡ true → (has_node nodes a ≡ true → Found P (first + len) nodes a) → Found P first (c ∷ nodes) a
      go true f e ih = head (eqb-true c a f)
      go false f e ih = later f (ih e)
