-- The part of a table's pairs that has a value if any part has.
use Rattle.std.proofs.Common.{◌≡◌, ◌≢◌, ℕ, zero, suc, ◌+◌, ◌*◌, ◌%◌, ◌^◌, ◌<◌, ◌≤◌, ◌⊎◌, ⊎_elim, if◌then◌else◌, ◌==◌, List, [], ◌∷◌, ◌++◌, length, take, drop, Some, None, refl, sym, ap, ◌∙◌, subst, arith, append_assoc, ne_eqb, mod-eq_of_lt}
use Rattle.std.specs.List.{AllByRecursion}
use Rattle.byteorder.specs.Endian.{little_bytes}
use Rattle.rz_isa.specs.Items.{beside}
use Rattle.rz_image.specs.Memory.{Regions}
use Rattle.rz_machine.specs.Tables.{AscendFrom, pairs_bytes}
use Rattle.rz_machine.specs.Lookup.{HasBytes}
use Rattle.rz_lookup.proofs.Bytes.{bytes_before, pairs_behind}

abbrev pub Pairs : Type 0
Pairs = List (ℕ × ℕ)

abbrev pub TargetsLow : Pairs → Type 0
TargetsLow ps = AllByRecursion (λ p. p.0 < 2 ^ 32) ps

abbrev pub PlacesLow : Pairs → Type 0
PlacesLow ps = AllByRecursion (λ p. p.1 < 2 ^ 32) ps

-- ---- parts of lists

all_take : (P : ℕ × ℕ → Type 0) (k : ℕ) (ps : Pairs) → AllByRecursion P ps → AllByRecursion P (take k ps)
all_take P zero ps h = tt
all_take P (suc k) [] h = tt
all_take P (suc k) (p ∷ rest) h = (h.0, all_take P k rest h.1)

all_drop : (P : ℕ × ℕ → Type 0) (k : ℕ) (ps : Pairs) → AllByRecursion P ps → AllByRecursion P (drop k ps)
all_drop P zero ps h = h
all_drop P (suc k) [] h = tt
all_drop P (suc k) (p ∷ rest) h = all_drop P k rest h.1

ascend_lower : (n k : ℕ) (ps : Pairs) → n ≤ k → AscendFrom k ps → AscendFrom n ps
ascend_lower n k [] le h = tt
ascend_lower n k (p ∷ rest) le h = (let l : k ≤ p.0 = h.0 in omega (arith, l, le), h.1)

ascend_take : (n k : ℕ) (ps : Pairs) → AscendFrom n ps → AscendFrom n (take k ps)
ascend_take n zero ps h = tt
ascend_take n (suc k) [] h = tt
ascend_take n (suc k) (p ∷ rest) h = (h.0, ascend_take (suc p.0) k rest h.1)

ascend_drop : (n k : ℕ) (ps : Pairs) → AscendFrom n ps → AscendFrom n (drop k ps)
ascend_drop n zero ps h = h
ascend_drop n (suc k) [] h = tt
ascend_drop n (suc k) (p ∷ rest) h = let l : n ≤ p.0 = h.0 in ascend_lower n (suc p.0) (drop k rest) (omega (arith, l)) (ascend_drop (suc p.0) k rest h.1)

-- an old target is none below
ascend_first : (n k : ℕ) (ps : Pairs) (q : ℕ × ℕ) (qs : Pairs) → AscendFrom n ps → drop k ps ≡ q ∷ qs → n ≤ q.0
ascend_first n k ps q qs h e = let d = subst (AscendFrom n) e (ascend_drop n k ps h) in d.0

-- ---- what stands beside a value

unless_first : (p : ℕ × ℕ) (rest : Pairs) (v : ℕ) → p.0 ≢ v → beside (p ∷ rest) v ≡ beside rest v
unless_first p rest v ne = ap (λ c. if c then Some p.1 else beside rest v) (ne_eqb p.0 v ne)

none_below : (n v : ℕ) (ps : Pairs) → AscendFrom n ps → v < n → beside ps v ≡ None
none_below n v [] h lt = refl
none_below n v (p ∷ rest) h lt =
    let l : n ≤ p.0 = h.0 in
    unless_first p rest v (λ e. omega (arith, l, lt, e)) ∙ none_below (suc p.0) v rest h.1 (omega (arith, l, lt))

pub none_high : (v : ℕ) (ps : Pairs) → TargetsLow ps → 2 ^ 32 ≤ v → beside ps v ≡ None
none_high v [] h le = refl
none_high v (p ∷ rest) h le = let l : p.0 < 2 ^ 32 = h.0 in unless_first p rest v (λ e. omega (arith, l, le, e)) ∙ none_high v rest h.1 le

-- not from an old target above it on
beside_lower : (n h k v : ℕ) (ps : Pairs) (q : ℕ × ℕ) (qs : Pairs) → AscendFrom n ps → drop h ps ≡ q ∷ qs → v < q.0 → h ≤ k → beside (take k ps) v ≡ beside ps v
beside_lower n zero k v ps q qs a e lt le =
    let b : AscendFrom q.0 ps = subst (AscendFrom q.0) (sym e) (omega arith, let c = subst (AscendFrom n) e a in c.1) in
    none_below q.0 v (take k ps) (ascend_take q.0 k ps b) lt ∙ sym (none_below q.0 v ps b lt)
beside_lower n (suc h) k v [] q qs a e lt le = absurd (cc)
beside_lower n (suc h) zero v (p ∷ rest) q qs a e lt le = absurd (omega arith)
beside_lower n (suc h) (suc k) v (p ∷ rest) q qs a e lt le =
    ap (λ o. if p.0 == v then Some p.1 else o) (beside_lower (suc p.0) h k v rest q qs a.1 e lt (omega arith))

-- not before an old target that isn't above it
beside_upper : (n h v : ℕ) (ps : Pairs) (q : ℕ × ℕ) (qs : Pairs) → AscendFrom n ps → drop h ps ≡ q ∷ qs → q.0 ≤ v → beside (drop h ps) v ≡ beside ps v
beside_upper n zero v ps q qs a e le = refl
beside_upper n (suc h) v [] q qs a e le = absurd (cc)
beside_upper n (suc h) v (p ∷ rest) q qs a e le =
    let l : suc p.0 ≤ q.0 = ascend_first (suc p.0) h rest q qs a.1 e in
    beside_upper (suc p.0) h v rest q qs a.1 e le ∙ sym (unless_first p rest v (λ f. omega (arith, l, le, f)))

-- ---- bytes of parts

pairs_append : (xs ys : Pairs) → pairs_bytes (xs ++ ys) ≡ pairs_bytes xs ++ pairs_bytes ys
pairs_append [] ys = refl
pairs_append (p ∷ xs) ys =
    ap (λ l. little_bytes 4 p.0 ++ (little_bytes 4 p.1 ++ l)) (pairs_append xs ys)
    ∙ ap (λ l. little_bytes 4 p.0 ++ l) (sym (append_assoc (little_bytes 4 p.1) (pairs_bytes xs) (pairs_bytes ys)))
    ∙ sym (append_assoc (little_bytes 4 p.0) (little_bytes 4 p.1 ++ pairs_bytes xs) (pairs_bytes ys))

both_parts : (k : ℕ) (ps : Pairs) → take k ps ++ drop k ps ≡ ps
both_parts zero ps = refl
both_parts (suc k) [] = refl
both_parts (suc k) (p ∷ rest) = ap (λ l. p ∷ l) (both_parts k rest)

pairs_front : (m : Regions) (a k : ℕ) (ps : Pairs) → HasBytes m a (pairs_bytes ps) → HasBytes m a (pairs_bytes (take k ps))
pairs_front m a k ps h =
    let e : pairs_bytes ps ≡ pairs_bytes (take k ps) ++ pairs_bytes (drop k ps) = ap pairs_bytes (sym (both_parts k ps)) ∙ pairs_append (take k ps) (drop k ps) in
    bytes_before m a (pairs_bytes (take k ps)) (pairs_bytes (drop k ps)) (subst (HasBytes m a) e h)

-- ---- the part that is left, of which 16 bytes behind an address the first pair stands

pub record IsLeft (m : Regions) (pairs : Pairs) (v b : ℕ) (ps : Pairs) : Type 0 where
  pub same : beside ps v ≡ beside pairs v
  pub ascend : AscendFrom 0 ps
  pub targets_low : TargetsLow ps
  pub places_low : PlacesLow ps
  pub stands : HasBytes m (b + 16) (pairs_bytes ps)
  pub low : b + 16 + 8 * length ps ≤ 2 ^ 31

pub length_front : (k : ℕ) (ps : Pairs) → k ≤ length ps → length (take k ps) ≡ k
length_front zero ps le = refl
length_front (suc k) [] le = absurd (omega arith)
length_front (suc k) (p ∷ rest) le = let e = length_front k rest (omega arith) in omega (arith, e)

length_take : (k : ℕ) (ps : Pairs) → length (take k ps) ≤ length ps
length_take zero ps = omega arith
length_take (suc k) [] = omega arith
length_take (suc k) (p ∷ rest) = let e = length_take k rest in omega (arith, e)

pub length_drop : (h : ℕ) (ps : Pairs) → h ≤ length ps → h + length (drop h ps) ≡ length ps
length_drop zero ps le = omega arith
length_drop (suc h) [] le = absurd (omega arith)
length_drop (suc h) (p ∷ rest) le = let e = length_drop h rest (omega arith) in omega (arith, e)

module _ (m : Regions) (pairs : Pairs) (v b : ℕ) (ps : Pairs) (left : IsLeft m pairs v b ps) where
  either : {P : Type 0} → (v < 2 ^ 32 → P) → (2 ^ 32 ≤ v → P) → P
  either {P = P} f g = ⊎_elim f g (split v)
    where
      split : (n : ℕ) → (n < 2 ^ 32) ⊎ (2 ^ 32 ≤ n)
      split n = grind arith

  -- by the low half of the value: the pairs before one of a greater old target
  pub left_lower : (h k : ℕ) (q : ℕ × ℕ) (qs : Pairs) → drop h ps ≡ q ∷ qs → v % 2 ^ 32 < q.0 → h ≤ k → IsLeft m pairs v b (take k ps)
  left_lower h k q qs e lt le =
      record {
        same = either (λ small. let s : v % 2 ^ 32 ≡ v = mod-eq_of_lt small in beside_lower 0 h k v ps q qs left.ascend e (omega (arith, s, lt)) le)
            (λ big. none_high v (take k ps) (all_take _ k ps left.targets_low) big ∙ sym (none_high v ps left.targets_low big))
            ∙ left.same;
        ascend = ascend_take 0 k ps left.ascend;
        targets_low = all_take _ k ps left.targets_low;
        places_low = all_take _ k ps left.places_low;
        stands = pairs_front m (b + 16) k ps left.stands;
        low = let l = length_take k ps in omega (arith, left.low, l);
      }

  -- those from one of an old target on that isn't greater
  pub left_upper : (h : ℕ) (q : ℕ × ℕ) (qs : Pairs) → h ≤ length ps → drop h ps ≡ q ∷ qs → q.0 ≤ v % 2 ^ 32 → IsLeft m pairs v (b + 8 * h) (drop h ps)
  left_upper h q qs within e le =
      record {
        same = either (λ small. let s : v % 2 ^ 32 ≡ v = mod-eq_of_lt small in beside_upper 0 h v ps q qs left.ascend e (omega (arith, s, le)))
            (λ big. none_high v (drop h ps) (all_drop _ h ps left.targets_low) big ∙ sym (none_high v ps left.targets_low big))
            ∙ left.same;
        ascend = ascend_drop 0 h ps left.ascend;
        targets_low = all_drop _ h ps left.targets_low;
        places_low = all_drop _ h ps left.places_low;
        stands = let f : b + 16 + 8 * h ≡ b + 8 * h + 16 = omega arith in subst (λ c. HasBytes m c (pairs_bytes (drop h ps))) f (pairs_behind m (b + 16) h ps within left.stands);
        low = let l = length_drop h ps within in omega (arith, left.low, l);
      }

-- ---- the pair of a number

pub record HasPair (h : ℕ) (ps : Pairs) : Type 0 where
  pub pair : ℕ × ℕ
  pub behind : Pairs
  pub is : drop h ps ≡ pair ∷ behind
  pub low : pair.0 < 2 ^ 32

pub has_pair : (h : ℕ) (ps : Pairs) → TargetsLow ps → h < length ps → HasPair h ps
has_pair h [] low lt = absurd (omega arith)
has_pair zero (p ∷ rest) low lt = record { pair = p; behind = rest; is = refl; low = low.0 }
has_pair (suc h) (p ∷ rest) low lt = let r = has_pair h rest low.1 (omega arith) in record { pair = r.pair; behind = r.behind; is = r.is; low = r.low }
