-- What the words of a form say is sound: what is read serves its work, and its written files are different.
use Rattle.std.proofs.Common.{arith, ◌≡◌, ◌≢◌, ℕ, ◌+◌, ◌≤◌, Bool, true, false, if◌then◌else◌, List, [], ◌∷◌, ◌++◌, length, length-append, inl, inr, ⊎_elim, refl, sym, ap, subst}
use Rattle.std.proofs.lemmas.Bool.{leb-true}
use Rattle.std.proofs.lemmas.Slice.Eq.{bytes_eq-Decides}
use Rattle.std.specs.Prelude.{◌⊎◌, IsTrue, ◌||◌, not, ◌&&◌, nat_le, bytes_eq, codes, Option, Some, None, option_map, option_and_then, Result, Ok, Err}
use Rattle.rz_elf.specs.Loaded.{elf_of}
use Rattle.rz_input.specs.Value.{input_of}
use Rattle.rz_text.specs.Number.{decimal}
use Rattle.rz_paths.specs.declared.level.Level.{Level}
use Rattle.rz_core.specs.declared.plan.Demand.{Demand}
use Rattle.rz_core.specs.declared.plan.Demand.TheVariants as demand
use Rattle.rz_core.specs.declared.plan.Wanted.{Wanted}
use Rattle.rz_core.specs.declared.plan.Verb.{Verb}
use Rattle.rz_core.specs.declared.forms.Place.{Place}
use Rattle.rz_core.specs.declared.forms.Place.TheVariants as place
use Rattle.rz_core.specs.Reading.{Read, nothing, exe_of, taken_as, AreTaken}
use Rattle.rz_core.specs.Words.{Planned, begun, wanted, reading, writing, valued, numbered, addressed, levelled, is_name, are_inputs, level_of, number_to, number_of, address_of, with_read, is_among, with_inputs, said, filled, places_of}
use Rattle.rz_core.specs.Writing.{IsNone, AreDistinct}
use Rattle.rz_core.specs.Calls.Planned.{executables_for, executables_in, inputs_for, inputs_in, writes_in, greatest_in, BeginsAs, Begins, IsSuited, IsFirstSuited, Serves, IsReadBy, IsSound}
use Rattle.rz_core.specs.Calls.Taking.{CanLabel}
use Rattle.rz_core.proofs.GivenLaws.{BeginsWith, given, first_stays, exe_is, took}

-- ---- an induction over the places of a form

some_same : {A : Type 0} (x y : A) → Some x ≡ Some y → x ≡ y
some_same x y e = cc

if_same : {A : Type 0} (b : Bool) (x y : A) → (if b then Some x else None) ≡ Some y → x ≡ y
if_same true x y e = some_same x y e
if_same false x y e = absurd cc

if_true : {A : Type 0} (b : Bool) (x y : A) → (if b then Some x else None) ≡ Some y → IsTrue b
if_true true x y e = refl
if_true false x y e = absurd cc

-- what holds of a plan and the places to come, and is kept by each word, holds at the end
module _ (P : List Place → Planned → Type 0) (step : (p : Place) (ps : List Place) (w : List ℕ) (l next : Planned) → P (p ∷ ps) l → said p w l ≡ Some next → P ps next)
    (inputs : (ps : List Place) (w : List ℕ) (ws : List (List ℕ)) (l : Planned) → P (place.Inputs ∷ ps) l → P [] (with_inputs (w ∷ ws) l)) where
  one : (p : Place) (ps : List Place) (w : List ℕ) (l last : Planned) (more : Planned → Option Planned) (o : Option Planned) → said p w l ≡ o
      → ((next : Planned) → more next ≡ Some last → P ps next → P [] last) → option_and_then more o ≡ Some last → P (p ∷ ps) l → P [] last
  one p ps w l last more None is rec e h = absurd cc
  one p ps w l last more (Some next) is rec e h = rec next e (step p ps w l next h is)

  last_inputs : (ps : List Place) (ws : List (List ℕ)) (l last : Planned) → (if are_inputs ws then Some (with_inputs ws l) else None) ≡ Some last → P (place.Inputs ∷ ps) l → P [] last
  last_inputs ps [] l last e h = absurd cc
  last_inputs ps (w ∷ ws) l last e h = subst (λ (x : Planned). P [] x) (if_same (are_inputs (w ∷ ws)) (with_inputs (w ∷ ws) l) last e) (inputs ps w ws l h)

  pub fill_rule : (ps : List Place) (ws : List (List ℕ)) (l last : Planned) → filled ps ws l ≡ Some last → P ps l → P [] last
  fill_rule [] [] l last e h = subst (λ (x : Planned). P [] x) (some_same l last e) h
  fill_rule [] (w ∷ ws) l last e h = absurd cc
  fill_rule (place.Inputs ∷ ps) ws l last e h = last_inputs ps ws l last e h
  fill_rule (place.Read d ∷ ps) [] l last e h = absurd cc
  fill_rule (place.Read d ∷ ps) (w ∷ ws) l last e h = one (place.Read d) ps w l last (filled ps ws) _ refl (λ next f p. fill_rule ps ws next last f p) e h
  fill_rule (place.Classes ∷ ps) [] l last e h = absurd cc
  fill_rule (place.Classes ∷ ps) (w ∷ ws) l last e h = one place.Classes ps w l last (filled ps ws) _ refl (λ next f p. fill_rule ps ws next last f p) e h
  fill_rule (place.Write ∷ ps) [] l last e h = absurd cc
  fill_rule (place.Write ∷ ps) (w ∷ ws) l last e h = one place.Write ps w l last (filled ps ws) _ refl (λ next f p. fill_rule ps ws next last f p) e h
  fill_rule (place.Number n ∷ ps) [] l last e h = absurd cc
  fill_rule (place.Number n ∷ ps) (w ∷ ws) l last e h = one (place.Number n) ps w l last (filled ps ws) _ refl (λ next f p. fill_rule ps ws next last f p) e h
  fill_rule (place.Address ∷ ps) [] l last e h = absurd cc
  fill_rule (place.Address ∷ ps) (w ∷ ws) l last e h = one place.Address ps w l last (filled ps ws) _ refl (λ next f p. fill_rule ps ws next last f p) e h
  fill_rule (place.Level ∷ ps) [] l last e h = absurd cc
  fill_rule (place.Level ∷ ps) (w ∷ ws) l last e h = one place.Level ps w l last (filled ps ws) _ refl (λ next f p. fill_rule ps ws next last f p) e h

-- ---- how many files of a kind

total : (Demand → ℕ) → List Wanted → ℕ
total f [] = 0
total f (w ∷ ws) = f w.demand + total f ws

total_append : (f : Demand → ℕ) (ws : List Wanted) (w : Wanted) → total f (ws ++ w ∷ []) ≡ total f ws + f w.demand
unfolding total
total_append f [] w = omega arith
total_append f (v ∷ ws) w = let e = total_append f ws w in omega (arith, e)

-- ---- written files are different

IsNone_append : (q : List ℕ) (names : List (List ℕ)) (x : List ℕ) → IsNone q names → q ≢ x → IsNone q (names ++ x ∷ [])
IsNone_append q [] x h ne = (ne, tt)
IsNone_append q (n ∷ ns) x h ne = (h.0, IsNone_append q ns x h.1 ne)

bytes_apart : (x y : List ℕ) → bytes_eq x y ≡ false → x ≢ y
bytes_apart x y e same = let same_bytes : bytes_eq x y ≡ true = (bytes_eq-Decides x y).1 same in cc

apart : (x : List ℕ) (names : List (List ℕ)) → is_among x names ≡ false → AreDistinct names → AreDistinct (names ++ x ∷ [])
apart x [] e d = (tt, tt)
apart x (n ∷ ns) e d = by (bytes_eq n x) refl e (λ none. apart x ns none d.1)
  where
    by : (b : Bool) → bytes_eq n x ≡ b → (b || is_among x ns) ≡ false → (is_among x ns ≡ false → AreDistinct (ns ++ x ∷ [])) → AreDistinct ((n ∷ ns) ++ x ∷ [])
    by true is e rest = absurd cc
    by false is e rest = (IsNone_append n ns x d.0 (bytes_apart n x is), rest e)

-- ---- a number that was said

number_some : (greatest n : ℕ) (o : Result ℕ ℕ) → number_to greatest o ≡ Some n → (1 ≤ n) × (n ≤ greatest)
number_some greatest n (Err at) e = absurd cc
number_some greatest n (Ok m) e =
    let same : m ≡ n = if_same (nat_le 1 m && nat_le m greatest) m n e in
    let both : IsTrue (nat_le 1 m && nat_le m greatest) = if_true (nat_le 1 m && nat_le m greatest) m n e in
    subst (λ (k : ℕ). (1 ≤ k) × (k ≤ greatest)) same (least m (first (nat_le 1 m) (nat_le m greatest) both), most m (second (nat_le 1 m) (nat_le m greatest) both))
  where
    first : (a b : Bool) → IsTrue (a && b) → IsTrue a
    first true b h = refl
    first false b h = absurd cc

    second : (a b : Bool) → IsTrue (a && b) → IsTrue b
    second true b h = h
    second false b h = absurd cc

    least : (m : ℕ) → IsTrue (nat_le 1 m) → 1 ≤ m
    least m h = leb-true 1 m h

    most : (m : ℕ) → IsTrue (nat_le m greatest) → m ≤ greatest
    most m h = leb-true m greatest h

-- ---- what the words say so far, with the places to come

record IsSoFar (v : Verb) (exes inputs writes greatest : ℕ) (ps : List Place) (p : Planned) : Type 0 where
  verb_is : p.verb ≡ v
  exes_are : total executables_for p.reads + executables_in ps ≡ exes
  inputs_are : inputs ≤ total inputs_for p.reads + inputs_in ps
  writes_are : length p.writes + writes_in ps ≡ writes
  distinct : AreDistinct p.writes
  most : p.values.number + greatest_in ps ≤ greatest
  some : (1 ≤ p.values.number) ⊎ (greatest ≤ greatest_in ps)

module _ (v : Verb) (exes inputs writes greatest : ℕ) where
  abbrev SoFar : List Place → Planned → Type 0
  SoFar ps p = IsSoFar v exes inputs writes greatest ps p

  -- a file is read, where the places to come are those behind its own
  more_reads : (ps : List Place) (w : List ℕ) (d : Demand) (p : Planned) → p.verb ≡ v → total executables_for p.reads + (executables_for d + executables_in ps) ≡ exes
      → inputs ≤ total inputs_for p.reads + (inputs_for d + inputs_in ps) → length p.writes + writes_in ps ≡ writes → AreDistinct p.writes
      → p.values.number + greatest_in ps ≤ greatest → (1 ≤ p.values.number) ⊎ (greatest ≤ greatest_in ps) → SoFar ps (reading w d p)
  more_reads ps w d p verb es is ws distinct most some =
      let e = total_append executables_for p.reads (wanted w d) in
      let i = total_append inputs_for p.reads (wanted w d) in
      record {
        verb_is = verb;
        exes_are = omega (arith, e, es);
        inputs_are = omega (arith, i, is);
        writes_are = ws;
        distinct = distinct;
        most = most;
        some = some;
      }

  so_far : (place : Place) (ps : List Place) (w : List ℕ) (p next : Planned) → SoFar (place ∷ ps) p → said place w p ≡ Some next → SoFar ps next
  so_far (place.Read d) ps w p next h e =
      subst (λ (x : Planned). SoFar ps x) (if_same (is_name w) _ next e) (more_reads ps w d p h.verb_is h.exes_are h.inputs_are h.writes_are h.distinct h.most h.some)
  so_far place.Classes ps w p next h e = by (bytes_eq w (codes "-")) e
    where
      by : (b : Bool) → (if b then Some p else with_read w demand.ClassFile p) ≡ Some next → SoFar ps next
      by true e = subst (λ (x : Planned). SoFar ps x) (some_same p next e)
          (record { verb_is = h.verb_is; exes_are = h.exes_are; inputs_are = h.inputs_are; writes_are = h.writes_are; distinct = h.distinct; most = h.most; some = h.some })
      by false e =
          let es = h.exes_are in
          let is = h.inputs_are in
          subst (λ (x : Planned). SoFar ps x) (if_same (is_name w) _ next e)
          (more_reads ps w demand.ClassFile p h.verb_is (omega (arith, es)) (omega (arith, is)) h.writes_are h.distinct h.most h.some)
  so_far place.Write ps w p next h e =
      let fresh : is_among w p.writes ≡ false = not_false (is_name w) (is_among w p.writes) (if_true (is_name w && not (is_among w p.writes)) _ next e) in
      let count = length-append p.writes (w ∷ []) in
      let ws = h.writes_are in
      let at : SoFar ps (writing w p) = record {
        verb_is = h.verb_is;
        exes_are = h.exes_are;
        inputs_are = h.inputs_are;
        writes_are = omega (arith, count, ws);
        distinct = apart w p.writes fresh h.distinct;
        most = h.most;
        some = h.some;
      }
      in
      subst (λ (x : Planned). SoFar ps x) (if_same (is_name w && not (is_among w p.writes)) _ next e) at
    where
      not_false : (a b : Bool) → IsTrue (a && not b) → b ≡ false
      not_false true false h = refl
      not_false true true h = absurd cc
      not_false false b h = absurd cc
  so_far (place.Number top) ps w p next h e = by (number_of top w) refl e
    where
      by : (o : Option ℕ) → number_of top w ≡ o → option_map (λ n. valued (numbered n p.values) p) o ≡ Some next → SoFar ps next
      by None is e = absurd cc
      by (Some n) is e =
          let bounds = number_some top n (decimal w) is in
          let low = bounds.0 in
          let high = bounds.1 in
          let most = h.most in
          subst (λ (x : Planned). SoFar ps x) (some_same _ next e) (record {
            verb_is = h.verb_is;
            exes_are = h.exes_are;
            inputs_are = h.inputs_are;
            writes_are = h.writes_are;
            distinct = h.distinct;
            most = omega (arith, most, high);
            some = inl low;
          })
  so_far place.Address ps w p next h e = by (address_of w) e
    where
      by : (o : Option ℕ) → option_map (λ a. valued (addressed a p.values) p) o ≡ Some next → SoFar ps next
      by None e = absurd cc
      by (Some a) e = subst (λ (x : Planned). SoFar ps x) (some_same _ next e)
          (record { verb_is = h.verb_is; exes_are = h.exes_are; inputs_are = h.inputs_are; writes_are = h.writes_are; distinct = h.distinct; most = h.most; some = h.some })
  so_far place.Level ps w p next h e = by (level_of w) e
    where
      by : (o : Option Level) → option_map (λ l. valued (levelled l p.values) p) o ≡ Some next → SoFar ps next
      by None e = absurd cc
      by (Some l) e = subst (λ (x : Planned). SoFar ps x) (some_same _ next e)
          (record { verb_is = h.verb_is; exes_are = h.exes_are; inputs_are = h.inputs_are; writes_are = h.writes_are; distinct = h.distinct; most = h.most; some = h.some })
  so_far place.Inputs ps w p next h e = absurd cc

  with_all : (ws : List (List ℕ)) (p : Planned) → SoFar [] p → SoFar [] (with_inputs ws p)
  with_all [] p h = h
  with_all (w ∷ ws) p h =
      let is = h.inputs_are in
      with_all ws _ (more_reads [] w demand.Input p h.verb_is h.exes_are (omega (arith, is)) h.writes_are h.distinct h.most h.some)

  inputs_last : (ps : List Place) (w : List ℕ) (ws : List (List ℕ)) (p : Planned) → SoFar (place.Inputs ∷ ps) p → SoFar [] (with_inputs (w ∷ ws) p)
  inputs_last ps w ws p h = with_all ws _ (more_reads [] w demand.Input p h.verb_is h.exes_are h.inputs_are h.writes_are h.distinct h.most h.some)

  at_end : (ps : List Place) (ws : List (List ℕ)) (p last : Planned) → filled ps ws p ≡ Some last → SoFar ps p → SoFar [] last
  at_end = fill_rule SoFar so_far inputs_last

-- ---- what was read, by what was wanted

record IsCounted (exes inputs : ℕ) (r last : Read) : Type 0 where
  exes_are : length last.executables ≡ length r.executables + exes
  inputs_are : length last.inputs ≡ length r.inputs + inputs

counted_given : (d : Demand) (r : Read) (x : List ℕ) → IsCounted (executables_for d) (inputs_for d) r (given d r x)
counted_given demand.Accepted r x = let n = length-append r.executables (elf_of x ∷ []) in record { exes_are = n; inputs_are = omega arith }
counted_given demand.Named r x = let n = length-append r.executables (elf_of x ∷ []) in record { exes_are = n; inputs_are = omega arith }
counted_given demand.Unmapped r x = let n = length-append r.executables (elf_of x ∷ []) in record { exes_are = n; inputs_are = omega arith }
counted_given demand.ClassFile r x = record { exes_are = omega arith; inputs_are = omega arith }
counted_given demand.Input r x = let n = length-append r.inputs (input_of x ∷ []) in record { exes_are = omega arith; inputs_are = n }
counted_given demand.Trace r x = record { exes_are = omega arith; inputs_are = omega arith }

counted : (d : Demand) (name : List ℕ) (r : Read) (x : List ℕ) (next : Read) → taken_as d name r x ≡ Ok next → IsCounted (executables_for d) (inputs_for d) r next
counted d name r x next e = subst (λ (y : Read). IsCounted (executables_for d) (inputs_for d) r y) (sym (took d name r x next e).1) (counted_given d r x)

all_counted : (ws : List Wanted) (r last : Read) → AreTaken (λ name x. Unit {0}) ws r last → IsCounted (total executables_for ws) (total inputs_for ws) r last
unfolding total
all_counted [] r last e = subst (λ (y : Read). IsCounted 0 0 r y) e (record { exes_are = omega arith; inputs_are = omega arith })
all_counted (w ∷ ws) r last h =
    let one = counted w.demand w.name r h.1.0 h.0 h.1.2 in
    let rest = all_counted ws h.0 last h.2 in
    let a = one.exes_are in
    let b = rest.exes_are in
    let c = one.inputs_are in
    let d = rest.inputs_are in
    record { exes_are = omega (arith, a, b); inputs_are = omega (arith, c, d) }

-- ---- what is read first

begins_append : (d : Demand) (ws : List Wanted) (w : Wanted) → BeginsAs d ws → BeginsAs d (ws ++ w ∷ [])
begins_append d [] w h = absurd h
begins_append d (v ∷ ws) w h = h

module _ (d : Demand) where
  abbrev Stays : List Place → Planned → Type 0
  Stays ps p = BeginsAs d p.reads

  stays : (place : Place) (ps : List Place) (w : List ℕ) (p next : Planned) → Stays (place ∷ ps) p → said place w p ≡ Some next → Stays ps next
  stays (place.Read other) ps w p next h e =
      subst (λ (x : Planned). Stays ps x) (if_same (is_name w) _ next e) (begins_append d p.reads (wanted w other) h)
  stays place.Classes ps w p next h e = by (bytes_eq w (codes "-")) e
    where
      by : (b : Bool) → (if b then Some p else with_read w demand.ClassFile p) ≡ Some next → Stays ps next
      by true e = subst (λ (x : Planned). Stays ps x) (some_same p next e) h
      by false e = subst (λ (x : Planned). Stays ps x) (if_same (is_name w) _ next e) (begins_append d p.reads (wanted w demand.ClassFile) h)
  stays place.Write ps w p next h e = subst (λ (x : Planned). Stays ps x) (if_same (is_name w && not (is_among w p.writes)) _ next e) h
  stays (place.Number top) ps w p next h e = by (number_of top w) e
    where
      by : (o : Option ℕ) → option_map (λ n. valued (numbered n p.values) p) o ≡ Some next → Stays ps next
      by None e = absurd cc
      by (Some n) e = subst (λ (x : Planned). Stays ps x) (some_same _ next e) h
  stays place.Address ps w p next h e = by (address_of w) e
    where
      by : (o : Option ℕ) → option_map (λ a. valued (addressed a p.values) p) o ≡ Some next → Stays ps next
      by None e = absurd cc
      by (Some a) e = subst (λ (x : Planned). Stays ps x) (some_same _ next e) h
  stays place.Level ps w p next h e = by (level_of w) e
    where
      by : (o : Option Level) → option_map (λ l. valued (levelled l p.values) p) o ≡ Some next → Stays ps next
      by None e = absurd cc
      by (Some l) e = subst (λ (x : Planned). Stays ps x) (some_same _ next e) h
  stays place.Inputs ps w p next h e = absurd cc

  stays_all : (ws : List (List ℕ)) (p : Planned) → Stays [] p → Stays [] (with_inputs ws p)
  stays_all [] p h = h
  stays_all (w ∷ ws) p h = stays_all ws (reading w demand.Input p) (begins_append d p.reads (wanted w demand.Input) h)

  stays_last : (ps : List Place) (w : List ℕ) (ws : List (List ℕ)) (p : Planned) → Stays (place.Inputs ∷ ps) p → Stays [] (with_inputs (w ∷ ws) p)
  stays_last ps w ws p h = stays_all (w ∷ ws) p h

  begins_read : (ps : List Place) (w : List ℕ) (ws : List (List ℕ)) (p last : Planned) → p.reads ≡ [] → filled (place.Read d ∷ ps) (w ∷ ws) p ≡ Some last → BeginsAs d last.reads
  begins_read ps w ws p last none e = by (is_name w) e
    where
      by : (b : Bool) → option_and_then (λ next. filled ps ws next) (if b then Some (reading w d p) else None) ≡ Some last → BeginsAs d last.reads
      by true e = fill_rule Stays stays stays_last ps ws (reading w d p) last e (subst (λ (rs : List Wanted). BeginsAs d (rs ++ wanted w d ∷ [])) (sym none) refl)
      by false e = absurd cc

begins_as : (ps : List Place) (ws : List (List ℕ)) (p last : Planned) → p.reads ≡ [] → filled ps ws p ≡ Some last → Begins ps last.reads
begins_as (place.Read d ∷ ps) [] p last none e = absurd cc
begins_as (place.Read d ∷ ps) (w ∷ ws) p last none e = begins_read d ps w ws p last none e
begins_as _ ws p last none e = tt

-- it is fit for its place
suited : (d : Demand) (ws : List Wanted) (r : Read) → BeginsAs d ws → IsReadBy ws r → IsSuited d (exe_of r)
suited demand.Unmapped [] r begins h = absurd begins
suited demand.Unmapped (w ∷ ws) r begins h =
    let x = h.1.0 in
    let taken = subst (λ (d : Demand). taken_as d w.name nothing x ≡ Ok h.0) begins h.1.2 in
    let is = took demand.Unmapped w.name nothing x h.0 taken in
    let first : BeginsWith (elf_of x) h.0.executables = ([], ap (λ (y : Read). y.executables) is.1) in
    let exe = exe_is r (elf_of x) (first_stays (λ name y. Unit {0}) ws h.0 r (elf_of x) h.2 first) in
    subst (λ (y : List ℕ). CanLabel (elf_of y)) (sym exe) is.0.1
suited _ ws r begins h = tt

first_suited : (ps : List Place) (ws : List Wanted) (r : Read) → Begins ps ws → IsReadBy ws r → IsFirstSuited ps (exe_of r)
first_suited (place.Read d ∷ ps) ws r begins h = suited d ws r begins h
first_suited _ ws r begins h = tt

-- ---- each form

total_none : (f : Demand → ℕ) (n : ℕ) → total f [] + n ≡ n
unfolding total
total_none f n = omega arith

pub sound : (v : Verb) (ws : List (List ℕ)) (p : Planned) → filled (places_of v) ws (begun v) ≡ Some p → IsSound p
sound v ws p e =
    let ps = places_of v in
    let begins = total_none inputs_for (inputs_in ps) in
    let end : IsSoFar v (executables_in ps) (inputs_in ps) (writes_in ps) (greatest_in ps) [] p =
    at_end v (executables_in ps) (inputs_in ps) (writes_in ps) (greatest_in ps) ps ws (begun v) p e
    (record {
      verb_is = refl;
      exes_are = total_none executables_for (executables_in ps);
      inputs_are = omega (arith, begins);
      writes_are = omega arith;
      distinct = tt;
      most = omega arith;
      some = inr (omega arith);
    })
    in
    let many = end.writes_are in
    let begins : Begins ps p.reads = begins_as ps ws (begun v) p refl e in
    let at : Begins ps p.reads × (length p.writes ≡ writes_in ps) × ((r : Read) → IsReadBy p.reads r → Serves v p.values r) = (
      begins,
      omega (arith, many),
      λ r h.
          let read = all_counted p.reads nothing r h in
          let es = read.exes_are in
          let is = read.inputs_are in
          let needs = end.exes_are in
          let wants = end.inputs_are in
          let most = end.most in
          record {
            executables = omega (arith, es, needs);
            first = first_suited ps p.reads r begins h;
            inputs = omega (arith, is, wants);
            some = λ has. ⊎_elim (λ n. n) (λ none. absurd (omega (arith, has, none))) end.some;
            most = omega (arith, most);
          },
    )
    in
    let both = subst (λ (u : Verb). Begins (places_of u) p.reads × (length p.writes ≡ writes_in (places_of u)) × ((r : Read) → IsReadBy p.reads r → Serves u p.values r)) (sym end.verb_is) at in
    record { begins = both.0; distinct = end.distinct; many = both.1; serves = both.2 }
