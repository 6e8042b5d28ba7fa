-- What a comparison's loops come to.
use Rattle.std.proofs.Common.{◌*◌, Option, Some, None, is_some, ◌≡◌, ℕ, suc, ◌+◌, ◌<◌, ◌≤◌, Bool, true, false, ◌&&◌, if◌then◌else◌, nat_eq, nat_lt, ◌==◌, List, [], ◌∷◌, length, get_or, drop, refl, sym, ap, ap₂, ◌∙◌, arith, ◌⊎◌, inl, inr, le-ltb}
use Rattle.std.specs.List.{starts_with}
use Rattle.std.specs.Cmp.Lexicographic.{pointwise}
use Rattle.std.proofs.lemmas.List.{drop_more, drop_all}
use Rattle.std.proofs.lemmas.Bool.Decides.{nat_tests}
use Rattle.rz_isa.specs.Nodes.{Decoder}
use Rattle.rz_elf.specs.Loaded.{ElfFile}
use Rattle.rz_sys.specs.declared.event.Event.{Event}
use Rattle.rz_sys.specs.declared.input.Input.{Input}
use Rattle.rz_machine.specs.declared.machine.Machine.{Machine}
use Rattle.rz_machine.specs.Start.{first_state}
use Rattle.rz_machine.specs.State.{after}
use Rattle.rz_machine.specs.Stub.{stub_word_of}
use Rattle.rz_machine.specs.Until.{steps_until}
use Rattle.rz_machine.specs.declared.machine.End.{End}
use Rattle.rz_elf.specs.Executable.{executable_size}
use Rattle.rz_replay.specs.declared.compare.Ran.{Ran}
use Rattle.rz_replay.specs.declared.compare.Verdict.{Verdict}
use Rattle.rz_replay.specs.Verdict.{same_event, first_difference, is_decided, until_decided, new_run, ran_of, verdict_at, verdict_of}

-- ---- the first place where two lists differ

-- a place where they don't
pub place_on : (xs ys : List Event) (i : ℕ) (d e : Event) → i < length xs → i < length ys → same_event (get_or xs i d) (get_or ys i e) ≡ true
    → first_difference (drop i xs) (drop i ys) ≡ 1 + first_difference (drop (i + 1) xs) (drop (i + 1) ys)
place_on xs ys i d e la lb same =
    ap₂ first_difference (drop_more xs i d la) (drop_more ys i e lb)
    ∙ ap (λ b. if b then 1 + first_difference (drop (i + 1) xs) (drop (i + 1) ys) else 1) same

-- and the place where they do
pub place_here : (xs ys : List Event) (i : ℕ) (d e : Event) → i < length xs → i < length ys → same_event (get_or xs i d) (get_or ys i e) ≡ false
    → first_difference (drop i xs) (drop i ys) ≡ 1
place_here xs ys i d e la lb other =
    ap₂ first_difference (drop_more xs i d la) (drop_more ys i e lb)
    ∙ ap (λ b. if b then 1 + first_difference (drop (i + 1) xs) (drop (i + 1) ys) else 1) other

-- one past the shorter
place_none : (xs : List Event) → first_difference xs [] ≡ 1
place_none [] = refl
place_none (x ∷ xs) = refl

pub place_past : (xs ys : List Event) (i : ℕ) → (length xs ≤ i) ⊎ (length ys ≤ i) → first_difference (drop i xs) (drop i ys) ≡ 1
place_past xs ys i (inl le) = ap (λ l. first_difference l (drop i ys)) (drop_all i xs le)
place_past xs ys i (inr le) = ap (first_difference (drop i xs)) (drop_all i ys le) ∙ place_none (drop i xs)

-- ---- what the place tells

same_number : (m n : ℕ) → (m == n) ≡ (n == m)
same_number m n = grind (arith, nat_tests)

same_numbers : (ms ns : List ℕ) → pointwise nat_eq ms ns ≡ pointwise nat_eq ns ms
same_numbers [] [] = refl
same_numbers [] (n ∷ ns) = refl
same_numbers (m ∷ ms) [] = refl
same_numbers (m ∷ ms) (n ∷ ns) = ap₂ ◌&&◌ (same_number m n) (same_numbers ms ns)

same_event-sym : (a b : Event) → same_event a b ≡ same_event b a
same_event-sym a b =
    ap₂ ◌&&◌ (ap₂ ◌&&◌ (ap₂ ◌&&◌ (same_number a.number b.number) (same_numbers a.args b.args)) (same_number a.answer b.answer)) (same_numbers a.bytes b.bytes)

pub prefix_place : (xs ys : List Event) → starts_with same_event xs ys ≡ nat_lt (length ys) (first_difference xs ys)
prefix_place [] [] = refl
prefix_place (x ∷ xs) [] = refl
prefix_place [] (y ∷ ys) = sym (le-ltb (length (y ∷ ys)) 1 (omega arith))
prefix_place (x ∷ xs) (y ∷ ys) =
    ap (λ c. c && starts_with same_event xs ys) (same_event-sym y x) ∙ go (same_event x y) (starts_with same_event xs ys) (first_difference xs ys) (prefix_place xs ys)
  where
    go : (c p : Bool) (k : ℕ) → p ≡ nat_lt (length ys) k → (c && p) ≡ nat_lt (suc (length ys)) (if c then 1 + k else 1)
    go true p k h = grind (arith, nat_tests, h)
    go false p k h = grind (arith, nat_tests)

pub equal_place : (xs ys : List Event) → pointwise same_event xs ys ≡ (nat_lt (length xs) (first_difference xs ys) && nat_lt (length ys) (first_difference xs ys))
equal_place [] [] = refl
equal_place (x ∷ xs) [] = sym (ap (λ b. b && nat_lt 0 1) (le-ltb (length (x ∷ xs)) 1 (omega arith)))
equal_place [] (y ∷ ys) = sym (ap (λ b. nat_lt 0 1 && b) (le-ltb (length (y ∷ ys)) 1 (omega arith)))
equal_place (x ∷ xs) (y ∷ ys) = go (same_event x y) (pointwise same_event xs ys) (length xs) (length ys) (first_difference xs ys) (equal_place xs ys)
  where
    go : (c p : Bool) (m n k : ℕ) → p ≡ (nat_lt m k && nat_lt n k)
        → (c && p) ≡ (nat_lt (suc m) (if c then 1 + k else 1) && nat_lt (suc n) (if c then 1 + k else 1))
    go true p m n k h = grind (arith, nat_tests, h)
    go false p m n k h = grind (arith, nat_tests)

-- ---- how far the new file is run

-- where the old run has ended
pub decided_run : (dec : Decoder) (limit : ℕ) (new : ElfFile) (events : List Event) (end : Option End) (s t : Machine) (k size : ℕ)
    → is_some end ≡ true → size ≡ executable_size new → k ≡ steps_until (is_decided (length events)) dec (limit * (64 + size)) s → t ≡ after dec k s
    → t ≡ new_run dec limit new (record { events = events; end = end }) s
unfolding until_decided
decided_run dec limit new events None s t k size h same steps ran = cc
decided_run dec limit new events (Some why) s t k size h same steps ran =
    ran ∙ ap (λ j. after dec j s) steps ∙ ap (λ n. after dec (steps_until (is_decided (length events)) dec (limit * (64 + n)) s) s) same

-- ---- the verdict

pub verdict_is : (dec : Decoder) (old new : ElfFile) (limit : ℕ) (input : Input) (wanted : Ran) (found : Machine) (v : Verdict) → wanted ≡ ran_of (after dec limit (first_state old input)) → found ≡ new_run dec limit new wanted (first_state new input) → v ≡ verdict_at (stub_word_of new found) wanted (ran_of found)
    → v ≡ verdict_of dec old new limit input
unfolding verdict_of
verdict_is dec old new limit input wanted found v first second third =
    let at = λ (o : Ran) (n : Machine). verdict_at (stub_word_of new n) o (ran_of n) in
    third ∙ ap₂ at first (second ∙ ap (λ (o : Ran). new_run dec limit new o (first_state new input)) first)
