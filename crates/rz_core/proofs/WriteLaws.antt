-- Files that are written in order.
use Rattle.std.proofs.Common.{arith, suc, ◌≡◌, ℕ, ◌≤◌, ◌<◌, ◌-◌, get_or, drop, take, take_all, ap₂, ◌∙◌, List, [], ◌∷◌, inl, inr, ⊎_elim, sym, subst}
use Rattle.std.specs.Prelude.{IsTrue, Some, length}
use Rattle.std.specs.List.{AllByRecursion}
use Rattle.rz_outside.specs.Counts.{Rose, rose_later}
use Rattle.rz_outside.specs.StoreAnswers.{SameFiles, SameOthers}
use Rattle.rz_outside.specs.StoreCalls.{StoreCalls}
use Rattle.rz_core.specs.declared.status.Status.{Status}
use Rattle.rz_core.specs.declared.status.Status.TheVariants as status
use Rattle.rz_core.specs.declared.status.Target.TheVariants as target
use Rattle.rz_core.specs.Writing.{IsNone, IsAmong, OthersStay, AreUnchanged, HoldEach, HoldsOldOrPart, WrittenUpTo, WriteRefusal, IsWritten, OneRefusal}

-- calls of which the later begin where others ended, up to the same moment
pub record Later (s t : StoreCalls) : Type 0 where
  pub told : t.told ≡ s.told
  pub before : s.before ≤ t.before
  pub now : t.now ≡ s.now
  pub failed : t.failed ≡ s.failed
  pub new : (q : List ℕ) → t.new q ≡ s.new q

-- these files weren't changed between
abbrev pub AreKept : List (List ℕ) → StoreCalls → StoreCalls → Type 0
AreKept names s t = AllByRecursion (λ name. t.old name ≡ s.old name) names

pub all_kept : (names : List (List ℕ)) (s t : StoreCalls) → SameFiles s.old t.old → AreKept names s t
all_kept [] s t same = tt
all_kept (name ∷ names) s t same = (same name, all_kept names s t same)

pub weaker_up_to : (P Q : List ℕ → Type 0) (s : StoreCalls) (names ws : List (List ℕ)) → ((name : List ℕ) → P name → Q name) → WrittenUpTo P s names ws → WrittenUpTo Q s names ws
weaker_up_to P Q s [] ws f h = h
weaker_up_to P Q s (name ∷ names) [] f h = h
weaker_up_to P Q s (name ∷ names) (w ∷ ws) f h = ⊎_elim (λ x. inl (f name x.0, x.1, x.2)) (λ x. inr (x.0, weaker_up_to P Q s names ws f x.1)) h

module _ (s t : StoreCalls) (later : Later s t) where
  rose : Rose t.before t.now → Rose s.before s.now
  rose h = subst (Rose s.before) later.now (rose_later s.before t.before t.now later.before h)

  pub later_part : (name w : List ℕ) → t.old name ≡ s.old name → HoldsOldOrPart t name w → HoldsOldOrPart s name w
  later_part name w same h = ⊎_elim (λ e. inl (sym (later.new name) ∙ (e ∙ same))) (λ p. inr (rose p.0, (p.1.0, sym (later.new name) ∙ p.1.1))) h

  later_unchanged : (names : List (List ℕ)) → AreKept names s t → AreUnchanged names t → AreUnchanged names s
  later_unchanged [] same h = tt
  later_unchanged (name ∷ names) same h = (sym (later.new name) ∙ (h.0 ∙ same.0), later_unchanged names same.1 h.1)

  later_up_to : (P : List ℕ → Type 0) (names ws : List (List ℕ)) → AreKept names s t → WrittenUpTo P t names ws → WrittenUpTo P s names ws
  later_up_to P [] ws same h = h
  later_up_to P (name ∷ names) [] same h = h
  later_up_to P (name ∷ names) (w ∷ ws) same h =
      ⊎_elim (λ x. inl (x.0, later_part name w same.0 x.1, later_unchanged names same.1 x.2)) (λ x. inr (sym (later.new name) ∙ x.0, later_up_to P names ws same.1 x.1)) h

  later_each : (names ws : List (List ℕ)) → HoldEach t.new names ws → HoldEach s.new names ws
  later_each [] [] x = x
  later_each [] (w ∷ ws) x = x
  later_each (name ∷ names) [] x = x
  later_each (name ∷ names) (w ∷ ws) x = (sym (later.new name) ∙ x.0, later_each names ws x.1)

  pub later_write : (names ws : List (List ℕ)) (st : Status) → AreKept names s t → WriteRefusal names ws t st → WriteRefusal names ws s st
  later_write names ws (status.WriteFault target.File) same h = (
    (rose h.0.0, subst (λ (q : List ℕ). IsAmong q names) later.failed h.0.1),
    λ told. weaker_up_to (λ name. t.failed ≡ name) (λ name. s.failed ≡ name) s names ws (λ name e. sym later.failed ∙ e) (later_up_to (λ name. t.failed ≡ name) names ws same (h.1 (subst IsTrue (sym later.told) told))),
  )
  later_write names ws status.OutOfMemory same h = λ told.
      ⊎_elim (λ x. inl (later_each names ws x)) (λ x. inr (later_up_to (λ name. Unit {0}) names ws same x)) (h (subst IsTrue (sym later.told) told))
  later_write names ws _ same h = absurd h

pub unchanged_none : (names : List (List ℕ)) (name : List ℕ) (s : StoreCalls) → SameOthers name s.old s.new → IsNone name names → AreUnchanged names s
unchanged_none [] name s others apart = tt
unchanged_none (other ∷ names) name s others apart = (others other (λ e. apart.0 (sym e)), unchanged_none names name s others apart.1)

pub kept_none : (names : List (List ℕ)) (name : List ℕ) (s t : StoreCalls) → SameOthers name s.old t.old → IsNone name names → AreKept names s t
kept_none [] name s t others apart = tt
kept_none (other ∷ names) name s t others apart = (others other (λ e. apart.0 (sym e)), kept_none names name s t others apart.1)

module _ (name w : List ℕ) (rest more : List (List ℕ)) (apart : IsNone name rest) (s : StoreCalls) where
  -- the first write is refused
  pub first_refused : SameOthers name s.old s.new → (st : Status) → OneRefusal name w s st → WriteRefusal (name ∷ rest) (w ∷ more) s st
  first_refused others (status.WriteFault target.File) h =
      ((h.0, inl h.1), λ told. inl (h.1, h.2 told, unchanged_none rest name s others apart))
  first_refused others status.OutOfMemory h = λ told. inr (inl (tt, inl h, unchanged_none rest name s others apart))
  first_refused others _ h = absurd h

  prepend : (st : Status) → IsWritten s name w → WriteRefusal rest more s st → WriteRefusal (name ∷ rest) (w ∷ more) s st
  prepend (status.WriteFault target.File) whole h = ((h.0.0, inr h.0.1), λ told. inr (whole told, h.1 told))
  prepend status.OutOfMemory whole h = λ told. ⊎_elim (λ e. inl (whole told, e)) (λ u. inr (inr (whole told, u))) (h told)
  prepend _ whole h = absurd h

  -- the first file is written, and a later one is refused
  pub later_refused : (t : StoreCalls) → Later s t → (IsTrue s.told → t.old name ≡ Some w) → SameOthers name s.old t.old → OthersStay rest t
      → (st : Status) → WriteRefusal rest more t st → WriteRefusal (name ∷ rest) (w ∷ more) s st
  later_refused t later first others stay st h =
      prepend st (λ told. sym (later.new name) ∙ (stay name apart ∙ first told)) (later_write s t later rest more st (kept_none rest name s t others apart) h)

-- a list by its first element and the rest of the slice
abbrev pub rest_of : List (List ℕ) → List (List ℕ)
rest_of xs = take (length xs - 1) (drop 1 xs)

pub first_of : (xs : List (List ℕ)) (x : List ℕ) → 0 < length xs → x ≡ get_or xs 0 x → xs ≡ x ∷ rest_of xs
first_of [] x inside is = absurd (omega arith)
first_of (y ∷ ys) x inside is =
    let rest : rest_of (y ∷ ys) ≡ ys = take_all (suc (length ys) - 1) ys (omega arith) in
    sym (ap₂ (λ (h : List ℕ) (t : List (List ℕ)). h ∷ t) is rest)
