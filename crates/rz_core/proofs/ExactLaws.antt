-- From the causes of all answers to the one that comes, for any command whose end is fixed by what was read.
use Rattle.std.proofs.Common.{◌≡◌, ℕ, List, [], ◌∷◌, inl, inr, ⊎_elim, refl, sym, ap, ◌∙◌, subst}
use Rattle.std.specs.Prelude.{◌⊎◌, Some, None, Result, Ok, Err}
use Rattle.rz_outside.specs.StoreAnswers.{Files}
use Rattle.rz_outside.specs.StoreCalls.{StoreCalls}
use Rattle.rz_outside.specs.SinkCalls.{SinkCalls}
use Rattle.rz_core.specs.declared.status.Status.{Status}
use Rattle.rz_core.specs.declared.status.Status.TheVariants as status
use Rattle.rz_core.specs.declared.status.Target.TheVariants as target
use Rattle.rz_core.specs.Statuses.{Kind, Done, TextLost, FileLost, NoMemory, Refused, kind_of}
use Rattle.rz_core.proofs.ResultLaws.{one_value, not_both}
use Rattle.rz_core.specs.declared.plan.Wanted.{Wanted}
use Rattle.rz_core.specs.Reading.{Read, nothing, taken, Course, ReadCause, ReadRefusal}
use Rattle.rz_core.specs.Command.{Command}
use Rattle.rz_core.specs.Causes.{LastAnswerOf, LastAnswer, CauseIn}
use Rattle.rz_core.specs.Exact.{IsQuiet, IsAnswered, IsInOrder, EndsExactly, IsExactIn}

-- what is read ends a command in one way
abbrev pub EndsOnce : Command → Type 0
EndsOnce c = (r : Read) (st other : Status) → c.work.Ends r st → c.work.Ends r other → st ≡ other

-- a result is one value
one_ok : (o : Result Read Status) (a b : Read) → o ≡ Ok a → o ≡ Ok b → a ≡ b
one_ok o a b e f = cc

one_err : (o : Result Read Status) (a b : Status) → o ≡ Err a → o ≡ Err b → a ≡ b
one_err o a b e f = cc

not_ok_err : {A : Type 0} (o : Result Read Status) (a : Read) (b : Status) → o ≡ Ok a → o ≡ Err b → A
not_ok_err o a b e f = absurd cc

-- where nothing fails, a read is refused for a missing name alone
missing : (s : StoreCalls) (k : SinkCalls) (name : List ℕ) → IsQuiet s k → ReadCause s name → s.old name ≡ None
missing s k name quiet cause = ⊎_elim (λ r. absurd (quiet.store r.0)) (λ m. m.1) cause

unread : (name : List ℕ) (s : StoreCalls) (st : Status) → ReadRefusal name s st → (st ≡ status.OutOfMemory) ⊎ ((st ≡ status.ReadFault name) × ReadCause s name)
unread name s (status.ReadFault file) h = inr (ap (λ f. status.ReadFault f) h.0, h.1)
unread name s status.OutOfMemory h = inl refl
unread name s _ h = absurd h

pub order_memory : (ws : List Wanted) (r : Read) (files : Files) (End : Read → Type 0) → ((last : Read) → End last) → IsInOrder ws r files End status.OutOfMemory
order_memory [] r files End e = e r
order_memory (w ∷ ws) r files End e =
    (record { missing = λ none. inr refl; refused = λ x st there u. inr refl }, λ next there. order_memory ws next files End e)

module _ (s : StoreCalls) (k : SinkCalls) (quiet : IsQuiet s k) (answer : Status) (w : Wanted) (r : Read) where
  -- what the name holds
  same : (x y : List ℕ) → s.old w.name ≡ Some x → s.old w.name ≡ Some y → taken w r y ≡ taken w r x
  same x y e f = ap (taken w r) (one_value (s.old w.name) y x f e)

  unfit : (x : List ℕ) → s.old w.name ≡ Some x → taken w r x ≡ Err answer → IsAnswered s.old w r answer
  unfit x there refuses =
      record {
        missing = λ none. absurd (not_both (s.old w.name) x there none);
        refused = λ y st e u. inl (one_err (taken w r y) answer st (same x y there e ∙ refuses) u);
      }

  fit : (x : List ℕ) (next : Read) → s.old w.name ≡ Some x → taken w r x ≡ Ok next → IsAnswered s.old w r answer
  fit x next there takes =
      record {
        missing = λ none. absurd (not_both (s.old w.name) x there none);
        refused = λ y st e u. not_ok_err (taken w r y) next st (same x y there e ∙ takes) u;
      }

  module _ (ws : List Wanted) (End : Read → Type 0) where
    unread_exact : (answer ≡ status.OutOfMemory → (last : Read) → End last) → (answer ≡ status.OutOfMemory) ⊎ ((answer ≡ status.ReadFault w.name) × ReadCause s w.name) → IsInOrder (w ∷ ws) r s.old End answer
    unread_exact o h = ⊎_elim wanting there_not h
      where
        wanting : answer ≡ status.OutOfMemory → IsInOrder (w ∷ ws) r s.old End answer
        wanting e = let P : Status → Type 0 = λ a. IsInOrder (w ∷ ws) r s.old End a in subst P (sym e) (order_memory (w ∷ ws) r s.old End (o e))

        there_not : (answer ≡ status.ReadFault w.name) × ReadCause s w.name → IsInOrder (w ∷ ws) r s.old End answer
        there_not u =
            let none = missing s k w.name quiet u.1 in (
              record { missing = λ e. inl u.0; refused = λ x st there v. absurd (not_both (s.old w.name) x there none) },
              λ next there. absurd (not_both (s.old w.name) there.0 there.1 none),
            )

    unfit_exact : (x : List ℕ) → s.old w.name ≡ Some x → taken w r x ≡ Err answer → IsInOrder (w ∷ ws) r s.old End answer
    unfit_exact x there refuses =
        (unfit x there refuses, λ next takes. not_ok_err (taken w r x) next answer (same takes.0 x takes.1 there ∙ takes.2) refuses)

-- a course is the order of the answers, where nothing fails
course_exact : (ws : List Wanted) (r : Read) (s : StoreCalls) (k : SinkCalls) (P : Read → Status → Type 0) (End : Read → Type 0) (answer : Status) → IsQuiet s k
    → ((last : Read) → P last answer → End last) → (answer ≡ status.OutOfMemory → (last : Read) → End last) → Course ws r s P answer → IsInOrder ws r s.old End answer
course_exact [] r s k P End answer q f o h = f r h
course_exact (w ∷ ws) r s k P End answer q f o h =
    ⊎_elim
    (λ x. ⊎_elim (λ u. unread_exact s k q answer w r ws End o (unread w.name s answer u)) (λ u. unfit_exact s k q answer w r ws End u.0 (u.1 q.told) u.2) x)
    (λ x. (
      fit s k q answer w r x.1.0 x.0 (x.1.1 q.told) x.1.2,
      λ next there. subst (λ n. IsInOrder ws n s.old End answer)
          (one_ok (taken w r x.1.0) x.0 next x.1.2 (same s k q answer w r there.0 x.1.0 there.1 (x.1.1 q.told) ∙ there.2))
          (course_exact ws x.0 s k P End answer q f o x.2),
    )) h

no_memory : (st : Status) → kind_of st ≡ NoMemory → st ≡ status.OutOfMemory
no_memory status.OutOfMemory e = refl
no_memory (status.WriteFault target.Text) e = absurd cc
no_memory (status.WriteFault target.File) e = absurd cc
no_memory _ e = absurd cc

module _ (c : Command) (once : EndsOnce c) (s : StoreCalls) (k : SinkCalls) (answer : Status) (quiet : IsQuiet s k) where
  ends_exactly : (kind : Kind) → kind_of answer ≡ kind → (r : Read) → LastAnswerOf kind c s k r answer → EndsExactly c answer r
  ends_exactly Done e r h = λ st says. inl (once r answer st (subst (λ (a : Status). c.work.Ends r a) h.1 h.2.0.ends) says)
  ends_exactly TextLost e r h = absurd (quiet.sink h.0)
  ends_exactly FileLost e r h = absurd (quiet.store h.0.0)
  ends_exactly NoMemory e r h = λ st says. inr (no_memory answer e)
  ends_exactly Refused e r h = λ st says. inl (once r answer st h says)

  pub exactly : CauseIn c s k answer → IsExactIn c s.old answer
  exactly h =
      course_exact c.reads nothing s k (LastAnswer c s k) (EndsExactly c answer) answer quiet (ends_exactly (kind_of answer) refl)
      (λ e last st says. inr e) h
