-- From what a command reads, gives, writes and puts to what the whole call says, for any command.
use Rattle.std.proofs.Common.{◌≡◌, ℕ, inl, inr, ⊎_elim, refl, sym, subst}
use Rattle.std.specs.Prelude.{Ok, Err, take}
use Rattle.rz_outside.specs.Counts.{Rose}
use Rattle.rz_outside.specs.StoreAnswers.{SameFiles}
use Rattle.rz_outside.specs.StoreCalls.{StoreCalls, Held}
use Rattle.rz_outside.specs.SinkCalls.{SinkCalls}
use Rattle.rz_outside.specs.SinkAnswers.{appended}
use Rattle.rz_core.specs.declared.status.Status.{Status}
use Rattle.rz_core.specs.declared.status.Status.TheVariants as status
use Rattle.rz_core.specs.declared.status.Target.TheVariants as target
use Rattle.rz_core.specs.Statuses.{Kind, Done, TextLost, FileLost, NoMemory, Refused, kind_of}
use Rattle.rz_core.specs.Statuses.{refusal_text}
use Rattle.rz_core.specs.declared.outcome.Outcome.{Outcome}
use Rattle.rz_core.specs.Reading.{Read, nothing, AreTaken, IsUnread}
use Rattle.rz_core.specs.Writing.{OthersStay, AreWritten, WriteRefusal}
use Rattle.rz_core.specs.Command.{Command, IsOutcome}
use Rattle.rz_core.specs.Causes.{LastRefusalOf, LastRefusal, LastAnswerOf, LastAnswer, CauseIn, Gives, FilesAfterOf, SinkAfterOf, GotText, GotRefusal}
use Rattle.rz_core.specs.Calls.Making.{EndRefusalOf}
use Rattle.rz_core.specs.Calls.Outcomes.{OwnRefusal}
use Rattle.rz_core.specs.Calls.Carried.{IsCarried, IsCarriedOut}
use Rattle.rz_core.specs.Calls.Putting.{PutAfter, RefusedAfter, Runs}
use Rattle.rz_core.proofs.CourseLaws.{IsEarly, course_map, course_memory, course_end, course_early, IsUndone, course_undone}
use Rattle.rz_core.proofs.WriteLaws.{weaker_up_to}

module _ (c : Command) (s : StoreCalls) where
  -- ---- refusals before the first write

  files_early : (kind : Kind) → IsEarly kind → SameFiles s.old s.new → FilesAfterOf kind c s
  files_early NoMemory is same = inl same
  files_early Refused is same = same
  files_early _ is same = absurd is

  pub unread : (st : Status) → IsUnread c.reads nothing s st → SameFiles s.old s.new → IsCarriedOut c s (Err st)
  unread st h same = (
    files_early (kind_of st) (course_early c.reads nothing s _ st (λ last none. absurd none) h) same,
    course_map c.reads nothing s _ (LastRefusal c s) st (λ last none. absurd none) h,
  )

  own_early : (kind : Kind) (r : Read) (st : Status) → EndRefusalOf kind (c.work.Ends r) st → IsEarly kind
  own_early NoMemory r st h = tt
  own_early Refused r st h = tt
  own_early _ r st h = absurd h

  own_last : (kind : Kind) (r : Read) (st : Status) → EndRefusalOf kind (c.work.Ends r) st → LastRefusalOf kind c s r st
  own_last NoMemory r st h = tt
  own_last Refused r st h = h
  own_last _ r st h = absurd h

  module _ (r : Read) (read : AreTaken (Held s) c.reads nothing r) where
    pub own : (st : Status) → OwnRefusal c.work r st → SameFiles s.old s.new → IsCarriedOut c s (Err st)
    own st h same = (
      files_early (kind_of st) (own_early (kind_of st) r st h) same,
      course_end c.reads nothing s (LastRefusal c s) st r read (own_last (kind_of st) r st h),
    )

    -- ---- writes

    module _ (o : Outcome) (is : IsOutcome c r o) where
      gives : Gives c s o
      gives = (r, read, is)

      pub unwritten : (st : Status) → OthersStay c.writes s → WriteRefusal c.writes o.writes.items s st → IsCarriedOut c s (Err st)
      unwritten (status.WriteFault target.File) others h = (
        (others, (o, gives, h.1)),
        course_end c.reads nothing s (LastRefusal c s) (status.WriteFault target.File) r read (h.0, (o, is)),
      )
      unwritten status.OutOfMemory others h = (
        inr (others, (o, gives, h)),
        course_memory c.reads nothing s (LastRefusal c s) (λ last. tt),
      )
      unwritten _ others h = absurd h

      pub carried : OthersStay c.writes s → AreWritten s c.writes o.writes.items → IsCarriedOut c s (Ok o)
      carried others written = record { others = others; gives = gives; written = written }

  -- ---- texts

  module _ (k : SinkCalls) where
    -- want of memory after anything
    files_wanting : (kind : Kind) → FilesAfterOf kind c s → FilesAfterOf NoMemory c s
    files_wanting Done f = inr (f.0, (f.1.0, f.1.1, λ told. inl (f.1.2 told)))
    files_wanting TextLost f = inr (f.0, (f.1.0, f.1.1, λ told. inl (f.1.2 told)))
    files_wanting FileLost f =
        inr (f.0, (f.1.0, f.1.1, λ told. inr (weaker_up_to _ (λ name. Unit {0}) s c.writes f.1.0.writes.items (λ name e. tt) (f.1.2 told))))
    files_wanting NoMemory f = f
    files_wanting Refused f = inl f

    last_answer : (kind : Kind) (r : Read) (st : Status) → LastRefusalOf kind c s r st → LastAnswerOf kind c s k r st
    last_answer Done r st h = absurd h
    last_answer TextLost r st h = absurd h
    last_answer FileLost r st h = h
    last_answer NoMemory r st h = h
    last_answer Refused r st h = h

    undone : (kind : Kind) (r : Read) (st : Status) → LastRefusalOf kind c s r st → IsUndone kind
    undone Done r st h = h
    undone TextLost r st h = h
    undone FileLost r st h = tt
    undone NoMemory r st h = tt
    undone Refused r st h = tt

    sink_refused : (kind : Kind) (st : Status) → IsUndone kind → GotRefusal k st → SinkAfterOf kind c s k st
    sink_refused Done st is g = absurd is
    sink_refused TextLost st is g = absurd is
    sink_refused FileLost st is g = g
    sink_refused NoMemory st is g = g
    sink_refused Refused st is g = g

    got_refusal : (st : Status) → GotText k (refusal_text st) → ((st ≡ status.OutOfMemory) → k.new ≡ k.old) → GotRefusal k st
    got_refusal status.OutOfMemory g m = m refl
    got_refusal _ g m = g

    pub refused : (st answer : Status) → IsCarriedOut c s (Err st) → RefusedAfter st k answer → Runs c s k answer
    refused st answer h after = ⊎_elim wanting stays after
      where
        wanting : (answer ≡ status.OutOfMemory) × (k.new ≡ k.old) → Runs c s k answer
        wanting m =
            let P : Status → Type 0 = λ a. Runs c s k a in
            let at : Runs c s k status.OutOfMemory = record {
              cause = course_memory c.reads nothing s (LastAnswer c s k) (λ last. tt);
              files = files_wanting (kind_of st) h.0;
              sink = m.1;
            }
            in
            subst P (sym m.0) at

        stays : (answer ≡ st) × GotText k (refusal_text st) × (st ≡ status.OutOfMemory → k.new ≡ k.old) → Runs c s k answer
        stays g =
            let P : Status → Type 0 = λ a. Runs c s k a in
            let is : IsUndone (kind_of st) = course_undone c.reads nothing s (LastRefusal c s) st (λ last x. undone (kind_of st) last st x) h.1 in
            let at : Runs c s k st = record {
              cause = course_map c.reads nothing s (LastRefusal c s) (LastAnswer c s k) st (λ last x. last_answer (kind_of st) last st x) h.1;
              files = h.0;
              sink = sink_refused (kind_of st) st is (got_refusal st g.1 g.2);
            }
            in
            subst P (sym g.0) at

    module _ (o : Outcome) (done : IsCarried c s o) where
      abbrev r : Read
      r = done.gives.0

      read : AreTaken (Held s) c.reads nothing r
      read = done.gives.1

      is : IsOutcome c r o
      is = done.gives.2

      at_kind : (P : Kind → Type 0) → P Done → P (kind_of o.status)
      at_kind P p = subst P (sym is.kind) p

      ends : (st : Status) → LastAnswer c s k r st → CauseIn c s k st
      ends st h = course_end c.reads nothing s (LastAnswer c s k) st r read h

      pub put : (answer : Status) → PutAfter o k answer → Runs c s k answer
      put answer after = ⊎_elim whole (λ rest. ⊎_elim lost wanting rest) after
        where
          P : Status → Type 0
          P a = Runs c s k a

          files : FilesAfterOf Done c s
          files = (done.others, (o, done.gives, done.written))

          whole : (answer ≡ o.status) × (k.new ≡ appended k.old o.text) → Runs c s k answer
          whole h =
              let at : Runs c s k o.status = record {
                cause = ends o.status (at_kind (λ (n : Kind). LastAnswerOf n c s k r o.status) (o, refl, (is, done.written)));
                files = at_kind (λ (n : Kind). FilesAfterOf n c s) files;
                sink = at_kind (λ (n : Kind). SinkAfterOf n c s k o.status) (o, refl, (done.gives, done.written), h.1);
              }
              in
              subst P (sym h.0) at

          lost : (answer ≡ status.WriteFault target.Text) × Rose k.before k.now × ((n : ℕ) × (k.new ≡ appended k.old (take n o.text))) → Runs c s k answer
          lost h =
              let at : Runs c s k (status.WriteFault target.Text) = record {
                cause = ends (status.WriteFault target.Text) (h.1, (o, (is, done.written)));
                files = files;
                sink = (o, (done.gives, done.written), h.2);
              }
              in
              subst P (sym h.0) at

          wanting : (answer ≡ status.OutOfMemory) × (k.new ≡ k.old) → Runs c s k answer
          wanting h =
              let at : Runs c s k status.OutOfMemory = record {
                cause = ends status.OutOfMemory tt;
                files = files_wanting Done files;
                sink = h.1;
              }
              in
              subst P (sym h.0) at
