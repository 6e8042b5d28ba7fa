-- The answers of commands that read files in order.
use Rattle.std.proofs.Common.{◌≡◌, ℕ, Bool, true, false, if◌then◌else◌, ◌≤◌, ◌∙◌, List, [], ◌∷◌, inl, inr, ⊎_elim, IsTrue, sym, subst}
use Rattle.std.specs.Prelude.{Option, Some, None, Result, Ok, Err}
use Rattle.rz_outside.specs.Counts.{Rose, rose_later}
use Rattle.rz_outside.specs.StoreAnswers.{SameFiles}
use Rattle.rz_outside.specs.StoreCalls.{StoreCalls, Held}
use Rattle.rz_elf.specs.Elf.{fault_of}
use Rattle.rz_classes.specs.Fault.{fault_of as class_fault_of}
use Rattle.rz_input.specs.Fault.{fault_of as input_fault_of}
use Rattle.rz_trace.specs.Fault.{fault_of as trace_fault_of}
use Rattle.rz_elf.specs.Loaded.{ElfFile, elf_of}
use Rattle.rz_elf.specs.Stamped.{stamp_of}
use Rattle.rz_syms.specs.Fault.{fault_of as symbol_fault_of}
use Rattle.rz_label.specs.Labelled.{maps_header}
use Rattle.rz_core.specs.declared.status.Status.{Status}
use Rattle.rz_core.specs.declared.status.Status.TheVariants as status
use Rattle.rz_core.specs.Statuses.{Kind, Done, TextLost, NoMemory, Refused, kind_of}
use Rattle.rz_core.specs.Reading.{ReadRefusal}
use Rattle.rz_core.specs.declared.plan.Demand.{Demand}
use Rattle.rz_core.specs.declared.plan.Demand.TheVariants as demand
use Rattle.rz_core.specs.declared.plan.Wanted.{Wanted}
use Rattle.rz_core.specs.Reading.{Read, judged, asked, unmapped, class_text, taken_as, IsTaken, AreTaken, FileRefusal, Course}

pub course_map : (ws : List Wanted) (r : Read) (s : StoreCalls) (P Q : Read → Status → Type 0) (st : Status) → ((last : Read) → P last st → Q last st) → Course ws r s P st → Course ws r s Q st
course_map [] r s P Q st f h = f r h
course_map (w ∷ ws) r s P Q st f h = ⊎_elim (λ x. inl x) (λ x. inr (x.0, x.1, course_map ws x.0 s P Q st f x.2)) h

-- memory may be wanting at any time
pub course_memory : (ws : List Wanted) (r : Read) (s : StoreCalls) (P : Read → Status → Type 0) → ((last : Read) → P last status.OutOfMemory) → Course ws r s P status.OutOfMemory
course_memory [] r s P p = p r
course_memory (w ∷ ws) r s P p = inl (inl tt)

-- all files were read
pub course_end : (ws : List Wanted) (r : Read) (s : StoreCalls) (P : Read → Status → Type 0) (st : Status) (last : Read) → AreTaken (Held s) ws r last → P last st → Course ws r s P st
course_end [] r s P st last e p = subst (λ (x : Read). P x st) (sym e) p
course_end (w ∷ ws) r s P st last all p = inr (all.0, all.1, course_end ws all.0 s P st last all.2 p)

-- an answer that comes before a write
abbrev pub IsEarly : Kind → Type 0
IsEarly NoMemory = Unit {0}
IsEarly Refused = Unit {0}
IsEarly _ = ⊥

abbrev pub IsEarlyAt : Status → Type 0
IsEarlyAt st = IsEarly (kind_of st)

read_early : (name : List ℕ) (s : StoreCalls) (st : Status) → ReadRefusal name s st → IsEarlyAt st
read_early name s (status.ReadFault file) h = tt
read_early name s status.OutOfMemory h = tt
read_early name s _ h = absurd h

judged_early : {E : Type 0} (o : Option E) (refusal : E → Status) (next : Result Read Status) (st : Status) → ((f : E) → IsEarlyAt (refusal f)) → (next ≡ Err st → IsEarlyAt st) → judged o refusal next ≡ Err st → IsEarlyAt st
judged_early None refusal next st f g e = g e
judged_early (Some x) refusal next st f g e = let same : refusal x ≡ st = cc in subst IsEarlyAt same (f x)

not_err : (r : Read) (st : Status) → Ok r ≡ Err st → IsEarlyAt st
not_err r st e = absurd cc

unmapped_early : (name : List ℕ) (elf : ElfFile) (next : Result Read Status) (st : Status) → (next ≡ Err st → IsEarlyAt st) → unmapped name elf next ≡ Err st → IsEarlyAt st
unmapped_early name elf next st g e = by (stamp_of elf) (maps_header elf) e
  where
    by : (o : Option ℕ) (b : Bool) → asked o (status.NotStamped name) (if b then Err (status.HeaderMapped name) else next) ≡ Err st → IsEarlyAt st
    by None b e = let same : status.NotStamped name ≡ st = cc in subst IsEarlyAt same tt
    by (Some n) true e = let same : status.HeaderMapped name ≡ st = cc in subst IsEarlyAt same tt
    by (Some n) false e = g e

taken_early : (d : Demand) (name : List ℕ) (r : Read) (x : List ℕ) (st : Status) → taken_as d name r x ≡ Err st → IsEarlyAt st
taken_early demand.Accepted name r x st e = judged_early (fault_of x) _ _ st (λ f. tt) (not_err _ st) e
taken_early demand.Named name r x st e = judged_early (fault_of x) _ _ st (λ f. tt) (λ h. judged_early (symbol_fault_of x) _ _ st (λ f. tt) (not_err _ st) h) e
taken_early demand.Unmapped name r x st e = judged_early (fault_of x) _ _ st (λ f. tt) (λ h. unmapped_early name (elf_of x) _ st (not_err _ st) h) e
taken_early demand.ClassFile name r x st e = judged_early (class_fault_of (class_text r x)) _ _ st (λ f. tt) (not_err _ st) e
taken_early demand.Input name r x st e = judged_early (input_fault_of x) _ _ st (λ f. tt) (not_err _ st) e
taken_early demand.Trace name r x st e = judged_early (trace_fault_of x) _ _ st (λ f. tt) (not_err _ st) e

pub refusal_early : (w : Wanted) (r : Read) (s : StoreCalls) (st : Status) → FileRefusal w r s st → IsEarlyAt st
refusal_early w r s st h = ⊎_elim (λ u. read_early w.name s st u) (λ u. taken_early w.demand w.name r u.0 st u.2) h

pub course_early : (ws : List Wanted) (r : Read) (s : StoreCalls) (P : Read → Status → Type 0) (st : Status) → ((last : Read) → P last st → IsEarlyAt st) → Course ws r s P st → IsEarlyAt st
course_early [] r s P st f h = f r h
course_early (w ∷ ws) r s P st f h =
    ⊎_elim (λ x. refusal_early w r s st x)
    (λ x. course_early ws x.0 s P st f x.2) h

-- what a later read says of an earlier moment, between which no file changed
later_read : (name : List ℕ) (s t : StoreCalls) (st : Status) → t.told ≡ s.told → SameFiles s.old t.old → s.before ≤ t.before → t.now ≡ s.now → t.failed ≡ s.failed → ReadRefusal name t st → ReadRefusal name s st
later_read name s t (status.ReadFault file) told same le now failed h =
    (h.0, ⊎_elim (λ r. inl (subst (Rose s.before) now (rose_later s.before t.before t.now le r.0), sym failed ∙ r.1)) (λ m. inr (subst IsTrue told m.0, sym (same name) ∙ m.1)) h.1)
later_read name s t status.OutOfMemory told same le now failed h = tt
later_read name s t _ told same le now failed h = absurd h

later_held : (name x : List ℕ) (s t : StoreCalls) → t.told ≡ s.told → SameFiles s.old t.old → Held t name x → Held s name x
later_held name x s t told same h = λ y. sym (same name) ∙ h (subst IsTrue (sym told) y)

pub later_refusal : (w : Wanted) (r : Read) (s t : StoreCalls) (st : Status) → t.told ≡ s.told → SameFiles s.old t.old → s.before ≤ t.before → t.now ≡ s.now → t.failed ≡ s.failed → FileRefusal w r t st → FileRefusal w r s st
later_refusal w r s t st told same le now failed h =
    ⊎_elim (λ x. inl (later_read w.name s t st told same le now failed x)) (λ x. inr (x.0, later_held w.name x.0 s t told same x.1, x.2)) h

pub later_taken : (w : Wanted) (r next : Read) (s t : StoreCalls) → t.told ≡ s.told → SameFiles s.old t.old → IsTaken (Held t) w r next → IsTaken (Held s) w r next
later_taken w r next s t told same h = (h.0, later_held w.name h.0 s t told same h.1, h.2)

-- an answer that isn't of a command that is done
abbrev pub IsUndone : Kind → Type 0
IsUndone Done = ⊥
IsUndone TextLost = ⊥
IsUndone _ = Unit {0}

early_undone : (kind : Kind) → IsEarly kind → IsUndone kind
early_undone NoMemory h = tt
early_undone Refused h = tt
early_undone _ h = absurd h

pub course_undone : (ws : List Wanted) (r : Read) (s : StoreCalls) (P : Read → Status → Type 0) (st : Status) → ((last : Read) → P last st → IsUndone (kind_of st)) → Course ws r s P st → IsUndone (kind_of st)
course_undone [] r s P st f h = f r h
course_undone (w ∷ ws) r s P st f h =
    ⊎_elim (λ x. early_undone (kind_of st) (refusal_early w r s st x))
    (λ x. course_undone ws x.0 s P st f x.2) h
