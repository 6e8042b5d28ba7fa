-- What a file gives that isn't refused.
use Rattle.std.proofs.Common.{◌≡◌, ℕ, Bool, true, false, if◌then◌else◌, List, [], ◌∷◌, ◌++◌, refl, sym, ap, subst, arith}
use Rattle.std.proofs.lemmas.List.Elements.{All-push}
use Rattle.std.specs.List.{All}
use Rattle.std.specs.Prelude.{Option, Some, None, Result, Ok, Err}
use Rattle.rz_elf.specs.Elf.{fault_of}
use Rattle.rz_elf.specs.Loaded.{ElfFile, IsRead, elf_of}
use Rattle.rz_elf.specs.Stamped.{stamp_of}
use Rattle.rz_label.specs.Labelled.{maps_header}
use Rattle.rz_syms.specs.Fault.{fault_of as symbol_fault_of}
use Rattle.rz_classes.specs.Fault.{fault_of as class_fault_of, functions_of}
use Rattle.rz_input.specs.Fault.{fault_of as input_fault_of}
use Rattle.rz_input.specs.Value.{input_of}
use Rattle.rz_trace.specs.Fault.{fault_of as trace_fault_of}
use Rattle.rz_trace.specs.Value.{no_record, record_of}
use Rattle.rz_core.specs.declared.status.Status.{Status}
use Rattle.rz_core.specs.declared.status.Status.TheVariants as status
use Rattle.rz_core.specs.declared.plan.Demand.{Demand}
use Rattle.rz_core.specs.declared.plan.Demand.TheVariants as demand
use Rattle.rz_core.specs.declared.plan.Wanted.{Wanted}
use Rattle.rz_core.specs.Reading.{Read, exe_of, named_in, class_text, judged, asked, unmapped, taken_as, with_executable, with_functions, with_input, with_trace, AreTaken}
use Rattle.rz_core.specs.Classes.{names_of, names_of_first}
use Rattle.rz_core.specs.Calls.Taking.{CanLabel}
use Rattle.rz_core.proofs.ResultLaws.{not_both}

-- these bytes have no fault, where this was read before
abbrev pub IsFit : Demand → Read → List ℕ → Type 0
IsFit demand.Accepted r x = fault_of x ≡ None
IsFit demand.Named r x = fault_of x ≡ None
IsFit demand.Unmapped r x = (fault_of x ≡ None) × CanLabel (elf_of x)
IsFit demand.ClassFile r x = class_fault_of (class_text r x) ≡ None
IsFit demand.Input r x = input_fault_of x ≡ None
IsFit demand.Trace r x = trace_fault_of x ≡ None

-- what was read with them
abbrev pub given : Demand → Read → List ℕ → Read
given demand.Accepted r x = with_executable r (elf_of x)
given demand.Named r x = with_executable r (elf_of x)
given demand.Unmapped r x = with_executable r (elf_of x)
given demand.ClassFile r x = with_functions r (functions_of (class_text r x))
given demand.Input r x = with_input r (input_of x)
given demand.Trace r x = with_trace r (record_of x)

abbrev as_result : Read → Result Read Status
as_result r = Ok r

ok_same : (a b : Read) → as_result a ≡ as_result b → a ≡ b
ok_same a b e = cc

judged_ok : {E : Type 0} (o : Option E) (refusal : E → Status) (a b : Read) → judged o refusal (Ok a) ≡ Ok b → (o ≡ None) × (b ≡ a)
judged_ok None refusal a b e = (refl, sym (ok_same a b e))
judged_ok (Some f) refusal a b e = absurd cc

judged_then : {E : Type 0} (o : Option E) (refusal : E → Status) (next : Result Read Status) (b : Read) → judged o refusal next ≡ Ok b → (o ≡ None) × (next ≡ Ok b)
judged_then None refusal next b e = (refl, e)
judged_then (Some f) refusal next b e = absurd cc

unmapped_ok : (name : List ℕ) (elf : ElfFile) (a b : Read) → unmapped name elf (Ok a) ≡ Ok b → CanLabel elf × (b ≡ a)
unmapped_ok name elf a b e = by (stamp_of elf) (maps_header elf) refl refl e
  where
    by : (o : Option ℕ) (m : Bool) → stamp_of elf ≡ o → maps_header elf ≡ m → asked o (status.NotStamped name) (if m then Err (status.HeaderMapped name) else Ok a) ≡ Ok b → CanLabel elf × (b ≡ a)
    by None m is out h = absurd cc
    by (Some n) true is out h = absurd cc
    by (Some n) false is out h = ((λ none. not_both (stamp_of elf) n is none, out), sym (ok_same a b h))

pub took : (d : Demand) (name : List ℕ) (r : Read) (x : List ℕ) (next : Read) → taken_as d name r x ≡ Ok next → IsFit d r x × (next ≡ given d r x)
took demand.Accepted name r x next e = judged_ok (fault_of x) _ _ next e
took demand.Named name r x next e =
    let rest = judged_then (fault_of x) _ _ next e in
    (rest.0, (judged_ok (symbol_fault_of x) _ _ next rest.1).1)
took demand.Unmapped name r x next e =
    let rest = judged_then (fault_of x) _ _ next e in
    let last = unmapped_ok name (elf_of x) _ next rest.1 in
    ((rest.0, last.0), last.1)
took demand.ClassFile name r x next e = judged_ok (class_fault_of (class_text r x)) _ _ next e
took demand.Input name r x next e = judged_ok (input_fault_of x) _ _ next e
took demand.Trace name r x next e = judged_ok (trace_fault_of x) _ _ next e

-- what was read of files that were told was read
pub taken_any : (Holds : List ℕ → List ℕ → Type 0) (ws : List Wanted) (r last : Read) → AreTaken Holds ws r last → AreTaken (λ name x. Unit {0}) ws r last
taken_any Holds [] r last h = h
taken_any Holds (w ∷ ws) r last h = (h.0, (h.1.0, tt, h.1.2), taken_any Holds ws h.0 last h.2)

-- so what was read of executables is of accepted files
given_read : (d : Demand) (r : Read) (x : List ℕ) → IsFit d r x → All IsRead r.executables → All IsRead (given d r x).executables
given_read demand.Accepted r x fit all = All-push IsRead r.executables (elf_of x) all (record { accepted = fit; read = refl })
given_read demand.Named r x fit all = All-push IsRead r.executables (elf_of x) all (record { accepted = fit; read = refl })
given_read demand.Unmapped r x fit all = All-push IsRead r.executables (elf_of x) all (record { accepted = fit.0; read = refl })
given_read demand.ClassFile r x fit all = all
given_read demand.Input r x fit all = all
given_read demand.Trace r x fit all = all

pub all_read : (Holds : List ℕ → List ℕ → Type 0) (ws : List Wanted) (r last : Read) → AreTaken Holds ws r last → All IsRead r.executables → All IsRead last.executables
all_read Holds [] r last e all = subst (λ (y : Read). All IsRead y.executables) e all
all_read Holds (w ∷ ws) r last h all =
    let is = took w.demand w.name r h.1.0 h.0 h.1.2 in
    all_read Holds ws h.0 last h.2 (subst (λ (y : Read). All IsRead y.executables) (sym is.1) (given_read w.demand r h.1.0 is.0 all))

pub none_read : All IsRead []
none_read k d lt = absurd (omega arith)

-- ---- the first executable

abbrev pub BeginsWith : ElfFile → List ElfFile → Type 0
BeginsWith e es = (more : List ElfFile) × (es ≡ e ∷ more)

one_more : (e last : ElfFile) (es : List ElfFile) → BeginsWith e es → BeginsWith e (es ++ last ∷ [])
one_more e last es h = (h.0 ++ last ∷ [], ap (λ (fs : List ElfFile). fs ++ last ∷ []) h.1)

-- it stays the first
pub given_first : (d : Demand) (r : Read) (x : List ℕ) (e : ElfFile) → BeginsWith e r.executables → BeginsWith e (given d r x).executables
given_first demand.Accepted r x e h = one_more e (elf_of x) r.executables h
given_first demand.Named r x e h = one_more e (elf_of x) r.executables h
given_first demand.Unmapped r x e h = one_more e (elf_of x) r.executables h
given_first demand.ClassFile r x e h = h
given_first demand.Input r x e h = h
given_first demand.Trace r x e h = h

pub first_stays : (Holds : List ℕ → List ℕ → Type 0) (ws : List Wanted) (r last : Read) (e : ElfFile) → AreTaken Holds ws r last → BeginsWith e r.executables → BeginsWith e last.executables
first_stays Holds [] r last e is h = subst (λ (y : Read). BeginsWith e y.executables) is h
first_stays Holds (w ∷ ws) r last e all h =
    let next = (took w.demand w.name r all.1.0 all.0 all.1.2).1 in
    first_stays Holds ws all.0 last e all.2 (subst (λ (y : Read). BeginsWith e y.executables) (sym next) (given_first w.demand r all.1.0 e h))

pub exe_is : (r : Read) (e : ElfFile) → BeginsWith e r.executables → exe_of r ≡ e.bytes
exe_is r e h = ap (λ (es : List ElfFile). exe_of (record { executables = es; functions = []; inputs = []; trace = no_record })) h.1

pub names_are : (r : Read) (e : ElfFile) → BeginsWith e r.executables → named_in r ≡ names_of e
names_are r e h = ap (λ (es : List ElfFile). names_of_first es) h.1
