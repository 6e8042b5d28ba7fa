-- The headline, from the cause of Ok.
use Rattle.std.proofs.Common.{◌≡◌, ℕ, List, [], ◌∷◌, ◌++◌, map, length, ◌∙◌, refl, sym, ap, ap₂, subst, ⊎_elim, append_assoc, arith}
use Rattle.std.proofs.lemmas.List.{append-nil}
use Rattle.std.specs.Prelude.{IsTrue, Option, Some, None, Ok}
use Rattle.rz_outside.specs.StoreAnswers.{Files}
use Rattle.rz_outside.specs.StoreCalls.{StoreCalls, Held}
use Rattle.rz_outside.specs.SinkCalls.{SinkCalls}
use Rattle.rz_elf.specs.Loaded.{ElfFile, elf_of}
use Rattle.rz_sys.specs.declared.input.Input.{Input}
use Rattle.rz_input.specs.Value.{input_of}
use Rattle.rz_core.specs.declared.status.Status.{Status}
use Rattle.rz_core.specs.declared.status.Status.TheVariants as status
use Rattle.rz_core.specs.declared.plan.Demand.{Demand}
use Rattle.rz_core.specs.declared.plan.Demand.TheVariants as demand
use Rattle.rz_core.specs.declared.plan.Wanted.{Wanted}
use Rattle.rz_core.specs.declared.plan.Verb.{Verb}
use Rattle.rz_core.specs.declared.plan.Verb.TheVariants as verb
use Rattle.rz_core.specs.declared.plan.Values.{Values}
use Rattle.rz_trace.specs.Value.{no_record}
use Rattle.rz_core.specs.Inputs.{HoldInputs}
use Rattle.rz_classes.specs.declared.listed.Function.{Function}
use Rattle.rz_classes.specs.Fault.{fault_of as class_fault_of, functions_of}
use Rattle.rz_syms.specs.declared.function.Function.{Function as Named}
use Rattle.rz_syms.specs.Resolved.{resolved}
use Rattle.rz_core.specs.Classes.{HoldsClasses, names_of}
use Rattle.rz_core.specs.Reading.{Read, nothing, taken_as, exe_of, AreTaken, Course}
use Rattle.rz_core.specs.Writing.{HoldEach}
use Rattle.rz_core.specs.Command.{IsOne}
use Rattle.rz_core.specs.Words.{Planned}
use Rattle.rz_core.specs.Commands.{command_of}
use Rattle.rz_core.specs.Causes.{LastAnswer, CauseIn}
use Rattle.rz_core.specs.Exact.{holds}
use Rattle.rz_core.specs.Debloated.{Sources, sources, sources_in, IsDebloated}
use Rattle.rz_core.specs.Headline.{executables, executable_added, inputs_named, input_added, last_classes, classes_after, HoldsHeadline, HeadlineBy}
use Rattle.rz_core.specs.Calls.Planned.{BeginsAs, IsSound}
use Rattle.rz_core.proofs.CourseLaws.{refusal_early}
use Rattle.rz_core.proofs.GivenLaws.{BeginsWith, given, given_first, first_stays, exe_is, names_are, took, taken_any}

-- a command that was done came to its end
pub course_ok : (ws : List Wanted) (r : Read) (s : StoreCalls) (P : Read → Status → Type 0) → Course ws r s P status.Ok → (last : Read) × AreTaken (Held s) ws r last × P last status.Ok
course_ok [] r s P h = (r, refl, h)
course_ok (w ∷ ws) r s P h =
    ⊎_elim (λ x. absurd (refusal_early w r s status.Ok x))
    (λ x. let rest = course_ok ws x.0 s P x.2 in (rest.0, (x.0, x.1, rest.1), rest.2)) h

pub taken_told : (s : StoreCalls) → IsTrue s.told → (ws : List Wanted) (r last : Read) → AreTaken (Held s) ws r last → AreTaken (holds s.old) ws r last
taken_told s told [] r last h = h
taken_told s told (w ∷ ws) r last h = (h.0, (h.1.0, h.1.1 told, h.1.2), taken_told s told ws h.0 last h.2)

-- ---- what files held gave what was read

module _ (files : Files) where
  -- the executables, behind those before
  abbrev ReadExecutables : List (List ℕ) → Read → Read → Type 0
  ReadExecutables names r last = (xs : List (List ℕ)) × HoldEach files names xs × (last.executables ≡ r.executables ++ map elf_of xs)

  executable_read : (d : Demand) (name : List ℕ) (names : List (List ℕ)) (r : Read) (x : List ℕ) (last : Read) → files name ≡ Some x → ReadExecutables names (given d r x) last → ReadExecutables (executable_added d name names) r last
  executable_read demand.Accepted name names r x last held rest = (x ∷ rest.0, (held, rest.1), rest.2 ∙ append_assoc r.executables (elf_of x ∷ []) (map elf_of rest.0))
  executable_read demand.Named name names r x last held rest = (x ∷ rest.0, (held, rest.1), rest.2 ∙ append_assoc r.executables (elf_of x ∷ []) (map elf_of rest.0))
  executable_read demand.Unmapped name names r x last held rest = (x ∷ rest.0, (held, rest.1), rest.2 ∙ append_assoc r.executables (elf_of x ∷ []) (map elf_of rest.0))
  executable_read demand.ClassFile name names r x last held rest = rest
  executable_read demand.Input name names r x last held rest = rest
  executable_read demand.Trace name names r x last held rest = rest

  pub executables_read : (ws : List Wanted) (r last : Read) → AreTaken (holds files) ws r last → ReadExecutables (executables ws) r last
  executables_read [] r last e = ([], tt, ap (λ (y : Read). y.executables) (sym e) ∙ sym (append-nil r.executables))
  executables_read (w ∷ ws) r last h =
      let x = h.1.0 in
      let next = (took w.demand w.name r x h.0 h.1.2).1 in
      executable_read w.demand w.name (executables ws) r x last h.1.1 (subst (λ (y : Read). ReadExecutables (executables ws) y last) next (executables_read ws h.0 last h.2))

  -- the inputs
  abbrev ReadInputs : List (List ℕ) → Read → Read → Type 0
  ReadInputs names r last = (inputs : List Input) × HoldInputs (holds files) names inputs × (last.inputs ≡ r.inputs ++ inputs)

  input_read : (d : Demand) (name : List ℕ) (names : List (List ℕ)) (r : Read) (x : List ℕ) (next last : Read) → files name ≡ Some x → taken_as d name r x ≡ Ok next → ReadInputs names (given d r x) last
      → ReadInputs (input_added d name names) r last
  input_read demand.Accepted name names r x next last held is rest = rest
  input_read demand.Named name names r x next last held is rest = rest
  input_read demand.Unmapped name names r x next last held is rest = rest
  input_read demand.ClassFile name names r x next last held is rest = rest
  input_read demand.Trace name names r x next last held is rest = rest
  input_read demand.Input name names r x next last held is rest =
      (input_of x ∷ rest.0, ((x, held, (took demand.Input name r x next is).0, refl), rest.1), rest.2 ∙ append_assoc r.inputs (input_of x ∷ []) rest.0)

  inputs_read : (ws : List Wanted) (r last : Read) → AreTaken (holds files) ws r last → ReadInputs (inputs_named ws) r last
  inputs_read [] r last e = ([], tt, ap (λ (y : Read). y.inputs) (sym e) ∙ sym (append-nil r.inputs))
  inputs_read (w ∷ ws) r last h =
      let x = h.1.0 in
      let next = (took w.demand w.name r x h.0 h.1.2).1 in
      input_read w.demand w.name (inputs_named ws) r x h.0 last h.1.1 h.1.2 (subst (λ (y : Read). ReadInputs (inputs_named ws) y last) next (inputs_read ws h.0 last h.2))

  -- the class file, where this is the first executable
  module _ (e : ElfFile) where
    abbrev HoldsNamed : Option (List ℕ) → List Function → Type 0
    HoldsNamed found functions = HoldsClasses (holds files) (names_of e) found functions

    classes_given : (d : Demand) (name : List ℕ) (found : Option (List ℕ)) (r : Read) (x : List ℕ) (next : Read) → BeginsWith e r.executables → files name ≡ Some x → taken_as d name r x ≡ Ok next → HoldsNamed found r.functions
        → HoldsNamed (classes_after d name found) (given d r x).functions
    classes_given demand.Accepted name found r x next first held is h = h
    classes_given demand.Named name found r x next first held is h = h
    classes_given demand.Unmapped name found r x next first held is h = h
    classes_given demand.ClassFile name found r x next first held is h =
        let names = names_are r e first in
        let fit = (took demand.ClassFile name r x next is).0 in
        (x, held, subst (λ (ns : List Named). class_fault_of (resolved ns x) ≡ None) names fit, ap (λ (ns : List Named). functions_of (resolved ns x)) names)
    classes_given demand.Input name found r x next first held is h = h
    classes_given demand.Trace name found r x next first held is h = h

    classes_read : (ws : List Wanted) (found : Option (List ℕ)) (r last : Read) → BeginsWith e r.executables → AreTaken (holds files) ws r last → HoldsNamed found r.functions → HoldsNamed (last_classes found ws) last.functions
    classes_read [] found r last first is h = subst (λ (y : Read). HoldsNamed found y.functions) is h
    classes_read (w ∷ ws) found r last first all h =
        let x = all.1.0 in
        let next = (took w.demand w.name r x all.0 all.1.2).1 in
        let here = classes_given w.demand w.name found r x all.0 first all.1.1 all.1.2 h in
        classes_read ws (classes_after w.demand w.name found) all.0 last
        (subst (λ (y : Read). BeginsWith e y.executables) (sym next) (given_first w.demand r x e first)) all.2
        (subst (λ (y : Read). HoldsNamed (classes_after w.demand w.name found) y.functions) (sym next) here)

  -- where an executable is read first
  classes_behind : (ws : List Wanted) (last : Read) → BeginsAs demand.Accepted ws → AreTaken (holds files) ws nothing last → HoldsNamed (elf_of (exe_of last)) (last_classes None ws) last.functions
  classes_behind [] last begins all = absurd begins
  classes_behind (w ∷ ws) last begins all =
      let x = all.1.0 in
      let taken = subst (λ (d : Demand). taken_as d w.name nothing x ≡ Ok all.0) begins all.1.2 in
      let next = (took demand.Accepted w.name nothing x all.0 taken).1 in
      let first : BeginsWith (elf_of x) all.0.executables = ([], ap (λ (y : Read). y.executables) next) in
      let rest = classes_read (elf_of x) ws None all.0 last first all.2 (ap (λ (y : Read). y.functions) next) in
      let exe = exe_is last (elf_of x) (first_stays (holds files) ws all.0 last (elf_of x) all.2 first) in
      let found = subst (λ (d : Demand). HoldsNamed (elf_of x) (last_classes (classes_after d w.name None) ws) last.functions) (sym begins) rest in
      subst (λ (y : List ℕ). HoldsNamed (elf_of y) (last_classes (classes_after w.demand w.name None) ws) last.functions) (sym exe) found

-- ---- the headline

-- the one executable
module _ (files : Files) (names : List (List ℕ)) (r : Read) where
  abbrev IsExe : List ℕ → Type 0
  IsExe x = HoldEach files names (x ∷ []) × (exe_of r ≡ x)

  pub one_executable : (xs : List (List ℕ)) → length r.executables ≡ 1 → HoldEach files names xs → r.executables ≡ map elf_of xs → (x : List ℕ) × IsExe x
  one_executable [] one held are = let n = ap (λ (es : List ElfFile). length es) are in absurd (omega (arith, n, one))
  one_executable (x ∷ []) one held are = (x, (held, ap (λ (es : List ElfFile). first_of es) are))
    where
      first_of : List ElfFile → List ℕ
      first_of es = exe_of (record { executables = es; functions = []; inputs = []; trace = no_record })
  one_executable (x ∷ y ∷ xs) one held are = let n = ap (λ (es : List ElfFile). length es) are in absurd (omega (arith, n, one))

module _ (p : Planned) (old new : Files) (r : Read) (read : AreTaken (holds old) p.reads nothing r) (begins : BeginsAs demand.Accepted p.reads) where
  from_file : (w : List ℕ) → length r.executables ≡ 1 → IsDebloated p.values.level p.values.number (sources_in r) w → HoldEach new p.writes (w ∷ []) → HoldsHeadline p old new
  from_file w one made out =
      let exes = executables_read old p.reads nothing r read in
      let exe = one_executable old (executables p.reads) r exes.0 one exes.1 exes.2 in
      let inputs = inputs_read old p.reads nothing r read in
      let same : sources_in r ≡ sources exe.0 r.functions inputs.0 = ap₂ (λ (x : List ℕ) (is : List Input). sources x r.functions is) exe.1.1 inputs.2 in
      let is = subst (λ (from : Sources). IsDebloated p.values.level p.values.number from w) same made in
      record {
        x = exe.0;
        functions = r.functions;
        inputs = inputs.0;
        kept = is.kept;
        w = w;
        exe = exe.1.0;
        functions_are = subst (λ (x : List ℕ). HoldsClasses (holds old) (names_of (elf_of x)) (last_classes None p.reads) r.functions) exe.1.1
            (classes_behind old p.reads r begins read);
        inputs_are = inputs.1;
        is = is.is;
        out = out;
        keeps = is.keeps;
        paced = is.paced;
        costs = is.costs;
        inert = is.inert;
        uncut = is.uncut;
      }

  from_files : (ws : List (List ℕ)) → length r.executables ≡ 1 → IsOne (IsDebloated p.values.level p.values.number (sources_in r)) ws → HoldEach new p.writes ws → HoldsHeadline p old new
  from_files [] one made out = absurd made
  from_files (w ∷ []) one made out = from_file w one made out
  from_files (w ∷ v ∷ ws) one made out = absurd made

by_verb : (v : Verb) (values : Values) (reads : List Wanted) (writes : List (List ℕ)) (s : StoreCalls) (k : SinkCalls) (answer : Status) → IsSound (record { verb = v; values = values; reads = reads; writes = writes })
    → CauseIn (command_of (record { verb = v; values = values; reads = reads; writes = writes })) s k answer → HeadlineBy v (record { verb = v; values = values; reads = reads; writes = writes }) s answer
by_verb verb.Debloat values reads writes s k status.Ok sound h = λ told.
    let p : Planned = record { verb = verb.Debloat; values = values; reads = reads; writes = writes } in
    let done = course_ok reads nothing s (LastAnswer (command_of p) s k) h in
    let serves = sound.serves done.0 (taken_any (Held s) reads nothing done.0 done.1) in
    from_files p s.old s.new done.0 (taken_told s told reads nothing done.0 done.1) sound.begins done.2.0.writes.items serves.executables done.2.2.0.new (done.2.2.1 told)
by_verb verb.Debloat values reads writes s k _ sound h = tt
by_verb _ values reads writes s k answer sound h = tt

pub headline : (p : Planned) (s : StoreCalls) (k : SinkCalls) (answer : Status) → IsSound p → CauseIn (command_of p) s k answer → HeadlineBy p.verb p s answer
headline p s k answer sound h = by_verb p.verb p.values p.reads p.writes s k answer sound h
