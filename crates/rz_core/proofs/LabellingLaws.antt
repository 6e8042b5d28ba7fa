-- What holds of a labelled file, from the cause of Ok.
use Rattle.std.proofs.Common.{ℕ, List, [], ◌∷◌, length, ap, subst}
use Rattle.std.specs.Prelude.{◌≡◌}
use Rattle.rz_outside.specs.StoreAnswers.{Files}
use Rattle.rz_outside.specs.StoreCalls.{StoreCalls, Held}
use Rattle.rz_outside.specs.SinkCalls.{SinkCalls}
use Rattle.rz_elf.specs.Elf.{Image}
use Rattle.rz_machine.specs.Start.{start}
use Rattle.rz_machine.specs.State.{after}
use Rattle.rz_core.specs.declared.status.Status.{Status}
use Rattle.rz_core.specs.declared.status.Status.TheVariants as status
use Rattle.rz_core.specs.declared.plan.Wanted.{Wanted}
use Rattle.rz_core.specs.declared.plan.Verb.{Verb}
use Rattle.rz_core.specs.declared.plan.Verb.TheVariants as verb
use Rattle.rz_core.specs.declared.plan.Values.{Values}
use Rattle.rz_core.specs.Decoding.{decode_profile}
use Rattle.rz_core.specs.Reading.{Read, nothing, exe_of, AreTaken}
use Rattle.rz_core.specs.Writing.{HoldEach}
use Rattle.rz_core.specs.Command.{IsOne}
use Rattle.rz_core.specs.Words.{Planned}
use Rattle.rz_core.specs.Commands.{command_of}
use Rattle.rz_core.specs.Causes.{LastAnswer, CauseIn}
use Rattle.rz_core.specs.Exact.{holds}
use Rattle.rz_core.specs.Labelled.{IsLabelled}
use Rattle.rz_core.specs.Headline.{executables}
use Rattle.rz_core.specs.Labelling.{HoldsLabelled, LabellingBy}
use Rattle.rz_core.specs.Calls.Planned.{IsSound}
use Rattle.rz_core.proofs.GivenLaws.{taken_any}
use Rattle.rz_core.proofs.HeadlineLaws.{course_ok, taken_told, executables_read, one_executable}

module _ (p : Planned) (old new : Files) (r : Read) (read : AreTaken (holds old) p.reads nothing r) (one : length r.executables ≡ 1) where
  from_file : (w : List ℕ) → IsLabelled (exe_of r) w → HoldEach new p.writes (w ∷ []) → HoldsLabelled p old new
  from_file w made out =
      let exes = executables_read old p.reads nothing r read in
      let exe = one_executable old (executables p.reads) r exes.0 one exes.1 exes.2 in
      let is = subst (λ (x : List ℕ). IsLabelled x w) exe.1.1 made in
      record {
        x = exe.0;
        w = w;
        file = exe.1.0;
        out = out;
        is = is;
        runs = λ input steps. ap (λ (i : Image). after decode_profile steps (start i input)) is.image;
      }

  from_files : (ws : List (List ℕ)) → IsOne (IsLabelled (exe_of r)) ws → HoldEach new p.writes ws → HoldsLabelled p old new
  from_files [] made out = absurd made
  from_files (w ∷ []) made out = from_file w made out
  from_files (w ∷ v ∷ ws) made out = absurd made

by_verb : (v : Verb) (values : Values) (reads : List Wanted) (writes : List (List ℕ)) (s : StoreCalls) (k : SinkCalls) (answer : Status) → IsSound (record { verb = v; values = values; reads = reads; writes = writes })
    → CauseIn (command_of (record { verb = v; values = values; reads = reads; writes = writes })) s k answer → LabellingBy v (record { verb = v; values = values; reads = reads; writes = writes }) s answer
by_verb verb.Label values reads writes s k status.Ok sound h = λ told.
    let p : Planned = record { verb = verb.Label; values = values; reads = reads; writes = writes } in
    let done = course_ok reads nothing s (LastAnswer (command_of p) s k) h in
    let serves = sound.serves done.0 (taken_any (Held s) reads nothing done.0 done.1) in
    from_files p s.old s.new done.0 (taken_told s told reads nothing done.0 done.1) serves.executables done.2.0.writes.items done.2.2.0.new (done.2.2.1 told)
by_verb verb.Label values reads writes s k _ sound h = tt
by_verb _ values reads writes s k answer sound h = tt

pub labelling : (p : Planned) (s : StoreCalls) (k : SinkCalls) (answer : Status) → IsSound p → CauseIn (command_of p) s k answer → LabellingBy p.verb p s answer
labelling p s k answer sound h = by_verb p.verb p.values p.reads p.writes s k answer sound h
