use Rattle.std.proofs.Common.{sym, subst}
use Rattle.std.specs.Prelude.{Option, IfSome}
use Rattle.rz_outside.specs.StoreCalls.{StoreCalls, store_calls}
use Rattle.rz_outside.specs.SinkCalls.{SinkCalls, sink_calls}
use Rattle.rz_core.specs.declared.plan.Plan.{Plan}
use Rattle.rz_core.specs.Words.{Planned, form_of}
use Rattle.rz_core.specs.Commands.{command_of}
use Rattle.rz_core.specs.Exact.{IsExactOf}
use Rattle.rz_core.specs.Headline.{HeadlineOf}
use Rattle.rz_core.specs.Labelling.{LabellingOf}
use Rattle.rz_core.specs.Calls.Planned.{planned, IsPlanOf, IsPlan}
use Rattle.rz_core.proofs.WantLaws.{wanting_cause, wanting_exact}
use Rattle.rz_core.proofs.EndLaws.{ends_once}
use Rattle.rz_core.proofs.ExactLaws.{exactly}
use Rattle.rz_core.proofs.HeadlineLaws.{headline}
use Rattle.rz_core.proofs.LabellingLaws.{labelling}
use Rattle.rz_core.proofs.tool.run_tool.Goals as goal

pub returns-in-Err-clause-cause : goal.returns-in-Err-clause-cause
returns-in-Err-clause-cause g c =
    wanting_cause (form_of c.args.words.now.items) (store_calls g.S.Store c.args.store.now c.args.store.now) (sink_calls g.K.Sink c.args.out.now c.args.out.now)

pub returns-in-Err-clause-exact : goal.returns-in-Err-clause-exact
returns-in-Err-clause-exact g c =
    wanting_exact (form_of c.args.words.now.items) (store_calls g.S.Store c.args.store.now c.args.store.now) (sink_calls g.K.Sink c.args.out.now c.args.out.now)

pub returns-in-Ok-Some-clause-headline : goal.returns-in-Ok-Some-clause-headline
returns-in-Ok-Some-clause-headline g c =
    let s : StoreCalls = store_calls g.S.Store c.args.store.now c.run_plan.new.store in
    let k : SinkCalls = sink_calls g.K.Sink c.args.out.now c.run_plan.new.out in
    let answer = c.run_plan.result in
    let p : Planned = planned c.in-Ok-Some.plan in
    let form = subst (λ (o : Option Plan). IsPlanOf (form_of c.args.words.now.items) o) c.in-Ok-Some.field-0-is c.in-Ok-Some.ensures.form in
    subst (λ f. HeadlineOf f s answer) (sym form) (headline p s k answer (subst (λ (o : Option Plan). IfSome o IsPlan) c.in-Ok-Some.field-0-is c.in-Ok-Some.ensures.sound) c.run_plan.ensures.run.cause)

pub returns-in-Ok-Some-clause-labelled : goal.returns-in-Ok-Some-clause-labelled
returns-in-Ok-Some-clause-labelled g c =
    let s : StoreCalls = store_calls g.S.Store c.args.store.now c.run_plan.new.store in
    let k : SinkCalls = sink_calls g.K.Sink c.args.out.now c.run_plan.new.out in
    let answer = c.run_plan.result in
    let p : Planned = planned c.in-Ok-Some.plan in
    let form = subst (λ (o : Option Plan). IsPlanOf (form_of c.args.words.now.items) o) c.in-Ok-Some.field-0-is c.in-Ok-Some.ensures.form in
    subst (λ f. LabellingOf f s answer) (sym form) (labelling p s k answer (subst (λ (o : Option Plan). IfSome o IsPlan) c.in-Ok-Some.field-0-is c.in-Ok-Some.ensures.sound) c.run_plan.ensures.run.cause)

pub returns-in-Ok-Some-clause-exact : goal.returns-in-Ok-Some-clause-exact
returns-in-Ok-Some-clause-exact g c =
    let s : StoreCalls = store_calls g.S.Store c.args.store.now c.run_plan.new.store in
    let k : SinkCalls = sink_calls g.K.Sink c.args.out.now c.run_plan.new.out in
    let answer = c.run_plan.result in
    let p : Planned = planned c.in-Ok-Some.plan in
    let form = subst (λ (o : Option Plan). IsPlanOf (form_of c.args.words.now.items) o) c.in-Ok-Some.field-0-is c.in-Ok-Some.ensures.form in
    subst (λ f. IsExactOf f s k answer) (sym form) (λ quiet. exactly (command_of p) (ends_once p) s k answer quiet c.run_plan.ensures.run.cause)
