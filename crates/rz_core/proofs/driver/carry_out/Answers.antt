use Rattle.std.proofs.Common.{ℕ, List, refl, subst, sym, ◌∙◌}
use Rattle.std.specs.Prelude.{IsTrue}
use Rattle.rz_outside.specs.StoreCalls.{StoreCalls, store_calls, Held}
use Rattle.rz_core.proofs.ResultLaws.{handed_on}
use Rattle.rz_core.specs.declared.plan.Wanted.{Wanted}
use Rattle.rz_core.specs.Reading.{Read, read_in, nothing, AreTaken, IsUnread}
use Rattle.rz_core.specs.Writing.{OthersStay, AreWritten, WriteRefusal}
use Rattle.rz_core.specs.Command.{Command, IsDoneBy, IsOutcome}
use Rattle.rz_core.specs.Calls.Carried.{IsCarriedOut}
use Rattle.rz_core.specs.Commands.{command_of}
use Rattle.rz_core.specs.Calls.Planned.{planned}
use Rattle.rz_core.proofs.WriteLaws.{Later, all_kept, later_write}
use Rattle.rz_core.proofs.CauseLaws.{unread, own, unwritten, carried}
use Rattle.rz_core.proofs.GivenLaws.{taken_any, all_read, none_read}
use Rattle.rz_core.proofs.driver.carry_out.Goals as goal

pub returns-in_err-files-clause-carried : goal.returns-in_err-files-clause-carried
returns-in_err-files-clause-carried g c =
    let s : StoreCalls = store_calls g.S.Store c.args.store.now c.read_files.new.store in
    let command : Command = command_of (planned c.args.plan.now) in
    let st = c.in_err-files.field-0.0 in
    let not = subst (λ (ws : List Wanted). IsUnread ws nothing s st) c.as_slice.ensures.value c.in_err-files.ensures.cause in
    handed_on c.from_residual.result st (IsCarriedOut command s) c.from_residual.ensures.1 (unread command s st not c.in_err-files.ensures.kept)

pub perform-requires-clause-serves : goal.perform-requires-clause-serves
perform-requires-clause-serves g c =
    let s : StoreCalls = store_calls g.S.Store c.args.store.now c.read_files.new.store in
    let r : Read = read_in c.in_ok-files.files in
    let read = subst (λ (ws : List Wanted). AreTaken (Held s) ws nothing r) c.as_slice.ensures.value c.in_ok-files.ensures.read in
    c.requires.serves r (taken_any (Held s) c.args.plan.now.reads.items nothing r read)

pub perform-requires-clause-read : goal.perform-requires-clause-read
perform-requires-clause-read g c =
    let s : StoreCalls = store_calls g.S.Store c.args.store.now c.read_files.new.store in
    let read = subst (λ (ws : List Wanted). AreTaken (Held s) ws nothing (read_in c.in_ok-files.files)) c.as_slice.ensures.value c.in_ok-files.ensures.read in
    all_read (Held s) c.args.plan.now.reads.items nothing (read_in c.in_ok-files.files) read none_read

pub returns-in_err-outcome-clause-carried : goal.returns-in_err-outcome-clause-carried
returns-in_err-outcome-clause-carried g c =
    let s : StoreCalls = store_calls g.S.Store c.args.store.now c.read_files.new.store in
    let command : Command = command_of (planned c.args.plan.now) in
    let r : Read = read_in c.in_ok-files.files in
    let read = subst (λ (ws : List Wanted). AreTaken (Held s) ws nothing r) c.as_slice.ensures.value c.in_ok-files.ensures.read in
    let st = c.in_err-outcome.field-0.0 in
    handed_on c.from_residual-in_err-outcome.result st (IsCarriedOut command s) c.from_residual-in_err-outcome.ensures.1
    (own command s r read st c.in_err-outcome.ensures.refused c.in_ok-files.ensures.kept)

pub returns-in_err-write_files-clause-carried : goal.returns-in_err-write_files-clause-carried
returns-in_err-write_files-clause-carried g c =
    let s : StoreCalls = store_calls g.S.Store c.args.store.now c.write_files.new.store in
    let t : StoreCalls = store_calls g.S.Store c.read_files.new.store c.write_files.new.store in
    let command : Command = command_of (planned c.args.plan.now) in
    let r : Read = read_in c.in_ok-files.files in
    let files = c.in_ok-files.ensures in
    let read = subst (λ (ws : List Wanted). AreTaken (Held s) ws nothing r) c.as_slice.ensures.value files.read in
    let o = c.in_ok-outcome.outcome in
    let is : IsOutcome command r o = subst (λ (n : ℕ). IsDoneBy command.work n r o) (sym c.requires.many) c.in_ok-outcome.ensures.done in
    let st = c.in_err-write_files.field-0.0 in
    let names : List (List ℕ) = c.args.plan.now.writes.items in
    let later : Later s t = record {
      told = files.telling;
      before = files.count;
      now = refl;
      failed = refl;
      new = λ q. refl;
    }
    in
    let others = subst (λ (ns : List (List ℕ)). OthersStay ns t) c.as_slice-2.ensures.value c.in_err-write_files.ensures.others in
    let cause =
    subst (λ (ns : List (List ℕ)). WriteRefusal ns o.writes.items t st) c.as_slice-2.ensures.value
    (subst (λ (ws : List (List ℕ)). WriteRefusal c.as_slice-2.result.now ws t st) c.as_slice-3.ensures.value c.in_err-write_files.ensures.cause) in
    handed_on c.from_residual-in_err-write_files.result st (IsCarriedOut command s) c.from_residual-in_err-write_files.ensures.1
    (unwritten command s r read o is st (λ q none. others q none ∙ files.kept q) (later_write s t later names o.writes.items st (all_kept names s t files.kept) cause))

pub returns-clause-carried : goal.returns-clause-carried
returns-clause-carried g c =
    let s : StoreCalls = store_calls g.S.Store c.args.store.now c.write_files.new.store in
    let t : StoreCalls = store_calls g.S.Store c.read_files.new.store c.write_files.new.store in
    let command : Command = command_of (planned c.args.plan.now) in
    let r : Read = read_in c.in_ok-files.files in
    let files = c.in_ok-files.ensures in
    let read = subst (λ (ws : List Wanted). AreTaken (Held s) ws nothing r) c.as_slice.ensures.value files.read in
    let o = c.in_ok-outcome.outcome in
    let is : IsOutcome command r o = subst (λ (n : ℕ). IsDoneBy command.work n r o) (sym c.requires.many) c.in_ok-outcome.ensures.done in
    let others = subst (λ (ns : List (List ℕ)). OthersStay ns t) c.as_slice-2.ensures.value c.in_ok-write_files.ensures.others in
    let written =
    subst (λ (ns : List (List ℕ)). AreWritten t ns o.writes.items) c.as_slice-2.ensures.value
    (subst (λ (ws : List (List ℕ)). AreWritten t c.as_slice-2.result.now ws) c.as_slice-3.ensures.value c.in_ok-write_files.ensures.wrote) in
    carried command s r read o is (λ q none. others q none ∙ files.kept q) (λ told. written (subst IsTrue (sym files.telling) told))
