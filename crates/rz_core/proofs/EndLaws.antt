-- What was read ends each work in one way.
use Rattle.std.proofs.Common.{◌≡◌, ◌≤◌, ◌<◌, arith, ℕ, suc, ⊎_elim, List, [], ◌∷◌, refl, sym, ap, ap₂, ◌∙◌}
use Rattle.std.specs.Prelude.{Option}
use Rattle.rz_sys.specs.declared.input.Input.{Input}
use Rattle.rz_machine.specs.LeftCode.{left_at}
use Rattle.rz_machine.specs.State.{after}
use Rattle.rz_machine.specs.Kept.{Kept}
use Rattle.rz_rewrite.specs.Refusals.{rip_reach_of, no_room_for}
use Rattle.rz_paths.specs.declared.level.Level.{Level}
use Rattle.rz_core.specs.declared.status.Status.{Status}
use Rattle.rz_core.specs.declared.status.Status.TheVariants as status
use Rattle.rz_core.specs.Decoding.{decode_profile}
use Rattle.rz_core.specs.Debloated.{traced, AllStay, LeavesFirst, Sources, StayAnd, DebloatEnds, sources_in}
use Rattle.rz_core.specs.Recorded.{TraceEnds}
use Rattle.rz_core.specs.Command.{EndsWell}
use Rattle.rz_core.proofs.KeptLaws.{same_reach, same_room}
use Rattle.rz_core.proofs.ResultLaws.{one_value, not_both}
use Rattle.rz_gen.specs.declared.file.TheConstants.{GEN_STEPS_LIMIT}
use Rattle.rz_paths.specs.declared.level.Level.TheVariants as level
use Rattle.rz_core.specs.declared.plan.Verb.{Verb}
use Rattle.rz_core.specs.declared.plan.Verb.TheVariants as verb
use Rattle.rz_core.specs.declared.plan.Values.{Values}
use Rattle.rz_core.specs.Reading.{Read, exe_of, input_in}
use Rattle.rz_core.specs.Words.{Planned}
use Rattle.rz_core.specs.Commands.{work_of, command_of}
use Rattle.rz_core.specs.Ran.{stop_of, RunEnds}
use Rattle.rz_elf.specs.declared.room.Room.TheVariants as room
use Rattle.rz_core.specs.Labelled.{LabelEnds}
use Rattle.rz_core.specs.Demonstrated.{demonstrated}
use Rattle.rz_core.proofs.ExactLaws.{EndsOnce}

-- one run is the first that leaves the code
left_once : (limit : ℕ) (x : List ℕ) (k : ℕ) (inputs : List Input) (n a m b : ℕ) → LeavesFirst limit x k inputs n a → LeavesFirst limit x k inputs m b → status.LeftCode n a ≡ status.LeftCode m b
left_once limit x k [] n a m b g h = absurd g
left_once limit x k (i ∷ is) n a m b g h =
    let o : Option ℕ = left_at (after decode_profile limit (traced x i)).end in
    ⊎_elim
    (λ p. ⊎_elim (λ q. ap₂ (λ c d. status.LeftCode c d) (p.0 ∙ sym q.0) (one_value o a b p.1 q.1)) (λ q. absurd (not_both o a p.1 q.0)) h)
    (λ p. ⊎_elim (λ q. absurd (not_both o b q.1 p.0)) (λ q. left_once limit x (suc k) is n a m b p.1 q.1) h) g

stay_not_left : (limit : ℕ) (x : List ℕ) (k : ℕ) (inputs : List Input) (n a : ℕ) → AllStay limit x inputs → LeavesFirst limit x k inputs n a → ⊥
stay_not_left limit x k [] n a all h = h
stay_not_left limit x k (i ∷ is) n a all h =
    ⊎_elim (λ p. not_both (left_at (after decode_profile limit (traced x i)).end) a p.1 all.0) (λ p. stay_not_left limit x (suc k) is n a all.1 p.1) h

-- debloating ends in one way
module _ (at : Level) (limit : ℕ) (from : Sources) where
  -- a run doesn't both leave the code and stay in it
  stayed : {A : Type 0} (P : Kept → Type 0) (n a : ℕ) → LeavesFirst limit from.exe 1 from.inputs n a → StayAnd at limit from P → A
  stayed P n a left stay = absurd (stay_not_left limit from.exe 1 from.inputs n a stay.stay left)

  -- what was said of one set of the level is said of another
  reach_again : {A : Type 0} {P Q : Kept → Type 0} → StayAnd at limit from P → StayAnd at limit from Q
      → ((one other : Kept) → P one → Q other → rip_reach_of decode_profile from.exe one ≡ rip_reach_of decode_profile from.exe other
      → no_room_for decode_profile from.exe one ≡ no_room_for decode_profile from.exe other → A) → A
  reach_again g h f =
      f g.kept h.kept g.fact h.fact (same_reach at limit from g.kept h.kept g.is h.is) (same_room at limit from g.kept h.kept g.is h.is)

  debloat_once : (st other : Status) → DebloatEnds at limit from st → DebloatEnds at limit from other → st ≡ other
  debloat_once (status.LeftCode n a) (status.LeftCode m b) g h = left_once limit from.exe 1 from.inputs n a m b g h
  debloat_once (status.LeftCode n a) (status.RipReach b) g h = stayed _ n a g h
  debloat_once (status.LeftCode n a) (status.NoRoom r) g h = stayed _ n a g h
  debloat_once (status.LeftCode n a) status.Ok g h = stayed _ n a g h
  debloat_once (status.LeftCode n a) _ g h = absurd h
  debloat_once (status.RipReach a) (status.LeftCode m b) g h = stayed _ m b h g
  debloat_once (status.RipReach a) (status.RipReach b) g h =
      reach_again g h (λ one other p q reach room. ap (λ n. status.RipReach n) (one_value _ a b p (reach ∙ q)))
  debloat_once (status.RipReach a) (status.NoRoom r) g h = reach_again g h (λ one other p q reach room. absurd (not_both _ a p (reach ∙ q.0)))
  debloat_once (status.RipReach a) status.Ok g h = reach_again g h (λ one other p q reach room. absurd (not_both _ a p (reach ∙ q.0)))
  debloat_once (status.RipReach a) _ g h = absurd h
  debloat_once (status.NoRoom q) (status.LeftCode m b) g h = stayed _ m b h g
  debloat_once (status.NoRoom q) (status.RipReach b) g h = reach_again g h (λ one other p r reach room. absurd (not_both _ b (reach ∙ r) p.0))
  debloat_once (status.NoRoom q) (status.NoRoom r) g h =
      reach_again g h (λ one other p t reach room. ap (λ n. status.NoRoom n) (one_value _ q r p.1 (room ∙ t.1)))
  debloat_once (status.NoRoom q) status.Ok g h = reach_again g h (λ one other p t reach room. absurd (not_both _ q p.1 (room ∙ t.1)))
  debloat_once (status.NoRoom q) _ g h = absurd h
  debloat_once status.Ok (status.LeftCode m b) g h = stayed _ m b h g
  debloat_once status.Ok (status.RipReach b) g h = reach_again g h (λ one other p r reach room. absurd (not_both _ b (reach ∙ r) p.0))
  debloat_once status.Ok (status.NoRoom r) g h = reach_again g h (λ one other p t reach room. absurd (not_both _ r (room ∙ t.1) p.1))
  debloat_once status.Ok status.Ok g h = refl
  debloat_once status.Ok _ g h = absurd h
  debloat_once _ other g h = absurd g

-- so does tracing
trace_once : (limit : ℕ) (x : List ℕ) (inputs : List Input) (st other : Status) → TraceEnds limit x inputs st → TraceEnds limit x inputs other → st ≡ other
trace_once limit x inputs (status.LeftCode n a) (status.LeftCode m b) g h = left_once limit x 1 inputs n a m b g h
trace_once limit x inputs (status.LeftCode n a) status.Ok g h = absurd (stay_not_left limit x 1 inputs n a h g)
trace_once limit x inputs (status.LeftCode n a) _ g h = absurd h
trace_once limit x inputs status.Ok (status.LeftCode m b) g h = absurd (stay_not_left limit x 1 inputs m b g h)
trace_once limit x inputs status.Ok status.Ok g h = refl
trace_once limit x inputs status.Ok _ g h = absurd h
trace_once limit x inputs _ other g h = absurd g

well_once : (st other : Status) → EndsWell st → EndsWell other → st ≡ other
well_once status.Ok status.Ok g h = refl
well_once status.Ok _ g h = absurd h
well_once _ other g h = absurd g

-- so does running
run_once : (limit : ℕ) (x : List ℕ) (input : Input) (st other : Status) → RunEnds limit x input st → RunEnds limit x input other → st ≡ other
run_once limit x input status.Ok status.Ok g h = refl
run_once limit x input status.Ok (status.StubStop b) g h = absurd (not_both (stop_of limit x input) b h g)
run_once limit x input status.Ok _ g h = absurd h
run_once limit x input (status.StubStop a) status.Ok g h = absurd (not_both (stop_of limit x input) a g h)
run_once limit x input (status.StubStop a) (status.StubStop b) g h = ap (λ n. status.StubStop n) (one_value (stop_of limit x input) a b g h)
run_once limit x input (status.StubStop a) _ g h = absurd h
run_once limit x input _ other g h = absurd g

-- and labelling
not_less : {A : Type 0} (n m : ℕ) → n ≤ m → m < n → A
not_less n m le lt = absurd (omega (arith, le, lt))

label_once : (x : List ℕ) (st other : Status) → LabelEnds x st → LabelEnds x other → st ≡ other
label_once x status.Ok status.Ok g h = refl
label_once x status.Ok (status.NoRoom room.Length) g h = not_less _ _ g h
label_once x status.Ok _ g h = absurd h
label_once x (status.NoRoom room.Length) status.Ok g h = not_less _ _ h g
label_once x (status.NoRoom room.Length) (status.NoRoom room.Length) g h = refl
label_once x (status.NoRoom room.Length) _ g h = absurd h
label_once x _ other g h = absurd g

-- each work ends in one way
works_once : (v : Verb) (values : Values) (r : Read) (st other : Status) → (work_of v values).Ends r st → (work_of v values).Ends r other → st ≡ other
works_once verb.Debloat values r = debloat_once values.level values.number (sources_in r)
works_once verb.Check values r = well_once
works_once verb.Disasm values r = well_once
works_once verb.Generate values r = well_once
works_once verb.Run values r = run_once values.number (exe_of r) (input_in r)
works_once verb.Trace values r = trace_once values.number (exe_of r) r.inputs
works_once verb.Replay values r = λ st other g h. g ∙ sym h
works_once verb.Report values r = well_once
works_once verb.Functions values r = trace_once values.number (exe_of r) r.inputs
works_once verb.Label values r = label_once (exe_of r)
works_once verb.Demo values r = debloat_once level.Exact GEN_STEPS_LIMIT (demonstrated values.number)

pub ends_once : (p : Planned) → EndsOnce (command_of p)
ends_once p = works_once p.verb p.values
