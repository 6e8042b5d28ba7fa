-- What is asked of a file before it is rewritten, and what is made of it.
use Rattle.std.proofs.Common.{◌≡◌, ℕ, suc, ◌<◌, ◌≤◌, true, List, [], ◌∷◌, None, ap, ◌∙◌, subst}
use Rattle.std.specs.Prelude.{slice_index}
use Rattle.std.specs.List.{AllByRecursion}
use Rattle.rz_machine.specs.declared.machine.Machine.{Machine}
use Rattle.rz_sys.specs.declared.input.Input.{Input}
use Rattle.rz_aset.specs.declared.kept.Record.{Record}
use Rattle.rz_machine.specs.Kept.{Kept, has_edge}
use Rattle.rz_paths.specs.declared.level.Level.{Level}
use Rattle.rz_paths.specs.Levels.{IsWithin, Keeps as KeepsAt}
use Rattle.rz_image.specs.Memory.{NoSelfWritten}
use Rattle.rz_elf.specs.Elf.{image_of, Image}
use Rattle.rz_core.specs.Decoding.{decode_profile, profile_program}
use Rattle.rz_elf.specs.Loaded.{ElfFile, IsRead, loaded}
use Rattle.rz_machine.specs.Start.{start}
use Rattle.rz_machine.specs.Recorded.{StaysPlausible}
use Rattle.rz_machine.specs.Nodes.{code_in, StandsIn}
use Rattle.rz_machine.specs.Traced.{kept_in, with_run}
use Rattle.rz_machine.specs.WrittenFile.{Inert}
use Rattle.rz_machine.specs.Keeps.{Keeps}
use Rattle.rz_elf.specs.PlainImage.{IsPlainRegion, IsPlainImage}
use Rattle.rz_rewrite.specs.declared.refusal.Refusal.{Refusal}
use Rattle.rz_rewrite.specs.declared.refusal.Refusal.TheVariants as refusal
use Rattle.rz_rewrite.specs.Refusals.{rip_reach_of, no_room_for, IsRefusal}
use Rattle.rz_rewrite.specs.Rewritten.{CanRewrite, HasCosts, IsPaced}
use Rattle.rz_elf.specs.Laws.Loads.{loaded_image}
use Rattle.rz_image.specs.Laws.Cells.{IsFixed, all_map, none_self_written}
use Rattle.rz_elf.specs.Laws.PlainAccepted.{accepted_plain}
use Rattle.rz_core.specs.Debloated.{traced, recorded_of, AllStay, Sources, record_of, IsKept, IsDebloated}
use Rattle.rz_core.specs.declared.status.Status.{Status}
use Rattle.rz_core.specs.declared.status.Status.TheVariants as status
use Rattle.rz_core.specs.Calls.Making.{status_of, MakeRefusal, RunsRefusal, TraceRefusal}
use Rattle.rz_core.proofs.UnionLaws.{all_uncut}

-- each item of a list of bytes is one
each_byte : (xs : List ℕ) → ((i : ℕ) → slice_index xs i < 256) → AllByRecursion (λ b. b < 256) xs
each_byte [] h = tt
each_byte (x ∷ xs) h = (h 0, each_byte xs (λ i. h (suc i)))

-- what was read of a file of bytes
module _ (elf : ElfFile) (is : IsRead elf) where
  -- its run is the traced run
  pub traced_is : (input : Input) → start (loaded elf) input ≡ traced elf.bytes input
  traced_is input = ap (λ (i : Image). start i input) (loaded_image elf is)

  -- what a traced run adds
  pub added_is : (limit : ℕ) (input : Input) (old new : Kept) → new ≡ with_run decode_profile limit (start (loaded elf) input) old → new ≡ with_run decode_profile limit (traced elf.bytes input) old
  added_is limit input old new is_with = is_with ∙ ap (λ (s : Machine). with_run decode_profile limit s old) (traced_is input)

  -- none of its code is written by itself, so what is recorded of its runs is plausible
  pub plausible : (bytes : List ℕ) (limit : ℕ) (old new : Kept) → bytes ≡ elf.bytes → ((i : ℕ) → slice_index bytes i < 256) → 1 ≤ limit
      → StaysPlausible decode_profile limit (loaded elf) old new → StandsIn decode_profile (code_in (image_of elf.bytes).loads) old → CanRewrite decode_profile (image_of elf.bytes) new
  plausible bytes limit old new same each some stays stands =
      let image : loaded elf ≡ image_of elf.bytes = loaded_image elf is in
      let plain : IsPlainImage (image_of elf.bytes) = accepted_plain elf.bytes (subst (AllByRecursion (λ b. b < 256)) same (each_byte bytes each)) is.accepted in
      let fixed : NoSelfWritten (image_of elf.bytes).loads = none_self_written (image_of elf.bytes).loads (all_map IsPlainRegion IsFixed (λ r k. k.fixed) (image_of elf.bytes).loads plain) in
      subst (λ (i : Image). StaysPlausible decode_profile limit i old new) image stays some fixed stands

-- a level's set of what the runs recorded
module _ (level : Level) (limit : ℕ) (from : Sources) (rec kept : Record) (recorded : kept_in rec ≡ recorded_of limit from.exe from.inputs)
    (keeps : KeepsAt level (profile_program from.exe) from.functions rec kept)
  where
    pub is_kept : IsKept level limit from (kept_in kept)
    is_kept =
        let same : KeepsAt level (profile_program from.exe) from.functions (record_of (kept_in rec)) (record_of (kept_in kept)) = keeps in
        subst (λ (k : Kept). KeepsAt level (profile_program from.exe) from.functions (record_of k) (record_of (kept_in kept))) recorded same

    -- what is made of a file for it
    module _ (stay : AllStay limit from.exe from.inputs) where
      pub debloated_of : (w : List ℕ) → IsWithin rec kept → rip_reach_of decode_profile from.exe (kept_in kept) ≡ None → no_room_for decode_profile from.exe (kept_in kept) ≡ None
          → Keeps decode_profile from.exe w (kept_in kept) → IsPaced decode_profile from.exe w (kept_in kept) → HasCosts decode_profile from.exe w (kept_in kept)
          → Inert decode_profile from.exe w (kept_in kept) → IsDebloated level limit from w
      debloated_of w within reach room runs paced costs inert =
          record {
            stay = stay;
            kept = kept_in kept;
            is = is_kept;
            reach = reach;
            room = room;
            keeps = runs;
            paced = paced;
            costs = costs;
            uncut = all_uncut limit from.exe kept.edges from.inputs
                (subst (λ (k : Kept). (a b : ℕ) → has_edge k.edges a b ≡ true → has_edge kept.edges a b ≡ true) recorded within.edges) stay;
            inert = inert;
          }

      -- and why nothing is
      pub refused_of : (why : Refusal) → IsRefusal decode_profile from.exe (kept_in kept) why → MakeRefusal level limit from (status_of why)
      refused_of (refusal.RipReach address) h = record { stay = stay; kept = kept_in kept; is = is_kept; fact = h }
      refused_of (refusal.NoRoom room) h = record { stay = stay; kept = kept_in kept; is = is_kept; fact = h }
      refused_of refusal.OutOfMemory h = tt

-- why runs weren't recorded ends debloating, and tracing, so
pub make_refusal : (level : Level) (limit : ℕ) (from : Sources) (st : Status) → RunsRefusal limit from.exe from.inputs st → MakeRefusal level limit from st
make_refusal level limit from (status.LeftCode n a) h = h
make_refusal level limit from status.OutOfMemory h = tt
make_refusal level limit from _ h = absurd h

pub trace_refusal : (x : List ℕ) (limit : ℕ) (inputs : List Input) (st : Status) → RunsRefusal limit x inputs st → TraceRefusal limit x inputs st
trace_refusal x limit inputs (status.LeftCode n a) h = h
trace_refusal x limit inputs status.OutOfMemory h = tt
trace_refusal x limit inputs _ h = absurd h
