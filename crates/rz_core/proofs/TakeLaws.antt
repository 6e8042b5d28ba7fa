-- A bounded read tells as much as the whole file.
use Rattle.std.proofs.Common.{◌≡◌, ℕ, ◌<◌, ◌+◌, ◌∙◌, List, length, take, inl, inr, ⊎_elim, refl, sym, ap, subst}
use Rattle.std.specs.Prelude.{Option, Some, None, Result, Ok, Err}
use Rattle.rz_outside.specs.StoreAnswers.{ReadsFirst}
use Rattle.rz_outside.specs.StoreCalls.{StoreCalls, Held}
use Rattle.rz_elf.specs.Elf.{fault_of}
use Rattle.rz_elf.specs.Loaded.{ElfFile, elf_of}
use Rattle.rz_elf.specs.declared.fault.ElfFault.{ElfFault}
use Rattle.rz_elf.specs.declared.fault.ElfFault.TheVariants as fault
use Rattle.rz_classes.specs.declared.error.ClassError.TheVariants as class_error
use Rattle.rz_classes.specs.Fault.{fault_of as class_fault_of, functions_of}
use Rattle.rz_syms.specs.Fault.{fault_of as symbol_fault_of}
use Rattle.rz_input.specs.declared.error.InputError.TheVariants as error
use Rattle.rz_input.specs.Fault.{fault_of as input_fault_of}
use Rattle.rz_input.specs.Value.{input_of}
use Rattle.rz_trace.specs.declared.error.TraceFault.TheVariants as trace_error
use Rattle.rz_trace.specs.Fault.{fault_of as trace_fault_of}
use Rattle.rz_trace.specs.Value.{record_of}
use Rattle.rz_core.specs.declared.status.Status.{Status}
use Rattle.rz_core.specs.declared.status.Status.TheVariants as status
use Rattle.rz_core.proofs.ReadLaws.{fault_whole, read_whole, of_read, long_executable, long_input, long_class_text, long_trace}
use Rattle.rz_core.specs.declared.plan.Demand.{Demand}
use Rattle.rz_core.specs.declared.plan.Demand.TheVariants as demand
use Rattle.rz_core.specs.declared.plan.Wanted.{Wanted}
use Rattle.rz_core.specs.Reading.{Read, named_in, class_text, judged, unmapped, taken, taken_as, with_executable, with_functions, with_input, with_trace, FileRefusal}
use Rattle.rz_core.specs.Calls.Taking.{most_of, IsUnmapped, IsMapped, Untaken}

same_judged : {E : Type 0} (fault : List ℕ → Option E) (most : ℕ) (long : E) (is_long : (x : List ℕ) → most < length x → fault x ≡ Some long) (refusal : E → Status) (next : List ℕ → Result Read Status)
    (whole bytes : List ℕ) → bytes ≡ take (1 + most) whole → judged (fault bytes) refusal (next bytes) ≡ judged (fault whole) refusal (next whole)
same_judged {E} fault most long is_long refusal next whole bytes first = by (fault bytes) refl
  where
    by : (o : Option E) → fault bytes ≡ o → judged (fault bytes) refusal (next bytes) ≡ judged (fault whole) refusal (next whole)
    by None e = ap (λ x. judged (fault x) refusal (next x)) (read_whole fault most long is_long whole bytes first e)
    by (Some f) e =
        ap (λ o. judged o refusal (next bytes)) e
        ∙ sym (ap (λ o. judged o refusal (next whole)) (fault_whole fault most long is_long whole bytes first (Some f) e))

taken_whole : (d : Demand) (name : List ℕ) (r : Read) (whole bytes : List ℕ) → bytes ≡ take (most_of d) whole → taken_as d name r bytes ≡ taken_as d name r whole
taken_whole demand.Accepted name r whole bytes first =
    same_judged fault_of 67108864 fault.Long long_executable (λ f. status.Refused name f) (λ x. Ok (with_executable r (elf_of x))) whole bytes first
taken_whole demand.Named name r whole bytes first =
    same_judged fault_of 67108864 fault.Long long_executable (λ f. status.Refused name f)
    (λ x. judged (symbol_fault_of x) (λ f. status.BadSymbols f) (Ok (with_executable r (elf_of x)))) whole bytes first
taken_whole demand.Unmapped name r whole bytes first =
    same_judged fault_of 67108864 fault.Long long_executable (λ f. status.Refused name f) (λ x. unmapped name (elf_of x) (Ok (with_executable r (elf_of x)))) whole bytes first
taken_whole demand.ClassFile name r whole bytes first =
    same_judged (λ x. class_fault_of (class_text r x)) 16777216 (class_error.BadLine 0) (long_class_text (named_in r)) _ (λ x. Ok (with_functions r (functions_of (class_text r x)))) whole bytes first
taken_whole demand.Input name r whole bytes first =
    same_judged input_fault_of 16777216 (error.BadLine 0) long_input _ (λ x. Ok (with_input r (input_of x))) whole bytes first
taken_whole demand.Trace name r whole bytes first =
    same_judged trace_fault_of 16777216 (trace_error.BadLine 0) long_trace _ (λ x. Ok (with_trace r (record_of x))) whole bytes first

module _ (s : StoreCalls) (w : Wanted) (r : Read) (bytes : List ℕ) (reads : ReadsFirst s.told s.old w.name (most_of w.demand) bytes) where
  pub taken_held : (o : Result Read Status) → taken w r bytes ≡ o → (x : List ℕ) × Held s w.name x × (taken w r x ≡ o)
  taken_held o h =
      of_read s.told s.old w.name (most_of w.demand) bytes (λ x. taken w r x ≡ o) reads h
      (λ whole first. sym (taken_whole w.demand w.name r whole bytes first) ∙ h)

  pub untaken : (st : Status) → Untaken (taken w r bytes) st → FileRefusal w r s st
  untaken st h = ⊎_elim (λ e. subst (FileRefusal w r s) (sym e) (inl tt)) (λ e. inr (taken_held (Err st) e)) h

-- a file that can be labelled is taken, and one that can't isn't
module _ (name : List ℕ) (r : Read) (x : List ℕ) (elf : ElfFile) (sound : fault_of x ≡ None) (is : elf ≡ elf_of x) where
  abbrev next : Result Read Status
  next = Ok (with_executable r (elf_of x))

  abbrev Refused : ElfFault → Status
  Refused f = status.Refused name f

  pub unmapped_taken : (after : Read) → IsUnmapped name elf → after ≡ with_executable r elf → taken_as demand.Unmapped name r x ≡ Ok after
  unmapped_taken after h e =
      let all = subst (λ (f : ElfFile). IsUnmapped name f) is h in
      let same : after ≡ with_executable r (elf_of x) = e ∙ ap (λ (f : ElfFile). with_executable r f) is in
      ap (λ o. judged o Refused (unmapped name (elf_of x) next)) sound ∙ all next ∙ ap (λ (n : Read). Ok n) (sym same)

  pub mapped_untaken : (st : Status) → IsMapped name elf st → Untaken (taken_as demand.Unmapped name r x) st
  mapped_untaken st h =
      let all = subst (λ (f : ElfFile). IsMapped name f st) is h in
      ⊎_elim (λ e. inl e) (λ refused. inr (ap (λ o. judged o Refused (unmapped name (elf_of x) next)) sound ∙ refused next)) all
