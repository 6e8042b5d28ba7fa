-- What a bounded read says of the whole file.
use Rattle.std.proofs.Common.{◌≡◌, ◌++◌, drop, if◌then◌else◌, ⊎_elim, Option, Some, None, lt-ltb, Bool, true, false, ℕ, ◌+◌, ◌<◌, ◌≤◌, List, length, take, min, refl, sym, ap, ◌∙◌, arith, take_all, length-take}
use Rattle.std.proofs.lemmas.Bool.{cases_lt}
use Rattle.std.specs.Prelude.{IsTrue}
use Rattle.rz_outside.specs.StoreAnswers.{Files, ReadsFirst}
use Rattle.rz_elf.specs.declared.fault.ElfFault.TheVariants as fault
use Rattle.rz_elf.specs.Elf.{Condition, first_of, file_conditions, header_conditions, load_conditions, placed, loads, file_header, fault_of}
use Rattle.rz_input.specs.declared.error.InputError.TheVariants as error
use Rattle.rz_input.specs.Fault.{fault_of as input_fault_of, fault_of_line}
use Rattle.rz_text.specs.Fault.{line_fault}
use Rattle.rz_classes.specs.declared.error.ClassError.TheVariants as class_error
use Rattle.rz_classes.specs.Fault.{fault_of as class_fault_of, fault_of_line as class_fault_of_line}
use Rattle.rz_syms.specs.declared.function.Function.{Function as Named}
use Rattle.rz_syms.specs.Resolved.{resolved, resolved_lines}
use Rattle.rz_trace.specs.declared.error.TraceFault.TheVariants as trace_error
use Rattle.rz_trace.specs.Fault.{fault_of as trace_fault_of, fault_of_lines}
use Rattle.rz_text.specs.Lines.{lines_from}
use Rattle.rz_core.proofs.ResultLaws.{not_both}

-- a test that refuses each list of more than `most` bytes in one way tells as much of the first bytes, one more than that, as of all
module _ {E : Type 0} (fault : List ℕ → Option E) (most : ℕ) (long : E) (is_long : (x : List ℕ) → most < length x → fault x ≡ Some long) where
  module _ (whole bytes : List ℕ) (first : bytes ≡ take (1 + most) whole) where
    count : length bytes ≡ min (1 + most) (length whole)
    count = ap length first ∙ length-take (1 + most) whole

    pub fault_whole : (o : Option E) → fault bytes ≡ o → fault whole ≡ o
    fault_whole o h = ⊎_elim more all (cases_lt most (length whole))
      where
        more : most < length whole → fault whole ≡ o
        more lt = let n = count in is_long whole lt ∙ (sym (is_long bytes (omega (arith, n, lt))) ∙ h)

        all : length whole ≤ most → fault whole ≡ o
        all le = ap fault (sym (first ∙ take_all (1 + most) whole (omega arith))) ∙ h

    -- what isn't refused was read whole
    pub read_whole : fault bytes ≡ None → bytes ≡ whole
    read_whole h = ⊎_elim more all (cases_lt most (length whole))
      where
        more : most < length whole → bytes ≡ whole
        more lt = let n = count in absurd (not_both (fault bytes) long (is_long bytes (omega (arith, n, lt))) h)

        all : length whole ≤ most → bytes ≡ whole
        all le = first ∙ take_all (1 + most) whole (omega arith)

-- an executable of too many bytes
pub long_executable : (x : List ℕ) → 67108864 < length x → fault_of x ≡ Some fault.Long
unfolding fault_of
long_executable x long =
    let rest : List Condition = drop 1 (file_conditions x) ++ (header_conditions (length x) (placed x) ++ load_conditions (file_header x).entry (loads x)) in
    ap (λ b. if b then Some fault.Long else first_of rest) (lt-ltb 67108864 (length x) long)

-- an input of too many bytes
pub long_input : (x : List ℕ) → 16777216 < length x → input_fault_of x ≡ Some (error.BadLine 0)
long_input x long = ap (λ b. if b then Some (error.BadLine 0) else line_fault fault_of_line x) (lt-ltb 16777216 (length x) long)

-- a class file of too many bytes
pub long_classes : (x : List ℕ) → 16777216 < length x → class_fault_of x ≡ Some (class_error.BadLine 0)
long_classes x long = ap (λ b. if b then Some (class_error.BadLine 0) else line_fault class_fault_of_line x) (lt-ltb 16777216 (length x) long)

-- so is its text by addresses
pub long_class_text : (names : List Named) (x : List ℕ) → 16777216 < length x → class_fault_of (resolved names x) ≡ Some (class_error.BadLine 0)
unfolding resolved
long_class_text names x long = ap (λ b. class_fault_of (if b then x else resolved_lines names x)) (lt-ltb 16777216 (length x) long) ∙ long_classes x long

-- a trace file of too many bytes
pub long_trace : (x : List ℕ) → 16777216 < length x → trace_fault_of x ≡ Some (trace_error.BadLine 0)
long_trace x long = ap (λ b. if b then Some (trace_error.BadLine 0) else fault_of_lines (lines_from 1 x)) (lt-ltb 16777216 (length x) long)

-- what holds of the first bytes, and then of the whole file, holds of what was read
pub of_read : (told : Bool) (files : Files) (name : List ℕ) (max : ℕ) (bytes : List ℕ) (P : List ℕ → Type 0) → ReadsFirst told files name max bytes → P bytes
    → ((whole : List ℕ) → bytes ≡ take max whole → P whole) → (x : List ℕ) × (IsTrue told → files name ≡ Some x) × P x
of_read true files name max bytes P reads here up = let r = reads refl in (r.0, λ t. r.1, up r.0 r.2)
of_read false files name max bytes P reads here up = (bytes, λ t. absurd (cc), here)
