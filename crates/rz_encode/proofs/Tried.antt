use Rattle.std.proofs.Common.{ℕ, zero, suc, ◌≡◌, ◌+◌, ◌≤◌, ◌<◌, ◌==◌, refl, ap, sym, ◌∙◌, subst, arith, List, [], ◌∷◌, length, drop, get_or, Bool, true, false, Option, Some, None, inl, inr}
use Rattle.std.specs.Prelude.{slice_get, if◌then◌else◌, ◌≢◌}
use Rattle.std.specs.List.{list_all}
use Rattle.std.proofs.lemmas.Bool.{cases_Bool}
use Rattle.std.proofs.lemmas.Bool.Decides.{nat_tests}
use Rattle.std.proofs.Math.Seq.{drop-cons}
use Rattle.rz_isa.specs.declared.classes.Class.{Class}
use Rattle.rz_isa.specs.declared.rows.Form.{Form}
use Rattle.rz_isa.specs.declared.rows.Op.{Op}
use Rattle.rz_isa.specs.declared.rows.Op.TheVariants as ops
use Rattle.rz_isa.specs.declared.rows.Row.{Row}
use Rattle.rz_isa.specs.declared.instruction.Insn.{Insn}
use Rattle.rz_isa.specs.declared.spelled.Fields.{Fields}
use Rattle.rz_isa.specs.Class.{class_of, op_class, class_place}
use Rattle.rz_isa.specs.Index.{is_class, numbers_of}
use Rattle.rz_isa.specs.Fields.{build_op}
use Rattle.rz_isa.specs.Finding.{found}
use Rattle.rz_isa.specs.Regular.{is_regular}
use Rattle.rz_isa.specs.Canonical.{Chosen, same_form, or_chosen, chosen}
use Rattle.rz_isa.specs.Laws.Inverse.{found_builds}
use Rattle.rz_isa.specs.Laws.Tests.{and_parts, some_same}
use Rattle.rz_encode.specs.Calls.Choose.{served}

-- Only the rows of the instruction's class can be chosen, so these are tried.

-- ---- a row of another class has no fields for the instruction

built_class : (op : Op) (f : Fields) → class_of (build_op op f) ≡ op_class op
built_class (ops.Arith o d s) f = refl
built_class (ops.Test a b) x = refl
built_class (ops.Mov a b) x = refl
built_class (ops.Lea a b) x = refl
built_class (ops.Extend a b c) x = refl
built_class (ops.Push a) x = refl
built_class (ops.Pop a) x = refl
built_class ops.Leave x = refl
built_class ops.PushFlags x = refl
built_class ops.PopFlags x = refl
built_class (ops.Unary a b) x = refl
built_class (ops.Wide a b) x = refl
built_class (ops.Imul2 a b) x = refl
built_class (ops.Imul3 a b c) x = refl
built_class (ops.Shift a b c) x = refl
built_class (ops.DoubleShift a b c d) x = refl
built_class (ops.Cmov a b) x = refl
built_class (ops.Set a) x = refl
built_class ops.Jcc x = refl
built_class ops.Jrcxz x = refl
built_class ops.Jmp x = refl
built_class ops.Call x = refl
built_class (ops.CallInd a) x = refl
built_class (ops.JmpInd a) x = refl
built_class ops.Ret x = refl
built_class ops.Convert x = refl
built_class ops.SignFill x = refl
built_class (ops.Xchg a b) x = refl
built_class (ops.CmpXchg a b) x = refl
built_class (ops.Xadd a b) x = refl
built_class ops.Nop x = refl
built_class (ops.Bswap a) x = refl
built_class (ops.BitTest a b c) x = refl
built_class (ops.Scan a b c) x = refl
built_class ops.Movs x = refl
built_class ops.Stos x = refl
built_class ops.Cmps x = refl
built_class ops.Scas x = refl
built_class (ops.Flag a) x = refl
built_class ops.Syscall x = refl
built_class ops.Ud2 x = refl
built_class ops.Hlt x = refl
built_class ops.Int3 x = refl

found_by : (row : Row) (x : Insn) (o : Option Fields) → is_regular row ≡ true → found row x ≡ o → op_class row.op ≢ class_of x → found row x ≡ None
found_by row x None regular e other = e
found_by row x (Some f) regular e other = absurd (other (sym (built_class row.op f) ∙ ap class_of (found_builds row x f regular e).built))

other_class : (row : Row) (x : Insn) → is_regular row ≡ true → is_class (class_of x) row ≡ false → found row x ≡ None
other_class row x regular other = found_by row x (found row x) regular refl (λ e. same_place (class_place (op_class row.op)) (class_place (class_of x)) (ap class_place e) other)
  where
    same_place : (a b : ℕ) → a ≡ b → (a == b) ≡ false → ⊥
    same_place a b e n = grind (arith, nat_tests)

-- ---- the rows of a list of numbers, tried one after another

tried_row : Form → Insn → Option Row → Option Chosen → Option Chosen
tried_row form x None other = other
tried_row form x (Some row) other = if same_form row.form form then or_chosen row (found row x) other else other

pub tried : Form → Insn → List Row → List ℕ → Option Chosen
tried form x rows [] = None
tried form x rows (n ∷ ns) = tried_row form x (slice_get rows n) (tried form x rows ns)

-- from the row of the number m on, all and those of the class give the same
tried_from : (form : Form) (x : Insn) (all rows : List Row) (m : ℕ) → ((i : ℕ) → slice_get all (m + i) ≡ slice_get rows i) → list_all is_regular rows ≡ true
    → tried form x all (numbers_of (class_of x) m rows) ≡ chosen rows form x
unfolding tried tried_row
tried_from form x all [] m same regular = refl
tried_from form x all (r ∷ rows) m same regular =
    let t = and_parts (is_regular r) (list_all is_regular rows) regular in
    let i = tried_from form x all rows (suc m) (λ i. ap (slice_get all) (one_up m i) ∙ same (suc i)) t.1 in
    elim (cases_Bool (is_class (class_of x) r)) [
      | inl y ↦ ap (λ k. tried form x all (if k then m ∷ numbers_of (class_of x) (suc m) rows else numbers_of (class_of x) (suc m) rows)) y
          ∙ (ap (λ k. tried_row form x k (tried form x all (numbers_of (class_of x) (suc m) rows))) (ap (slice_get all) (none_up m) ∙ same 0)
          ∙ ap (tried_row form x (Some r)) i)
      | inr n ↦ ap (λ k. tried form x all (if k then m ∷ numbers_of (class_of x) (suc m) rows else numbers_of (class_of x) (suc m) rows)) n
          ∙ (i ∙ sym (passed_over (same_form r.form form) r (found r x) (chosen rows form x) (other_class r x t.0 n)))
    ]
  where
    one_up : (m i : ℕ) → suc m + i ≡ m + suc i
    one_up m i = omega arith

    none_up : (m : ℕ) → m ≡ m + 0
    none_up m = omega arith

    passed_over : (b : Bool) (r : Row) (o : Option Fields) (other : Option Chosen) → o ≡ None → (if b then or_chosen r o other else other) ≡ other
    passed_over true r o other e = ap (λ k. or_chosen r k other) e
    passed_over false r o other e = refl

pub tried_all : (form : Form) (x : Insn) (rows : List Row) (numbers : List ℕ) → list_all is_regular rows ≡ true → numbers ≡ numbers_of (class_of x) 0 rows → tried form x rows numbers ≡ chosen rows form x
tried_all form x rows numbers regular e = ap (tried form x rows) e ∙ tried_from form x rows rows 0 (λ i. ap (slice_get rows) (omega arith)) regular

-- ---- the loop over the numbers

-- what is tried from the number at j on
next_tried : (form : Form) (x : Insn) (rows : List Row) (numbers : List ℕ) (j : ℕ) (row : Row) → j < length numbers → slice_get rows (get_or numbers j 0) ≡ Some row
    → tried form x rows (drop j numbers) ≡ tried_row form x (Some row) (tried form x rows (drop (j + 1) numbers))
unfolding tried
next_tried form x rows numbers j row lt at =
    let one : j + 1 ≡ suc j = omega arith in
    ap (tried form x rows) (drop-cons numbers j 0 lt) ∙ (ap (λ k. tried_row form x k (tried form x rows (drop (suc j) numbers))) at ∙ ap (λ k. tried_row form x (Some row) (tried form x rows (drop k numbers))) (sym one))

pub served_tried : (form : Form) (x : Insn) (rows : List Row) (numbers : List ℕ) (j : ℕ) (row : Row) (f : Fields) → j < length numbers → slice_get rows (get_or numbers j 0) ≡ Some row → served form x row ≡ Some f
    → Some (record { row = row; fields = f }) ≡ tried form x rows (drop j numbers)
unfolding tried_row
served_tried form x rows numbers j row f lt at e = sym (next_tried form x rows numbers j row lt at ∙ taken (same_form row.form form) (found row x) (tried form x rows (drop (j + 1) numbers)) e)
  where
    taken : (b : Bool) (o : Option Fields) (other : Option Chosen) → (if b then o else None) ≡ Some f → (if b then or_chosen row o other else other) ≡ Some (record { row = row; fields = f })
    taken true None other e = absurd (cc)
    taken true (Some g) other e = ap (λ (k : Fields). Some (record { row = row; fields = k })) (some_same g f e)
    taken false o other e = absurd (cc)

pub unserved_tried : (form : Form) (x : Insn) (rows : List Row) (numbers : List ℕ) (j : ℕ) (row : Row) → j < length numbers → slice_get rows (get_or numbers j 0) ≡ Some row → served form x row ≡ None
    → tried form x rows (drop j numbers) ≡ tried form x rows (drop (j + 1) numbers)
unfolding tried_row
unserved_tried form x rows numbers j row lt at e = next_tried form x rows numbers j row lt at ∙ missed (same_form row.form form) (found row x) (tried form x rows (drop (j + 1) numbers)) e
  where
    missed : (b : Bool) (o : Option Fields) (other : Option Chosen) → (if b then o else None) ≡ None → (if b then or_chosen row o other else other) ≡ other
    missed true None other e = refl
    missed true (Some g) other e = absurd (cc)
    missed false o other e = refl

pub none_tried : (form : Form) (x : Insn) (rows : List Row) (numbers : List ℕ) (j : ℕ) → length numbers ≤ j → tried form x rows (drop j numbers) ≡ None
unfolding tried
none_tried form x rows numbers j le = ap (tried form x rows) (drop_past numbers j le)
  where
    drop_past : (xs : List ℕ) (j : ℕ) → length xs ≤ j → drop j xs ≡ []
    drop_past [] zero le = refl
    drop_past [] (suc j) le = refl
    drop_past (x ∷ xs) zero le = absurd (omega arith)
    drop_past (x ∷ xs) (suc j) le = drop_past xs j (omega arith)

-- the numbers are those of rows
low_step : (b : Bool) (m n j : ℕ) (xs : List ℕ) → ((k : ℕ) → k < length xs → get_or xs k 0 < suc m + n) → j < length (if b then m ∷ xs else xs) → get_or (if b then m ∷ xs else xs) j 0 < m + suc n
low_step true m n zero xs rest lt = omega arith
low_step true m n (suc j) xs rest lt = (let i = rest j (omega arith) in omega arith)
low_step false m n j xs rest lt = (let i = rest j lt in omega arith)

low_from : (c : Class) (rows : List Row) (m j : ℕ) → j < length (numbers_of c m rows) → get_or (numbers_of c m rows) j 0 < m + length rows
low_from c [] m j lt = absurd (omega arith)
low_from c (r ∷ rows) m j lt = low_step (is_class c r) m (length rows) j (numbers_of c (suc m) rows) (λ k l. low_from c rows (suc m) k l) lt

pub number_low : (c : Class) (rows : List Row) (numbers : List ℕ) (j : ℕ) → numbers ≡ numbers_of c 0 rows → j < length numbers → get_or numbers j 0 < length rows
number_low c rows numbers j e lt =
    let l = low_from c rows 0 j (subst (λ (k : List ℕ). j < length k) e lt) in
    let g = ap (λ (k : List ℕ). get_or k j 0) e in
    omega arith
