-- What the lookup routine's items name, and that a table of instructions that spells a site has what it is made of.
use Rattle.std.proofs.Common.{◌≡◌, ℕ, zero, suc, Bool, true, false, ◌||◌, IsTrue, List, [], ◌∷◌, length, ◌<◌, arith, Some, refl, ap, ◌∙◌, subst}
use Rattle.std.specs.List.{AllByRecursion, list_all}
use Rattle.std.specs.Prelude.{slice_get}
use Rattle.std.proofs.lemmas.Bool.{and_parts}
use Rattle.rz_isa.specs.declared.rows.Row.{Row}
use Rattle.rz_isa.specs.declared.rows.Op.{Op}
use Rattle.rz_isa.specs.declared.rows.Op.TheVariants as ops
use Rattle.rz_isa.specs.declared.instruction.Insn.{Insn}
use Rattle.rz_isa.specs.declared.spelled.Fields.{Fields}
use Rattle.rz_isa.specs.Emitted.{has_lookup, is_looked_up}
use Rattle.rz_isa.specs.Fields.{build_op}
use Rattle.rz_isa.specs.Insn.{kind_of}
use Rattle.rz_isa.specs.Nodes.{is_site}
use Rattle.rz_isa.specs.Sizes.{OfLabel}
use Rattle.rz_isa.specs.Spells.{Spells}
use Rattle.rz_isa.specs.declared.item_list.Label.{Label}
use Rattle.rz_isa.specs.declared.item_list.Label.TheVariants as label
use Rattle.rz_isa.specs.declared.item_list.Item.{Item}
use Rattle.rz_isa.specs.declared.item_list.Item.TheVariants as item
use Rattle.rz_lookup.specs.Routine.{IsClosed, names_own, lookup_items}

looked_up_op : (op : Op) (f : Fields) → is_site (kind_of (build_op op f)) ≡ true → is_looked_up op ≡ true
looked_up_op (ops.CallInd s) f h = refl
looked_up_op (ops.JmpInd s) f h = refl
looked_up_op ops.Ret f h = refl
looked_up_op _ f h = cc

some_row : (rows : List Row) (n : ℕ) (row : Row) → slice_get rows n ≡ Some row → is_looked_up row.op ≡ true → has_lookup rows ≡ true
some_row [] n row e h = absurd (cc)
some_row (r ∷ rest) zero row e h = let f : r ≡ row = cc in ap (λ (x : Row). is_looked_up x.op || has_lookup rest) f ∙ ap (λ b. b || has_lookup rest) h
some_row (r ∷ rest) (suc n) row e h = ap (λ b. is_looked_up r.op || b) (some_row rest n row e h) ∙ or_true (is_looked_up r.op)
  where
    or_true : (b : Bool) → (b || true) ≡ true
    or_true true = refl
    or_true false = refl

pub site_has_lookup : (rows : List Row) (bytes : List ℕ) (b : ℕ) (x : Insn) → Spells rows bytes b x → IsTrue (is_site (kind_of x)) → IsTrue (has_lookup rows)
site_has_lookup rows bytes b x h site = some_row rows h.n h.row h.in_table (looked_up_op h.row.op _ (subst (λ y. is_site (kind_of y) ≡ true) h.by_row.names site))

-- ---- its own items alone

pub lookup_closed : (scratch : ℕ) → IsClosed (lookup_items scratch)
lookup_closed scratch = record { some = omega arith; own = refl }

own_of : (P : Label → Type 0) → ((k : ℕ) → P (label.Item k)) → (n : ℕ) (i : Item) → names_own n i ≡ true → OfLabel P i
own_of P own n (item.Whole x) h = tt
own_of P own n (item.Jump c (label.Item k)) h = own k
own_of P own n (item.Jrcxz (label.Item k)) h = own k
own_of P own n (item.Jump c (label.Place a)) h = cc
own_of P own n (item.Jump c (label.Stub a)) h = cc
own_of P own n (item.Jump c (label.Table a)) h = cc
own_of P own n (item.Jump c label.Routine) h = cc
own_of P own n (item.Jrcxz (label.Place a)) h = cc
own_of P own n (item.Jrcxz (label.Stub a)) h = cc
own_of P own n (item.Jrcxz (label.Table a)) h = cc
own_of P own n (item.Jrcxz label.Routine) h = cc
own_of P own n (item.Store a to) h = cc

-- so a test of labels that the own ones pass holds of closed items
pub closed_own : (P : Label → Type 0) → ((k : ℕ) → P (label.Item k)) → (n : ℕ) (items : List Item) → list_all (names_own n) items ≡ true → AllByRecursion (OfLabel P) items
closed_own P own n [] h = tt
closed_own P own n (i ∷ rest) h =
    let both = and_parts (names_own n i) (list_all (names_own n) rest) h in
    (own_of P own n i both.0, closed_own P own n rest both.1)
