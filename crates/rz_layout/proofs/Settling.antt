-- Making jumps near one by one.
use Rattle.std.proofs.Common.{◌≡◌, ◌≢◌, ℕ, ◌+◌, ◌<◌, ◌≤◌, ◌⊎◌, Bool, true, false, cond, List, length, set, map, refl, arith, inl, inr, get_or-set_other}
use Rattle.std.specs.List.{count_by}
use Rattle.std.proofs.lemmas.Bool.{cases_lt, cases_eq}
use Rattle.std.proofs.lemmas.List.{get_or_past, get_or-map}
use Rattle.rz_layout.specs.declared.piece.Piece.{Piece}
use Rattle.rz_layout.specs.declared.piece.Piece.TheVariants.{Fixed, Jump}
use Rattle.rz_isa.specs.declared.rows.Form.{Form}
use Rattle.rz_isa.specs.declared.rows.Form.TheVariants.{Near, Short}
use Rattle.rz_isa.specs.Plan.{form_at}
use Rattle.rz_layout.specs.Calls.Pieces.{first_form, piece_at, piece_offset, MayBeShortAt, IsPiecePlan, IsNearOnlyWhere, IsLeastForms, IsTooFar}
use Rattle.rz_layout.proofs.Offsets.{reaches_down, may_be_short, short_reaches, fixed_not_short, reaches-set}

abbrev pub is_short : Form → Bool
is_short Near = false
is_short Short = true

-- how many pieces are short
abbrev pub shorts : List Form → ℕ
shorts forms = count_by is_short forms

near_or_short : (form : Form) → (form ≡ Near) ⊎ (form ≡ Short)
near_or_short Near = inl refl
near_or_short Short = inr refl

same_form : (a b : Form) → (a ≡ Near → b ≡ Near) → (b ≡ Near → a ≡ Near) → a ≡ b
same_form Near b down up = let e = down refl in cc
same_form Short Near down up = let e = up refl in cc
same_form Short Short down up = refl

-- what may be short where more are near may be so where fewer are
may_down : (pieces : List Piece) (forms other : List Form) → IsNearOnlyWhere forms other → (k : ℕ) → form_at forms k ≡ Short → form_at other k ≡ Short → (piece : Piece) → piece_at pieces k ≡ piece → MayBeShortAt pieces other k → MayBeShortAt pieces forms k
may_down pieces forms other less k short short' (Fixed len) is may = absurd (fixed_not_short pieces other k len is may)
may_down pieces forms other less k short short' (Jump cond to) is may =
    may_be_short pieces forms k cond to is (reaches_down pieces forms other less k cond to is short short' (short_reaches pieces other k cond to is may))

-- a jump that is too far is near in each plan
near_in_plans : (pieces : List Piece) (forms other : List Form) (i : ℕ) → IsNearOnlyWhere forms other → IsTooFar pieces forms i → IsPiecePlan pieces other → form_at other i ≡ Near
near_in_plans pieces forms other i less far plan =
    elim (near_or_short (form_at other i)) [
      | inl near ↦ near
      | inr short ↦ absurd (far.unreached (may_down pieces forms other less i far.short short (piece_at pieces i) refl (plan.reached i short)))
    ]

-- to make near what is too far keeps the forms least
pub least-set : (pieces : List Piece) (forms : List Form) (i : ℕ) → IsLeastForms pieces forms → IsTooFar pieces forms i → IsLeastForms pieces (set forms i Near)
least-set pieces forms i least far other plan k near =
    elim (cases_eq k i) [
      | inl same ↦ rw same (near_in_plans pieces forms other i (least other plan) far plan)
      | inr different ↦ least other plan k (rw (get_or-set_other forms i k Near Near different) at near)
    ]

-- the shortest forms are near only where each plan is
first_near : (pieces : List Piece) (other : List Form) (k : ℕ) (piece : Piece) → piece_at pieces k ≡ piece → first_form piece ≡ Near → MayBeShortAt pieces other k → ⊥
first_near pieces other k (Fixed len) is near may = fixed_not_short pieces other k len is may
first_near pieces other k (Jump cond to) is near may = cc

pub least_first : (pieces : List Piece) → IsLeastForms pieces (map first_form pieces)
least_first pieces other plan k near =
    elim (near_or_short (form_at other k)) [
      | inl near' ↦ near'
      | inr short ↦
          elim (cases_lt k (length pieces)) [
            | inl h ↦
                let e = get_or-map first_form pieces k (Fixed 0) Near h in
                absurd (first_near pieces other k (piece_at pieces k) refl (rw e at near) (plan.reached k short))
            | inr h ↦
                let each = plan.each in
                let past = get_or_past other k Near (omega arith) in
                absurd cc
          ]
    ]

-- a piece far enough back that may be short may be so still where one grows
may_be_short-set : (pieces : List Piece) (forms : List Form) (i k : ℕ) → k < i → piece_offset pieces forms (k + 1) + 127 < piece_offset pieces forms i → form_at forms k ≡ Short → (piece : Piece) → piece_at pieces k ≡ piece → MayBeShortAt pieces forms k → MayBeShortAt pieces (set forms i Near) k
may_be_short-set pieces forms i k before away short (Fixed len) is may = absurd (fixed_not_short pieces forms k len is may)
may_be_short-set pieces forms i k before away short (Jump cond to) is may =
    may_be_short pieces (set forms i Near) k cond to is
    (reaches-set pieces forms i k cond to before away is short (short_reaches pieces forms k cond to is may))

-- where a piece grows, what was looked at far enough back stays settled
pub settled-set : (pieces : List Piece) (forms : List Form) (i start : ℕ) → start ≤ i → ((k : ℕ) → k < start → piece_offset pieces forms (k + 1) + 127 < piece_offset pieces forms i) → ((k : ℕ) → k < i → form_at forms k ≡ Short → MayBeShortAt pieces forms k) → (k : ℕ) → k < start → form_at (set forms i Near) k ≡ Short → MayBeShortAt pieces (set forms i Near) k
settled-set pieces forms i start before away settled k h short =
    let k_before : k < i = omega arith in
    let different : k ≢ i = omega arith in
    let short' : form_at forms k ≡ Short = rw (get_or-set_other forms i k Near Near different) at short in
    may_be_short-set pieces forms i k k_before (away k h) short' (piece_at pieces k) refl (settled k k_before short')
