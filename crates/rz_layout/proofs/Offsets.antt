-- How many bytes the first pieces take, in two choices of forms.
use Rattle.std.proofs.Common.{◌≡◌, ℕ, zero, suc, ◌+◌, ◌-◌, ◌<◌, ◌≤◌, ◌↔◌, ◌≢◌, Bool, true, false, List, [], set, refl, arith, add-one, add-zero, add-suc, get_or-set_other, inl, inr}
use Rattle.std.proofs.lemmas.Bool.{cases_lt}
use Rattle.rz_layout.specs.declared.piece.Piece.{Piece}
use Rattle.rz_layout.specs.declared.piece.Piece.TheVariants.{Fixed, Jump}
use Rattle.rz_isa.specs.declared.rows.Form.{Form}
use Rattle.rz_isa.specs.declared.rows.Form.TheVariants.{Near, Short}
use Rattle.rz_isa.specs.Plan.{form_at, Reaches}
use Rattle.rz_layout.specs.Calls.Pieces.{len_of, piece_at, piece_offset, MayBeShort, MayBeShortAt, IsNearOnlyWhere}

-- one piece more
pub offset_more : (pieces : List Piece) (forms : List Form) (k : ℕ) → piece_offset pieces forms (k + 1) ≡ piece_offset pieces forms k + len_of (piece_at pieces k) (form_at forms k)
unfolding piece_offset
offset_more pieces forms k = rw add-one refl

-- the same, for the last of the first pieces
pub offset_last : (pieces : List Piece) (forms : List Form) (k : ℕ) → 0 < k → piece_offset pieces forms k ≡ piece_offset pieces forms (k - 1) + len_of (piece_at pieces (k - 1)) (form_at forms (k - 1))
offset_last pieces forms k h =
    let e : k - 1 + 1 ≡ k = omega arith in
    let more = offset_more pieces forms (k - 1) in
    rw e at more

offset_grows : (pieces : List Piece) (forms : List Form) (i d : ℕ) → piece_offset pieces forms i ≤ piece_offset pieces forms (i + d)
unfolding piece_offset
offset_grows pieces forms i zero = rw add-zero (omega arith)
offset_grows pieces forms i (suc d) = rw add-suc (omega (arith, offset_grows pieces forms i d))

-- more pieces take no less
pub offset_up : (pieces : List Piece) (forms : List Form) (i j : ℕ) → i ≤ j → piece_offset pieces forms i ≤ piece_offset pieces forms j
offset_up pieces forms i j h =
    let e : i + (j - i) ≡ j = omega arith in
    rw e at (offset_grows pieces forms i (j - i))

-- a form that is near only where the other is makes a piece no longer
pub len_up : (piece : Piece) (a b : Form) → (a ≡ Near → b ≡ Near) → len_of piece a ≤ len_of piece b
len_up (Fixed len) a b h = omega arith
len_up (Jump true to) Short Short h = omega arith
len_up (Jump true to) Short Near h = omega arith
len_up (Jump true to) Near Near h = omega arith
len_up (Jump true to) Near Short h = let e = h refl in cc
len_up (Jump false to) Short Short h = omega arith
len_up (Jump false to) Short Near h = omega arith
len_up (Jump false to) Near Near h = omega arith
len_up (Jump false to) Near Short h = let e = h refl in cc

span_grows : (pieces : List Piece) (forms other : List Form) → IsNearOnlyWhere forms other → (i d : ℕ) → piece_offset pieces forms (i + d) + piece_offset pieces other i ≤ piece_offset pieces other (i + d) + piece_offset pieces forms i
unfolding piece_offset
span_grows pieces forms other less i zero = rw add-zero (omega arith)
span_grows pieces forms other less i (suc d) =
    rw add-suc (omega (arith, span_grows pieces forms other less i d, len_up (piece_at pieces (i + d)) (form_at forms (i + d)) (form_at other (i + d)) (less (i + d))))

-- from one piece to another it is no farther where fewer are near
pub span_up : (pieces : List Piece) (forms other : List Form) → IsNearOnlyWhere forms other → (i j : ℕ) → i ≤ j → piece_offset pieces forms j + piece_offset pieces other i ≤ piece_offset pieces other j + piece_offset pieces forms i
span_up pieces forms other less i j h =
    let e : i + (j - i) ≡ j = omega arith in
    rw e at (span_grows pieces forms other less i (j - i))

-- no piece stands at a higher piece_place where fewer are near
pub offset_down : (pieces : List Piece) (forms other : List Form) → IsNearOnlyWhere forms other → (k : ℕ) → piece_offset pieces forms k ≤ piece_offset pieces other k
unfolding piece_offset
offset_down pieces forms other less k = omega (arith, span_up pieces forms other less 0 k (omega arith))

-- nor at a higher piece_place than where all are near
pub offset_within : (pieces : List Piece) (forms : List Form) (k n : ℕ) → k ≤ n → piece_offset pieces forms k ≤ piece_offset pieces [] n
offset_within pieces forms k n h = omega (arith, offset_down pieces forms [] (λ _ _. refl) k, offset_up pieces [] k n h)

-- a short jump takes two bytes
pub offset_short : (pieces : List Piece) (forms : List Form) (k : ℕ) (cond : Bool) (to : ℕ) → piece_at pieces k ≡ Jump cond to → form_at forms k ≡ Short → piece_offset pieces forms (k + 1) ≡ piece_offset pieces forms k + 2
offset_short pieces forms k cond to jump short = rw (offset_more pieces forms k, jump, short) refl

-- what reaches from a piece of two bytes where more are near reaches where fewer are
pub reaches_two : (pieces : List Piece) (forms other : List Form) → IsNearOnlyWhere forms other → (k to : ℕ) → piece_offset pieces forms (k + 1) ≡ piece_offset pieces forms k + 2 → piece_offset pieces other (k + 1) ≡ piece_offset pieces other k + 2 → Reaches (piece_offset pieces other k + 2) (piece_offset pieces other to) → Reaches (piece_offset pieces forms k + 2) (piece_offset pieces forms to)
reaches_two pieces forms other less k to f g r =
    elim (cases_lt k to) [
      | inl h ↦
          let s = span_up pieces forms other less (k + 1) to (omega arith) in
          let u = offset_up pieces forms (k + 1) to (omega arith) in
          record { forward = omega (arith, r.forward); backward = omega arith }
      | inr h ↦
          let s = span_up pieces forms other less to k (omega arith) in
          let u = offset_up pieces forms to k (omega arith) in
          record { forward = omega arith; backward = omega (arith, r.backward) }
    ]

-- the same of a short jump
pub reaches_down : (pieces : List Piece) (forms other : List Form) → IsNearOnlyWhere forms other → (k : ℕ) (cond : Bool) (to : ℕ) → piece_at pieces k ≡ Jump cond to → form_at forms k ≡ Short → form_at other k ≡ Short → Reaches (piece_offset pieces other k + 2) (piece_offset pieces other to) → Reaches (piece_offset pieces forms k + 2) (piece_offset pieces forms to)
reaches_down pieces forms other less k cond to jump short short' r =
    reaches_two pieces forms other less k to (offset_short pieces forms k cond to jump short) (offset_short pieces other k cond to jump short') r

-- whether a short jump reaches, by the pieces between
pub reaches_forward : (pieces : List Piece) (forms : List Form) (k to : ℕ) → len_of (piece_at pieces k) (form_at forms k) ≡ 2 → k < to → (piece_offset pieces forms to ≤ piece_offset pieces forms (k + 1) + 127) ↔ Reaches (piece_offset pieces forms k + 2) (piece_offset pieces forms to)
reaches_forward pieces forms k to two h =
    let more = offset_more pieces forms k in
    let up = offset_up pieces forms (k + 1) to (omega arith) in
    (λ near. record { forward = omega arith; backward = omega arith }, λ r. omega (arith, r.forward))

pub reaches_backward : (pieces : List Piece) (forms : List Form) (k to : ℕ) → to ≤ k → (piece_offset pieces forms k ≤ piece_offset pieces forms to + 126) ↔ Reaches (piece_offset pieces forms k + 2) (piece_offset pieces forms to)
reaches_backward pieces forms k to h =
    let up = offset_up pieces forms to k h in
    (λ near. record { forward = omega arith; backward = omega arith }, λ r. omega (arith, r.backward))

-- what it takes to be short, by the kind of piece
pub may_be_short : (pieces : List Piece) (forms : List Form) (k : ℕ) (cond : Bool) (to : ℕ) → piece_at pieces k ≡ Jump cond to → Reaches (piece_offset pieces forms k + 2) (piece_offset pieces forms to) → MayBeShortAt pieces forms k
unfolding MayBeShort
may_be_short pieces forms k cond to jump r = rw jump r

pub short_reaches : (pieces : List Piece) (forms : List Form) (k : ℕ) (cond : Bool) (to : ℕ) → piece_at pieces k ≡ Jump cond to → MayBeShortAt pieces forms k → Reaches (piece_offset pieces forms k + 2) (piece_offset pieces forms to)
unfolding MayBeShort
short_reaches pieces forms k cond to jump may = rw jump at may

pub fixed_not_short : (pieces : List Piece) (forms : List Form) (k len : ℕ) → piece_at pieces k ≡ Fixed len → MayBeShortAt pieces forms k → ⊥
unfolding MayBeShort
fixed_not_short pieces forms k len fixed may = rw fixed at may

-- pieces up to the one that changes stand as before
pub offset-set : (pieces : List Piece) (forms : List Form) (i : ℕ) (form : Form) (k : ℕ) → k ≤ i → piece_offset pieces (set forms i form) k ≡ piece_offset pieces forms k
unfolding piece_offset
offset-set pieces forms i form zero h = refl
offset-set pieces forms i form (suc k) h =
    let different : k ≢ i = omega arith in
    rw (offset-set pieces forms i form k (omega arith), get_or-set_other forms i k form Near different) refl

-- a jump that is far enough back is still short where a piece grows: its label is not beyond that piece
pub reaches-set : (pieces : List Piece) (forms : List Form) (i k : ℕ) (cond : Bool) (to : ℕ) → k < i → piece_offset pieces forms (k + 1) + 127 < piece_offset pieces forms i → piece_at pieces k ≡ Jump cond to → form_at forms k ≡ Short → Reaches (piece_offset pieces forms k + 2) (piece_offset pieces forms to) → Reaches (piece_offset pieces (set forms i Near) k + 2) (piece_offset pieces (set forms i Near) to)
reaches-set pieces forms i k cond to before away jump short r =
    let same = offset-set pieces forms i Near k (omega arith) in
    elim (cases_lt i to) [
      | inl beyond ↦
          let two = offset_short pieces forms k cond to jump short in
          let up = offset_up pieces forms i to (omega arith) in
          absurd (omega (arith, two, up, r.forward))
      | inr within ↦
          let same' = offset-set pieces forms i Near to within in
          rw (same, same') r
    ]
