-- Plans of pieces of code, whose labels are numbers of pieces.
use Rattle.std.specs.Prelude.{◌≡◌, ℕ, zero, suc, ◌+◌, ◌≤◌, ◌<◌, if◌then◌else◌, List, length, slice_index, slice_index_or}
use Rattle.rz_isa.specs.declared.rows.Form.{Form}
use Rattle.rz_isa.specs.declared.rows.Form.TheVariants.{Near, Short}
use Rattle.rz_isa.specs.Plan.{form_at, Reaches}
use Rattle.rz_layout.specs.declared.piece.Piece.{Piece}
use Rattle.rz_layout.specs.declared.piece.Piece.TheVariants.{Fixed, Jump}

-- the length of a piece in a form; only a jump to a piece has a short form
abbrev pub len_of : Piece → Form → ℕ
len_of (Fixed len) form = len
len_of (Jump cond to) Near = if cond then 6 else 5
len_of (Jump cond to) Short = 2

-- the shortest form of a piece
abbrev pub first_form : Piece → Form
first_form (Fixed len) = Near
first_form (Jump cond to) = Short

-- the piece of a number; nothing behind the last
abbrev pub piece_at : List Piece → ℕ → Piece
piece_at pieces k = slice_index_or pieces k (Fixed 0)

-- how many bytes the first pieces take
unfoldable pub piece_offset : List Piece → List Form → ℕ → ℕ
piece_offset pieces forms zero = 0
piece_offset pieces forms (suc k) = piece_offset pieces forms k + len_of (piece_at pieces k) (form_at forms k)

-- how many bytes the pieces take, each in its form; with no form given, each near
abbrev pub total_len : List Piece → List Form → ℕ
total_len pieces forms = piece_offset pieces forms (length pieces)

-- what must hold for the piece of a number to be short: it is a jump to a piece, and that reaches
-- (distances, so that it doesn't matter where the first piece stands)
unfoldable pub MayBeShort : List Piece → List Form → ℕ → Piece → Type 0
MayBeShort pieces forms k (Fixed len) = ⊥
MayBeShort pieces forms k (Jump cond to) =
    Reaches (piece_offset pieces forms k + 2) (piece_offset pieces forms to)

-- the piece of a number may be short where these forms are taken
abbrev pub MayBeShortAt : List Piece → List Form → ℕ → Type 0
MayBeShortAt pieces forms k = MayBeShort pieces forms k (piece_at pieces k)

-- a form for each piece, short only where it may be
pub record IsPiecePlan (pieces : List Piece) (forms : List Form) : Type 0 where
  pub each : length forms ≡ length pieces
  pub reached : (k : ℕ) → form_at forms k ≡ Short → MayBeShortAt pieces forms k

-- near wherever the second is not short: of the two, no piece is longer in the first
abbrev pub IsNearOnlyWhere : List Form → List Form → Type 0
IsNearOnlyWhere forms other = (k : ℕ) → form_at forms k ≡ Near → form_at other k ≡ Near

-- forms that are near only where each plan is
abbrev pub IsLeastForms : List Piece → List Form → Type 0
IsLeastForms pieces forms = (other : List Form) → IsPiecePlan pieces other → IsNearOnlyWhere forms other

-- a piece that is short, though it may not be
pub record IsTooFar (pieces : List Piece) (forms : List Form) (k : ℕ) : Type 0 where
  pub short : form_at forms k ≡ Short
  pub unreached : MayBeShortAt pieces forms k → ⊥

-- a piece ends more than 127 bytes before another begins
abbrev pub IsFarBefore : List Piece → List Form → ℕ → ℕ → Type 0
IsFarBefore pieces forms k i = piece_offset pieces forms (k + 1) + 127 < piece_offset pieces forms i

-- the label of a piece names a piece, or the place behind the last
abbrev pub HasLabelWithin : ℕ → Piece → Type 0
HasLabelWithin count (Fixed len) = Unit {0}
HasLabelWithin count (Jump cond to) = to ≤ count

-- the pieces have labels among themselves
abbrev pub HaveLabels : List Piece → Type 0
HaveLabels pieces = (k : ℕ) → HasLabelWithin (length pieces) (piece_at pieces k)

-- the places that forms give, for pieces from `base` on
pub record ArePlaces (pieces : List Piece) (base : ℕ) (forms : List Form) (places : List ℕ) : Type 0 where
  pub each : length places ≡ length pieces
  pub at : (k : ℕ) → k < length pieces → slice_index places k ≡ base + piece_offset pieces forms k
