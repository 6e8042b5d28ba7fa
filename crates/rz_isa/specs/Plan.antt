-- Plans: a form for each item, and the place that it then has.
use Rattle.std.specs.Prelude.{◌≡◌, ℕ, zero, suc, ◌+◌, ◌≤◌, Bool, true, false, List, length, Option, Some, None, IsSomeAnd, IsTrue, slice_get, slice_index_or}
use Rattle.rz_flags.specs.declared.Cond.{Cond}
use Rattle.rz_isa.specs.declared.rows.Row.{Row}
use Rattle.rz_isa.specs.declared.rows.Form.{Form}
use Rattle.rz_isa.specs.declared.rows.Form.TheVariants.{Near, Short}
use Rattle.rz_isa.specs.declared.item_list.Label.{Label}
use Rattle.rz_isa.specs.declared.item_list.Label.TheVariants as label
use Rattle.rz_isa.specs.declared.item_list.Item.{Item}
use Rattle.rz_isa.specs.declared.item_list.Item.TheVariants as item
use Rattle.rz_isa.specs.declared.item_list.Slot.{Slot}
use Rattle.rz_isa.specs.declared.fragment_list.Fragments.{Fragments}
use Rattle.rz_isa.specs.Canonical.{Chosen, chosen, length_for}
use Rattle.rz_isa.specs.Emitted.{HasSpelling}
use Rattle.rz_isa.specs.Items.{Places, Addresses, slots, label_address, resolved}

-- ---- lengths, in bytes

-- that of the canonical spelling by the row and the fields that were chosen
abbrev pub spelled_len : Option Chosen → ℕ
spelled_len None = 0
spelled_len (Some c) = length_for c.row c.fields

-- a jump inside the code is one whose label is no stub; it alone has a form Short
abbrev pub is_inner : Label → Bool
is_inner (label.Stub a) = false
is_inner to = true

-- JMP and Jcc with a displacement of four bytes (Intel SDM, volume 2, "JMP" and "Jcc")
abbrev pub near_len : Option Cond → ℕ
near_len None = 5
near_len (Some cond) = 6

abbrev pub jump_len : Option Cond → Bool → Form → ℕ
jump_len cond true Short = 2
jump_len cond inner form = near_len cond

-- a move of four bytes to an absolute address has REX.W, an opcode, ModRM, SIB, and four bytes twice
abbrev pub item_len : List Row → Item → Form → ℕ
item_len rows (item.Whole x) form = spelled_len (chosen rows Near x)
item_len rows (item.Jump cond to) form = jump_len cond (is_inner to) form
item_len rows (item.Jrcxz to) form = 2
item_len rows (item.Store a to) form = 12

-- ---- places

-- the form of a number; near where none is given
abbrev pub form_at : List Form → ℕ → Form
form_at forms k = slice_index_or forms k Near

abbrev pub len_or_none : List Row → Option Slot → Form → ℕ
len_or_none rows None form = 0
len_or_none rows (Some s) form = item_len rows s.item form

-- how many bytes the first items take
unfoldable pub offset : List Row → List Slot → List Form → ℕ → ℕ
offset rows list forms zero = 0
offset rows list forms (suc k) =
    offset rows list forms k + len_or_none rows (slice_get list k) (form_at forms k)

-- the place of the item of a number, where the items stand from the address `base` on
abbrev pub place : List Row → Fragments → ℕ → List Form → Places
place rows frags base forms k = base + offset rows (slots frags) forms k

-- where the code ends
abbrev pub code_end : List Row → Fragments → ℕ → List Form → ℕ
code_end rows frags base forms = place rows frags base forms (length (slots frags))

-- ---- plans

-- what a displacement of one byte reaches from the end of its instruction (Intel SDM, volume 2,
-- section 3.1.1.3, "rel8")
pub record Reaches (from to : ℕ) : Type 0 where
  pub forward : to ≤ from + 127
  pub backward : from ≤ to + 128

-- JRCXZ and jumps in the form Short reach their labels; other items have the form Near
abbrev pub InReach : Addresses → ℕ → Item → Form → Type 0
InReach at from (item.Jump cond to) Short = IsTrue (is_inner to) × IsSomeAnd (at to) (Reaches (from + 2))
InReach at from (item.Jrcxz to) Near = IsSomeAnd (at to) (Reaches (from + 2))
InReach at from i Near = Unit {0}
InReach at from i Short = ⊥

-- an item at a place: it has a canonical spelling of its form there, of the length of the form
pub record IsPlaced (rows : List Row) (at : Addresses) (from : ℕ) (i : Item) (form : Form) : Type 0 where
  pub reach : InReach at from i form
  pub spelled : IsSomeAnd (resolved at i) (λ x. HasSpelling rows x from form (item_len rows i form))

abbrev pub IsPlacedAt : List Row → Fragments → ℕ → List Form → ℕ → Slot → Type 0
IsPlacedAt rows frags base forms k s =
    let places = place rows frags base forms in
    IsPlaced rows (label_address frags places s) (places k) s.item (form_at forms k)

-- a plan: a form for each item, with which each item is placed
pub record IsPlan (rows : List Row) (frags : Fragments) (base : ℕ) (forms : List Form) : Type 0 where
  pub each : length forms ≡ length (slots frags)
  pub placed : (k : ℕ) (s : Slot) → slice_get (slots frags) k ≡ Some s → IsPlacedAt rows frags base forms k s

-- the least plan: what is near in it is near in every plan for the same items and base
abbrev pub IsLeastPlan : List Row → Fragments → ℕ → List Form → Type 0
IsLeastPlan rows frags base forms =
    (other : List Form) → IsPlan rows frags base other
    → (k : ℕ) → form_at forms k ≡ Near → form_at other k ≡ Near
