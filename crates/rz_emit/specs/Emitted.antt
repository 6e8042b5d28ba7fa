-- The emitted code: what each item's instruction spells at its place, and INT3 behind the last.
use Rattle.std.specs.Prelude.{◌≡◌, ℕ, suc, ◌-◌, ◌≤◌, List, [], ◌∷◌, ◌++◌, length, map, take, drop, Option, Some, None, IsSomeAnd, slice_get}
use Rattle.rz_elf.specs.AddedRange.{filled}
use Rattle.rz_isa.specs.declared.rows.Row.{Row}
use Rattle.rz_isa.specs.declared.rows.Form.{Form}
use Rattle.rz_isa.specs.declared.instruction.Insn.{Insn}
use Rattle.rz_isa.specs.declared.item_list.Slot.{Slot}
use Rattle.rz_isa.specs.declared.fragment_list.Fragments.{Fragments}
use Rattle.rz_isa.specs.Canonical.{canonical}
use Rattle.rz_isa.specs.Items.{slots, label_address, resolved}
use Rattle.rz_isa.specs.Plan.{form_at, item_len, offset, place, code_end, IsPlan}
use Rattle.rz_encode.specs.Laws.{DecodesTo}
use Rattle.rz_layout.specs.declared.plan.Layout.{Layout}
use Rattle.rz_layout.specs.Layout.{nodes_of, IsAscending, ArePlaces}

-- ---- what can be emitted

-- the first of each pair
abbrev pub keys_of : List (ℕ × ℕ) → List ℕ
keys_of pairs = map (λ p. p.0) pairs

-- fragments, stubs and tables in ascending order of the old addresses
pub record IsOrdered (frags : Fragments) : Type 0 where
  pub fragments : IsAscending (nodes_of frags.list)
  pub stubs : IsAscending (keys_of frags.stubs)
  pub tables : IsAscending (keys_of frags.tables)

-- a layout of fragments: a plan with its places, whose code ends at or below `stubs`
pub record IsLayoutOf (rows : List Row) (frags : Fragments) (laid : Layout) : Type 0 where
  pub plan : IsPlan rows frags laid.base laid.forms
  pub places : ArePlaces rows frags laid.base laid.forms laid.places
  pub ends : code_end rows frags laid.base laid.forms ≤ laid.stubs

-- ---- the bytes

-- the instruction that an item is, with its label's address
abbrev pub insn_of : List Row → Fragments → ℕ → List Form → Slot → Option Insn
insn_of rows frags base forms s = resolved (label_address frags (place rows frags base forms) s) s.item

abbrev pub bytes_or_none : Option (List ℕ) → List ℕ
bytes_or_none None = []
bytes_or_none (Some bytes) = bytes

-- its canonical spelling of a form at an address
abbrev pub spelling : List Row → ℕ → Form → Option Insn → List ℕ
spelling rows at form None = []
spelling rows at form (Some x) = bytes_or_none (canonical rows x at form)

-- that of the item of a number, at its place
abbrev pub item_bytes : List Row → Fragments → ℕ → List Form → ℕ → Slot → List ℕ
item_bytes rows frags base forms k s =
    spelling rows (place rows frags base forms k) (form_at forms k) (insn_of rows frags base forms s)

-- those of the items from a number on, one after the other
unfoldable pub bytes_from : List Row → Fragments → ℕ → List Form → ℕ → List Slot → List ℕ
bytes_from rows frags base forms k [] = []
bytes_from rows frags base forms k (s ∷ rest) =
    item_bytes rows frags base forms k s ++ bytes_from rows frags base forms (suc k) rest

-- those of all items
abbrev pub code_bytes : List Row → Fragments → ℕ → List Form → List ℕ
code_bytes rows frags base forms = bytes_from rows frags base forms 0 (slots frags)

-- the part from `base` to `stubs`
abbrev pub emitted : List Row → Fragments → Layout → List ℕ
emitted rows frags laid = filled (laid.stubs - laid.base) (code_bytes rows frags laid.base laid.forms)

-- ---- what the bytes hold

-- the first bytes from an offset on, so many of them, are decoded as the instruction, whatever bytes follow
pub record HoldsInsn (rows : List Row) (bytes : List ℕ) (from len at : ℕ) (x : Insn) : Type 0 where
  pub each : length (take len (drop from bytes)) ≡ len
  pub decodes : DecodesTo rows (take len (drop from bytes)) at x

-- at its place each item's instruction stands, in the length of its form
abbrev pub HoldsItems : List Row → Fragments → ℕ → List Form → List ℕ → Type 0
HoldsItems rows frags base forms bytes =
    (k : ℕ) (s : Slot) → slice_get (slots frags) k ≡ Some s
    → IsSomeAnd (insn_of rows frags base forms s)
    (HoldsInsn rows bytes (offset rows (slots frags) forms k) (item_len rows s.item (form_at forms k)) (place rows frags base forms k))
