-- Labels looked up have the addresses of the definition.
use Rattle.std.proofs.Common.{◌≡◌, ℕ, if◌then◌else◌, List, length, get_or, Option, Some, None, refl, sym, ◌∙◌, ap}
use Rattle.std.specs.Prelude.{nat_lt, ◌^◌, ◌<◌, slice_get}
use Rattle.std.proofs.lemmas.Option.{slice_get-get_or}
use Rattle.std.specs.Option.{option_map}
use Rattle.rz_isa.specs.declared.rows.Row.{Row}
use Rattle.rz_isa.specs.declared.rows.Form.{Form}
use Rattle.rz_isa.specs.declared.instruction.Insn.{Insn}
use Rattle.rz_isa.specs.declared.instruction.Insn.TheVariants as insn
use Rattle.rz_isa.specs.declared.item_list.Label.{Label}
use Rattle.rz_isa.specs.declared.item_list.Label.TheVariants as label
use Rattle.rz_isa.specs.declared.item_list.Item.{Item}
use Rattle.rz_isa.specs.declared.item_list.Item.TheVariants as item
use Rattle.rz_isa.specs.declared.item_list.Slot.{Slot}
use Rattle.rz_isa.specs.declared.fragment_list.Fragments.{Fragments}
use Rattle.rz_isa.specs.Items.{Addresses, slots, label_address, resolved, store}
use Rattle.rz_isa.specs.Plan.{place, code_end}
use Rattle.rz_layout.specs.declared.order.Order.{Order}
use Rattle.rz_layout.specs.Layout.{ArePlaces}
use Rattle.rz_layout.specs.Order.{IsOrderOf}
use Rattle.rz_layout.specs.Laws.{OrderNumbers}
use Rattle.rz_emit.specs.Emitted.{insn_of}
use Rattle.rz_emit.specs.Calls.Lookup.{place_in, address_in}
use Rattle.rz_emit.proofs.Offsets.{place_read}

map_same : {X : Type 0} (f g : ℕ → X) → ((n : ℕ) → f n ≡ g n) → (o o' : Option ℕ) → o ≡ o' → option_map f o ≡ option_map g o'
map_same f g same None o' e = ap (option_map g) e
map_same f g same (Some n) o' e = ap Some (same n) ∙ ap (option_map g) e

-- items are the same instructions where their labels have the same addresses
resolved_same : (f g : Addresses) → ((to : Label) → f to ≡ g to) → (i : Item) → resolved f i ≡ resolved g i
resolved_same f g same (item.Whole x) = refl
resolved_same f g same (item.Jump None to) = ap (option_map (λ t. insn.Jmp t)) (same to)
resolved_same f g same (item.Jump (Some cond) to) = ap (option_map (λ t. insn.Jcc cond t)) (same to)
resolved_same f g same (item.Jrcxz to) = ap (option_map (λ t. insn.Jrcxz t)) (same to)
resolved_same f g same (item.Store a to) = ap (λ o. if nat_lt a (2 ^ 31) then option_map (store a) o else None) (same to)

module _ (rows : List Row) (frags : Fragments) (base : ℕ) (forms : List Form) (order : Order) (is : IsOrderOf frags order) (places : List ℕ) (are : ArePlaces rows frags base forms places) (numbers : OrderNumbers) where
  address_same : (s : Slot) (to : Label) → address_in frags order places (code_end rows frags base forms) s to ≡ label_address frags (place rows frags base forms) s to
  address_same s (label.Stub a) = refl
  address_same s (label.Table a) = refl
  address_same s (label.Place a) = map_same _ _ (place_read rows (slots frags) base forms places are) _ _ (numbers frags order s (label.Place a) is)
  address_same s (label.Item k) = map_same _ _ (place_read rows (slots frags) base forms places are) _ _ (numbers frags order s (label.Item k) is)
  address_same s label.Routine = map_same _ _ (place_read rows (slots frags) base forms places are) _ _ (numbers frags order s label.Routine is)

  -- the instruction of an item, by an order and lists
  pub insn_same : (s : Slot) → resolved (address_in frags order places (code_end rows frags base forms) s) s.item ≡ insn_of rows frags base forms s
  insn_same s = resolved_same _ _ (address_same s) s.item

  -- the item of a number, with its instruction
  pub record ItemOf (k : ℕ) (r : Option Insn) : Type 0 where
    pub slot : Slot
    pub there : slice_get (slots frags) k ≡ Some slot
    pub insn : r ≡ insn_of rows frags base forms slot

  pub item_of : (list : List Slot) → list ≡ slots frags → (k : ℕ) → k < length list → (d : Slot) (look : List ℕ) (stop : ℕ) → look ≡ places → stop ≡ code_end rows frags base forms
      → (r : Option Insn) → r ≡ resolved (address_in frags order look stop (get_or list k d)) (get_or list k d).item → ItemOf k r
  item_of list e k lt d look stop read ends r h =
      let s = get_or list k d in
      record {
        slot = s;
        there = ap (λ l. slice_get l k) (sym e) ∙ slice_get-get_or list k d lt;
        insn = h ∙ (ap (λ l. resolved (address_in frags order l stop s) s.item) read ∙ (ap (λ n. resolved (address_in frags order places n s) s.item) ends ∙ insn_same s));
      }

  -- the place of the item of a number
  pub place_is : (look : List ℕ) (stop k n : ℕ) → look ≡ places → stop ≡ code_end rows frags base forms → n ≡ place_in look stop k → n ≡ place rows frags base forms k
  place_is look stop k n read ends h =
      h ∙ (ap (λ l. place_in l stop k) read ∙ (ap (λ e. place_in places e k) ends ∙ place_read rows (slots frags) base forms places are k))
