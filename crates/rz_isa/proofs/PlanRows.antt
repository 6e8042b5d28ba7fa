-- Worked rows of labels and places, counted by hand.
use Rattle.std.proofs.Common.{◌≡◌, ◌+◌, [], ◌∷◌, Some, None, refl}
use Rattle.std.specs.Prelude.{slice_get}
use Rattle.rz_flags.specs.declared.Cond.TheVariants as conds
use Rattle.rz_isa.specs.declared.rows.Form.TheVariants.{Near, Short}
use Rattle.rz_isa.specs.declared.instruction.Insn.TheVariants as insn
use Rattle.rz_isa.specs.declared.item_list.Label.TheVariants as label
use Rattle.rz_isa.specs.declared.item_list.Item.TheVariants as item
use Rattle.rz_isa.specs.declared.item_list.Slot.{Slot}
use Rattle.rz_isa.specs.declared.fragment_list.Fragments.{Fragments}
use Rattle.rz_isa.specs.Items.{slots, label_number, label_address, resolved, store}
use Rattle.rz_isa.specs.Plan.{place, code_end, offset}

-- fragments at 16, 32 and 48, the last without items, and a routine of one item
code : Fragments
code = record {
  list =
      record { at = 16; items = item.Jrcxz (label.Item 2) ∷ item.Jump None (label.Place 32) ∷ [] }
      ∷ record { at = 32; items = item.Jump (Some conds.E) (label.Item 1) ∷ item.Jump None (label.Stub 16) ∷ item.Store 4096 label.Routine ∷ [] }
      ∷ record { at = 48; items = [] }
      ∷ [];
  routine = item.Jump None label.Routine ∷ [];
  tables = (16, 8192) ∷ [];
  stubs = (16, 1000) ∷ (32, 1024) ∷ [];
}

first : Slot
first = record { item = item.Jrcxz (label.Item 2); first = 0; stop = 2 }

second : Slot
second = record { item = item.Jump None (label.Stub 16); first = 2; stop = 5 }

first_slot : slice_get (slots code) 0 ≡ Some first
unfolding code first
first_slot = refl

fourth_slot : slice_get (slots code) 3 ≡ Some second
unfolding code second
fourth_slot = refl

last_slot : slice_get (slots code) 5 ≡ Some (record { item = item.Jump None label.Routine; first = 5; stop = 6 })
unfolding code
last_slot = refl

-- a fragment's first item; an item of the same list, and the place behind its last; no greater number; no
-- fragment without items or of another address
of_fragment : label_number code first (label.Place 32) ≡ Some 2
unfolding code first
of_fragment = refl

of_same_list : label_number code second (label.Item 1) ≡ Some 3
unfolding code second
of_same_list = refl

behind_last : label_number code first (label.Item 2) ≡ Some 2
unfolding code first
behind_last = refl

past_last : label_number code first (label.Item 3) ≡ None
unfolding code first
past_last = refl

of_no_items : label_number code first (label.Place 48) ≡ None
unfolding code first
of_no_items = refl

of_no_fragment : label_number code first (label.Place 17) ≡ None
unfolding code first
of_no_fragment = refl

of_routine : label_number code first label.Routine ≡ Some 5
unfolding code first
of_routine = refl

-- stubs and tables have their own addresses
of_stub : label_address code (λ k. k) first (label.Stub 32) ≡ Some 1024
unfolding code first
of_stub = refl

of_no_stub : label_address code (λ k. k) first (label.Stub 48) ≡ None
unfolding code first
of_no_stub = refl

of_table : label_address code (λ k. k) first (label.Table 16) ≡ Some 8192
unfolding code first
of_table = refl

-- the instructions that items are
a_jump : resolved (label_address code (λ k. 65536 + k) second) (item.Jump (Some conds.E) (label.Item 1)) ≡ Some (insn.Jcc conds.E 65539)
unfolding code second
a_jump = refl

a_store : resolved (label_address code (λ k. 65536 + k) second) (item.Store 4096 label.Routine) ≡ Some (store 4096 65541)
unfolding code second
a_store = refl

no_store : resolved (label_address code (λ k. k) second) (item.Store 2147483648 label.Routine) ≡ None
unfolding code second
no_store = refl

-- 2 + 5 and 6 + 5 + 12 bytes, then the routine's 5
second_place : place [] code 65536 [] 2 ≡ 65543
unfolding code offset
second_place = refl

routine_place : place [] code 65536 [] 5 ≡ 65566
unfolding code offset
routine_place = refl

end_near : code_end [] code 65536 [] ≡ 65571
unfolding code offset
end_near = refl

-- with the second and the third short, three and four bytes less; a jump to a stub has no form Short
end_short : code_end [] code 65536 (Near ∷ Short ∷ Short ∷ Short ∷ Near ∷ Near ∷ []) ≡ 65564
unfolding code offset
end_short = refl
