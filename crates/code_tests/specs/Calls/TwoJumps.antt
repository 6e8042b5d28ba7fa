-- Two worked fragments, and their layout from 0x10000 on.
use Rattle.std.specs.Prelude.{[], ◌∷◌, Some, None}
use Rattle.rz_flags.specs.declared.Cond.TheVariants as cond
use Rattle.rz_isa.specs.declared.rows.Form.TheVariants.{Near, Short}
use Rattle.rz_isa.specs.declared.item_list.Label.TheVariants as label
use Rattle.rz_isa.specs.declared.item_list.Item.TheVariants as item
use Rattle.rz_isa.specs.declared.fragment_list.Fragments.{Fragments}
use Rattle.rz_layout.specs.declared.plan.Layout.{Layout}

-- two fragments that jump to each other, the second where ZF is set, and else to its stub
abbrev pub two_jumps : Fragments
two_jumps = record {
  list =
      record { at = 1; items = item.Jump None (label.Place 2) ∷ [] }
      ∷ record { at = 2; items = item.Jump (Some cond.E) (label.Place 1) ∷ item.Jump None (label.Stub 2) ∷ [] }
      ∷ [];
  routine = [];
  tables = [];
  stubs = (1, 0x10010) ∷ (2, 0x10028) ∷ [];
}

-- the jumps to each other are short
abbrev pub two_short : Layout
two_short = record {
  base = 0x10000;
  stubs = 0x10010;
  places = 0x10000 ∷ 0x10002 ∷ 0x10004 ∷ [];
  forms = Short ∷ Short ∷ Near ∷ [];
}
