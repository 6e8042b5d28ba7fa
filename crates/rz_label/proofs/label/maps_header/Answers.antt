use Rattle.std.proofs.Common.{◌≤◌, length, List, ℕ, sym, subst}
use Rattle.rz_elf.specs.Laws.Reading.{whole_header}
use Rattle.rz_label.proofs.label.maps_header.Goals as goal

pub read_header-header-requires : goal.read_header-header-requires
read_header-header-requires c = subst (λ (y : List ℕ). 64 ≤ length y) (sym c.as_slice.ensures.value) (whole_header c.new.inside.bytes c.new.invariant.accepted)
