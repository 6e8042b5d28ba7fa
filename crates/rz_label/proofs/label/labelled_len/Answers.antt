use Rattle.std.proofs.Common.{◌≤◌, length, List, ℕ, sym, subst}
use Rattle.rz_label.proofs.LabelLaws.{short_where_accepted}
use Rattle.rz_label.proofs.label.labelled_len.Goals as goal

pub headers_at-requires : goal.headers_at-requires
headers_at-requires c = subst (λ (y : List ℕ). length y ≤ 67108864) (sym c.as_slice.ensures.value) (short_where_accepted c.new.inside.bytes c.new.invariant.accepted)
