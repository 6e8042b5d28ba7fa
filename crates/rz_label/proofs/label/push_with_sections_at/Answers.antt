use Rattle.std.proofs.Common.{sym, length, ◌≤◌, arith}
use Rattle.std.proofs.lemmas.List.{append_assoc, length-take-le, take_rest}
use Rattle.rz_label.proofs.label.push_with_sections_at.Goals as goal

pub slice_bounds-extend_from_slice-end : goal.slice_bounds-extend_from_slice-end
slice_bounds-extend_from_slice-end c = let whole : 64 ≤ length c.args.file.now = c.requires in sym (length-take-le 40 c.args.file.now (omega (arith, whole)))

pub returns : goal.returns
returns c =
    rw (c.in_ok-extend_from_slice-3.ensures.items, take_rest c.args.file.now 64, c.in_ok-push_u16-3.ensures, c.in_ok-push_u16-2.ensures, c.in_ok-push_u16.ensures, c.in_ok-extend_from_slice-2.ensures.items, c.in_ok-push_u64.ensures, c.in_ok-extend_from_slice.ensures.items) (simp append_assoc)
