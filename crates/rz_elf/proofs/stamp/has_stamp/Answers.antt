use Rattle.std.proofs.Common.{◌≤◌, length, ap, arith, rules}
use Rattle.rz_elf.specs.Laws.Reading.{whole_header}
use Rattle.rz_elf.proofs.stamp.has_stamp.Goals as goal

pub slice_bounds-starts_with-count : goal.slice_bounds-starts_with-count
slice_bounds-starts_with-count c =
    let whole = whole_header c.elf.inside.bytes c.elf.invariant.accepted in
    let same = ap length c.as_slice.ensures.value in
    omega arith

pub slice_bounds-starts_with-start : goal.slice_bounds-starts_with-start
slice_bounds-starts_with-start c =
    let whole = whole_header c.elf.inside.bytes c.elf.invariant.accepted in
    let same = ap length c.as_slice.ensures.value in
    let inside : 9 ≤ length c.as_slice.result.now = omega arith in
    search rules
