use Rattle.std.proofs.Common.{◌≡◌, ◌-◌, ◌++◌}
use Rattle.rz_isa.specs.Decoded.{decoded}
use Rattle.rz_listing.specs.Listing.{file_code, listing}
use Rattle.rz_listing.proofs.lines.listing.Given as goal

abbrev pub invariant-loop-line : goal.invariant-loop-line
invariant-loop-line g l =
    let decoder = decoded g.T.InsnTable.rows in
    let code = file_code l.fn.elf.bytes in
    l.text ++ listing decoder code (l.fn.count - l._line) l.at ≡ listing decoder code l.fn.count l.fn.at
