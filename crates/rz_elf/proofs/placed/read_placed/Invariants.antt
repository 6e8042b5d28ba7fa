use Rattle.std.proofs.Common.{◌≡◌, ◌+◌, ◌-◌, ◌*◌, ◌++◌, drop}
use Rattle.rz_elf.specs.Elf.{placed_from, segments_of, placed}
use Rattle.rz_elf.proofs.placed.read_placed.Given as goal

abbrev pub invariant-loop-index : goal.invariant-loop-index
invariant-loop-index l =
    l.headers.items ++ placed_from l.index l.before (segments_of (l.header.count - l.index) (drop (l.header.table_at + 56 * l.index) l.file)) ≡ placed l.file
