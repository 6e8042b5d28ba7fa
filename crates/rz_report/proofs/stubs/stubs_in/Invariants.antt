use Rattle.std.proofs.Common.{◌≡◌, ◌+◌, ◌/◌, drop, length}
use Rattle.std.specs.List.{prefix_len}
use Rattle.rz_elf.specs.Format.{stub_size}
use Rattle.rz_elf.specs.Loaded.{loaded_region}
use Rattle.rz_report.specs.Stubs.{begins_stub, pieces, stubs_in}
use Rattle.rz_report.proofs.stubs.stubs_in.Given as goal

abbrev pub invariant-loop-piece : goal.invariant-loop-piece
invariant-loop-piece l =
    let bytes = (loaded_region l.file l.load).bytes in
    l.piece + prefix_len begins_stub (drop l.piece (pieces (length bytes / stub_size) bytes)) ≡ stubs_in bytes
