use Rattle.std.proofs.Common.{◌≡◌, ◌++◌, drop, filter}
use Rattle.rz_elf.specs.Loaded.{is_load_header}
use Rattle.rz_elf.proofs.placed.loads_among.Given as goal

abbrev pub invariant-loop-header : goal.invariant-loop-header
invariant-loop-header l = l.loads.items ++ filter is_load_header (drop l.header-index l.headers) ≡ filter is_load_header l.headers
