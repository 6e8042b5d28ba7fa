use Rattle.std.proofs.Common.{◌≡◌, take}
use Rattle.rz_aset.specs.Sets.{with_addresses}
use Rattle.rz_aset.proofs.addresses.AddrSet.insert_all.Given as goal

abbrev pub invariant-loop-x : goal.invariant-loop-x
invariant-loop-x l = l.self ≡ with_addresses l.initial.self (take l.x-index l.xs)
