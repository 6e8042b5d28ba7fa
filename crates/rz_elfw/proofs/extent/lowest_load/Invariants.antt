use Rattle.std.proofs.Common.{◌≡◌, drop}
use Rattle.rz_elfw.proofs.Lowest.{least}
use Rattle.rz_elfw.proofs.extent.lowest_load.Given as goal

abbrev pub invariant-loop-load : goal.invariant-loop-load
invariant-loop-load l = least l.least (drop l.load-index l.rest) ≡ least l.initial.least l.rest
