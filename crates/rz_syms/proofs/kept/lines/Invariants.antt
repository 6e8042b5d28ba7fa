use Rattle.std.proofs.Common.{◌≡◌, ◌+◌, ◌++◌, drop}
use Rattle.std.specs.Prelude.{sum_by, flat_map}
use Rattle.rz_syms.specs.Listing.{kept_in, outside}
use Rattle.rz_syms.proofs.Counts.{kept_line}
use Rattle.rz_syms.proofs.kept.lines.Given as goal

abbrev pub invariant-loop-function : goal.invariant-loop-function
invariant-loop-function l =
    record {
      text : l.text ++ flat_map (kept_line l.nodes) (drop l.function-index l.function-items) ≡ flat_map (kept_line l.nodes) l.function-items;
      left : l.outside ≡ sum_by (kept_in l.nodes) (drop l.function-index l.function-items) + outside l.function-items l.nodes;
    }
