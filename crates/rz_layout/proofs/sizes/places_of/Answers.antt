use Rattle.std.proofs.Common.{arith, rules, length, ◌+◌}
use Rattle.std.proofs.lemmas.Grind.{common_steps}
use Rattle.rz_layout.specs.Calls.Pieces.{piece_offset}
use Rattle.rz_layout.proofs.Offsets.{offset_more, offset_within}
use Rattle.rz_layout.proofs.sizes.places_of.Goals as goal

pub loop-k-init : goal.loop-k-init
unfolding piece_offset
loop-k-init c =
    record {
      here = omega arith;
      each = search rules;
      at = λ j h. absurd (omega arith);
    }

pub overflow_add-here : goal.overflow_add-here
overflow_add-here c =
    let pieces = c.args.pieces.now in
    let forms = c.args.forms.now in
    let k = c.loop-k.k in
    let more = offset_more pieces forms k in
    let within = offset_within pieces forms (k + 1) (length pieces) (omega arith) in
    omega (arith, more, within, c.len-here.ensures)

pub loop-k-preserved : goal.loop-k-preserved
loop-k-preserved c =
    let more = offset_more c.args.pieces.now c.args.forms.now c.loop-k.k in
    record {
      here = omega (arith, more, c.len-here.ensures);
      each = grind (arith, common_steps);
      at = grind (arith, common_steps);
    }
