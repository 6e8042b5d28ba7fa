use Rattle.std.proofs.Common.{ℕ, List, arith, ap}
use Rattle.std.specs.Prelude.{slice_index_or}
use Rattle.rz_emit.proofs.Offsets.{offset_none, place_last}
use Rattle.rz_emit.proofs.emitter.code_end.Goals as goal

pub overflow_add-result : goal.overflow_add-result
overflow_add-result g c =
    let last = place_last g.T.InsnTable.rows c.args.slots.now c.args.laid.now.base c.args.laid.now.forms c.args.laid.now.places c.requires.places c.in-Some.k _ _ _ (omega (arith, c.in-Some.ensures)) c.item_len.ensures c.form_at.ensures in
    let read = ap (λ (l : List ℕ). slice_index_or l c.in-Some.k 0) c.as_slice.ensures.value in
    omega (arith, last, read, c.requires.low)

pub returns-in-None : goal.returns-in-None
returns-in-None g c = offset_none g.T.InsnTable.rows c.args.slots.now c.args.laid.now.base c.args.laid.now.forms c.in-None.ensures

pub returns-in-Some : goal.returns-in-Some
returns-in-Some g c =
    let last = place_last g.T.InsnTable.rows c.args.slots.now c.args.laid.now.base c.args.laid.now.forms c.args.laid.now.places c.requires.places c.in-Some.k _ _ _ (omega (arith, c.in-Some.ensures)) c.item_len.ensures c.form_at.ensures in
    let read = ap (λ (l : List ℕ). slice_index_or l c.in-Some.k 0) c.as_slice.ensures.value in
    omega (arith, last, read)
