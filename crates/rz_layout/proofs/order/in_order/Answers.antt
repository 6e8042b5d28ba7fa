use Rattle.std.proofs.Common.{rules, vec_len, ◌≡◌, ◌≤◌, ◌∙◌, length, ap, arith, refl}
use Rattle.rz_isa.specs.Items.{slots_from, item_count, first_number}
use Rattle.rz_layout.proofs.Ordered.{all_slots, all_nodes, all_starts, length-slots_from}
use Rattle.rz_layout.proofs.order.in_order.Goals as goal

pub returns : goal.returns
returns c =
    let list = c.args.frags.now.list in
    let i = c.loop-fragment.fragment-index in
    let kept = c.loop-fragment.invariant in
    let over : length list ≤ i = omega (arith, c.loop-fragment-test.false, ap length c.as_slice-fragment-items.ensures) in
    let before : c.loop-fragment.slots.items ≡ slots_from 0 list = all_slots list i _ _ over kept.slots in
    let count : length c.loop-fragment.slots.items ≡ item_count list = ap length before ∙ length-slots_from 0 list in
    let long : vec_len c.loop-fragment.slots ≡ length c.loop-fragment.slots.items = search rules in
    record {
      slots = rw (c.in_ok-push_slots-2.ensures, count, before, c.as_slice-items-2.ensures) refl;
      nodes = all_nodes list i _ over kept.nodes;
      starts = all_starts list i _ _ over kept.starts;
      routine =
          c.first_number-routine.ensures
          ∙ (ap (λ n. first_number n c.as_slice-items-2.result.now) (c.len-2.ensures ∙ (long ∙ count))
          ∙ ap (first_number (item_count list)) c.as_slice-items-2.ensures);
    }
