use Rattle.std.proofs.Common.{◌≡◌, ◌+◌, ◌-◌, ◌++◌, ℕ, suc, List, [], length, drop, IfOk, Result, Ok, Err, Some, None, IsSome, Option, refl, sym, ap, ◌∙◌, subst, arith, append-nil}
use Rattle.std.specs.Prelude.{All}
use Rattle.rz_isa.specs.declared.item_list.Slot.{Slot}
use Rattle.rz_isa.specs.Canonical.{canonical}
use Rattle.rz_isa.specs.Items.{slots}
use Rattle.rz_isa.specs.Plan.{form_at, place}
use Rattle.rz_elf.specs.AddedRange.{filled}
use Rattle.rz_emit.specs.Emitted.{spelling, bytes_from, item_bytes, code_bytes, HoldsItems}
use Rattle.rz_emit.specs.Calls.Lengths.{slot_place, IsChosen}
use Rattle.rz_emit.proofs.Addresses.{item_of, place_is}
use Rattle.rz_emit.proofs.Bytes.{one_more, all_there, canonical_item, code_long, holds}
use Rattle.rz_emit.proofs.Chosen.{all_chosen}
use Rattle.rz_emit.proofs.emitter.emit.Goals.{in-Some+in_ok-emit_insn, in_default}
use Rattle.rz_emit.proofs.emitter.emit.Goals as goal

pub code_end-requires-clause-chosen : goal.code_end-requires-clause-chosen
code_end-requires-clause-chosen g c =
    let list = c.as_slice-slots.ensures.value ∙ c.in_ok-order.ensures.slots in
    subst (λ (l : List Slot). All (λ s. IsChosen g.T.InsnTable.rows s.item) l) (sym list)
    (all_chosen g.T.InsnTable.rows c.args.frags.now c.args.laid.now.base c.args.laid.now.forms c.requires.laid.plan)

pub code_end-requires-clause-low : goal.code_end-requires-clause-low
code_end-requires-clause-low g c =
    let list = c.as_slice-slots.ensures.value ∙ c.in_ok-order.ensures.slots in
    let same = ap (λ (l : List Slot). slot_place g.T.InsnTable.rows l c.args.laid.now.base c.args.laid.now.forms (length l)) list in
    let top = c.distance-size.ensures.low in
    omega (arith, same, c.requires.laid.ends, top)

pub loop-k-init : goal.loop-k-init
loop-k-init g c =
    ap (λ out. out ++ code_bytes g.T.InsnTable.rows c.args.frags.now c.args.laid.now.base c.args.laid.now.forms) c.new-out.ensures

pub emit_insn-requires : goal.emit_insn-requires
emit_insn-requires g c =
    let rows = g.T.InsnTable.rows in
    let frags = c.args.frags.now in
    let base = c.args.laid.now.base in
    let forms = c.args.laid.now.forms in
    let k = c.loop-k.k in
    let x = c.in-Some.insn in
    let list = c.as_slice-slots.ensures.value ∙ c.in_ok-order.ensures.slots in
    let ends = c.code_end.ensures ∙ ap (λ (l : List Slot). slot_place rows l base forms (length l)) list in
    let of = item_of rows frags base forms c.in_ok-order.order c.in_ok-order.ensures c.args.laid.now.places c.requires.laid.places c.order_numbers.ensures c.as_slice-slots.result.now list k (omega arith) _ _ _ c.as_slice.ensures.value ends c.insn.result c.insn.ensures in
    let at = place_is rows frags base forms c.in_ok-order.order c.in_ok-order.ensures c.args.laid.now.places c.requires.laid.places c.order_numbers.ensures c.as_slice.result.now c.code_end.result k c.place.result c.as_slice.ensures.value ends c.place.ensures in
    let spelled = canonical_item rows frags base forms c.requires.laid.plan k of.slot of.there x (sym of.insn ∙ c.in-Some.is) in
    let e = ap (λ a. canonical rows x a c.form_at.result) at ∙ (ap (canonical rows x (place rows frags base forms k)) c.form_at.ensures ∙ spelled) in
    subst (λ o. IsSome o) (sym e) refl

none_of : {X : Type 0} (o : Option X) → ((x : X) → o ≡ Some x → ⊥) → o ≡ None
none_of None h = refl
none_of (Some x) h = absurd (h x refl)

pub loop-k-preserved : goal.loop-k-preserved
loop-k-preserved g c =
    let rows = g.T.InsnTable.rows in
    let frags = c.args.frags.now in
    let base = c.args.laid.now.base in
    let forms = c.args.laid.now.forms in
    let k = c.loop-k.k in
    let list = c.as_slice-slots.ensures.value ∙ c.in_ok-order.ensures.slots in
    let ends = c.code_end.ensures ∙ ap (λ (l : List Slot). slot_place rows l base forms (length l)) list in
    let of = item_of rows frags base forms c.in_ok-order.order c.in_ok-order.ensures c.args.laid.now.places c.requires.laid.places c.order_numbers.ensures c.as_slice-slots.result.now list k (omega arith) _ _ _ c.as_slice.ensures.value ends c.insn.result c.insn.ensures in
    let more = one_more rows frags base forms k of.slot of.there c.loop-k.out (code_bytes rows frags base forms) c.loop-k.invariant in
    let next : suc k ≡ k + 1 = omega arith in
    let here = item_bytes rows frags base forms k of.slot in
    let P : List ℕ → ℕ → Type 0 = λ out n. out ++ bytes_from rows frags base forms n (drop n (slots frags)) ≡ code_bytes rows frags base forms in
    let grown : c.match-insn.out ≡ c.loop-k.out ++ here = elim c.match-insn.branch [
      | in-Some+in_ok-emit_insn w ↦
          let at = place_is rows frags base forms c.in_ok-order.order c.in_ok-order.ensures c.args.laid.now.places c.requires.laid.places c.order_numbers.ensures c.as_slice.result.now c.code_end.result k w.place.result c.as_slice.ensures.value ends w.place.ensures in
          let bytes : spelling rows w.place.result w.form_at.result (Some w.in-Some.insn) ≡ here =
          ap (λ a. spelling rows a w.form_at.result (Some w.in-Some.insn)) at
          ∙ (ap (λ f. spelling rows (place rows frags base forms k) f (Some w.in-Some.insn)) w.form_at.ensures
          ∙ ap (spelling rows (place rows frags base forms k) (form_at forms k)) (sym w.in-Some.is ∙ of.insn)) in
          w.out-is ∙ (w.in_ok-emit_insn.ensures ∙ ap (λ bs. c.loop-k.out ++ bs) bytes)
      | in_default w ↦
          let none = sym of.insn ∙ none_of c.insn.result w.in_default.not-Some in
          let bytes : here ≡ [] = ap (spelling rows (place rows frags base forms k) (form_at forms k)) none in
          w.out-is ∙ (sym (append-nil c.loop-k.out) ∙ ap (λ bs. c.loop-k.out ++ bs) (sym bytes))
    ] in
    subst (λ n. P c.match-insn.out n) next (subst (λ out. P out (suc k)) (sym grown) more)

pub filled-requires : goal.filled-requires
filled-requires g c =
    let rows = g.T.InsnTable.rows in
    let frags = c.args.frags.now in
    let base = c.args.laid.now.base in
    let forms = c.args.laid.now.forms in
    let list = c.as_slice-slots.ensures.value ∙ c.in_ok-order.ensures.slots in
    let size : c.distance-size.result ≡ c.args.laid.now.stubs - base = omega (arith, c.distance-size.ensures.value) in
    let all = all_there rows frags base forms c.loop-k.k c.loop-k.out (code_bytes rows frags base forms) (omega (arith, ap length list, c.loop-k-test.false)) c.loop-k.invariant in
    omega (arith, ap length all, code_long rows frags base forms c.requires.laid.plan, c.requires.laid.ends, size)

pub returns-clause-value : goal.returns-clause-value
returns-clause-value g c =
    let rows = g.T.InsnTable.rows in
    let frags = c.args.frags.now in
    let base = c.args.laid.now.base in
    let forms = c.args.laid.now.forms in
    let list = c.as_slice-slots.ensures.value ∙ c.in_ok-order.ensures.slots in
    let size : c.distance-size.result ≡ c.args.laid.now.stubs - base = omega (arith, c.distance-size.ensures.value) in
    let all = all_there rows frags base forms c.loop-k.k c.loop-k.out (code_bytes rows frags base forms) (omega (arith, ap length list, c.loop-k-test.false)) c.loop-k.invariant in
    subst (λ (code : List ℕ). IfOk c.filled.result (λ bytes. bytes ≡ filled (c.args.laid.now.stubs - base) code)) all (subst (λ n. IfOk c.filled.result (λ bytes. bytes ≡ filled n c.loop-k.out)) size c.filled.ensures)

ok_then : {X E : Type 0} (P Q : X → Type 0) (r : Result X E) → ((x : X) → P x → Q x) → IfOk r P → IfOk r Q
ok_then P Q (Ok x) f h = f x h
ok_then P Q (Err e) f h = tt

pub returns-clause-items : goal.returns-clause-items
returns-clause-items g c =
    let rows = g.T.InsnTable.rows in
    let frags = c.args.frags.now in
    let base = c.args.laid.now.base in
    let forms = c.args.laid.now.forms in
    let code = code_bytes rows frags base forms in
    let list = c.as_slice-slots.ensures.value ∙ c.in_ok-order.ensures.slots in
    let size : c.distance-size.result ≡ c.args.laid.now.stubs - base = omega (arith, c.distance-size.ensures.value) in
    let all = all_there rows frags base forms c.loop-k.k c.loop-k.out code (omega (arith, ap length list, c.loop-k-test.false)) c.loop-k.invariant in
    let value = subst (λ (code : List ℕ). IfOk c.filled.result (λ bytes. bytes ≡ filled (c.args.laid.now.stubs - base) code)) all (subst (λ n. IfOk c.filled.result (λ bytes. bytes ≡ filled n c.loop-k.out)) size c.filled.ensures) in
    ok_then (λ bytes. bytes ≡ filled (c.args.laid.now.stubs - base) code) (HoldsItems rows frags base forms) c.filled.result
    (λ bytes e. subst (HoldsItems rows frags base forms) (sym e) (holds rows frags base forms c.requires.laid.plan c.decodes_back.ensures _)) value
