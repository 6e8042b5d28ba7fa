use Rattle.std.proofs.Common.{Some, None, sym, ap, subst, refl, ◌∙◌}
use Rattle.rz_machine.specs.Kept.{Kept}
use Rattle.rz_machine.specs.Traced.{kept_in}
use Rattle.rz_trace.specs.declared.memo.Edge.{Edge}
use Rattle.rz_trace.specs.Calls.Begun.{with_begun}
use Rattle.rz_trace.specs.Calls.Memo.{IsKept, Knows}
use Rattle.rz_trace.proofs.MemoLaws.{Knows-more, with_begun-known, added_kept}
use Rattle.rz_trace.proofs.tracer.add_with.Goals as goal

pub returns-in_default-clause-knows : goal.returns-in_default-clause-knows
returns-in_default-clause-knows c knows =
    let P : Kept → Type 0 = λ k. Knows k c.args.memo.now in
    subst P (sym c.in_ok-add.ensures.ok) (Knows-more (kept_in c.args.rec.now) None c.args.at c.args.memo.now knows)

pub returns-then-has-clause-ok : goal.returns-then-has-clause-ok
returns-then-has-clause-ok c knows =
    let kept = kept_in c.args.rec.now in
    let edge : Edge = record { from = c.in-Some.from; to = c.args.at } in
    with_begun-known kept edge (c.if-has.ensures kept knows refl) ∙ ap (λ last. with_begun kept last c.args.at) (sym c.in-Some.is)

pub returns-clause-knows : goal.returns-clause-knows
returns-clause-knows c knows =
    let kept = kept_in c.args.rec.now in
    let edge : Edge = record { from = c.in-Some.from; to = c.args.at } in
    let P : Kept → Type 0 = λ k. Knows k c.args.memo.now × IsKept k edge in
    let all : P (kept_in c.add-2.new.rec) = subst P (sym c.in_ok-add-2.ensures.ok) (Knows-more kept (Some edge.from) edge.to c.args.memo.now knows, added_kept kept edge) in
    c.note.ensures (kept_in c.add-2.new.rec) all.0 all.1
