use Rattle.std.proofs.Common.{Ok, Err, rules, sym}
use Rattle.std.proofs.lemmas.List.Sorted.{answers_always}
use Rattle.rz_emit.proofs.Beside.{found}
use Rattle.rz_emit.proofs.lookup.beside.Goals as goal

pub returns-in-Ok : goal.returns-in-Ok
returns-in-Ok c =
    let position = c.in-Ok.ensures.position (λ pair. pair.0) (answers_always _ _ _ (λ f a r g called. search rules)) in
    sym (found c.args.pairs.now c.requires c.args.a (Ok c.in-Ok.i) c.in-Ok.ensures.bound position)

pub returns-in-Err : goal.returns-in-Err
returns-in-Err c =
    let position = c.in-Err.ensures.position (λ pair. pair.0) (answers_always _ _ _ (λ f a r g called. search rules)) in
    sym (found c.args.pairs.now c.requires c.args.a (Err c.in-Err.field-0) c.in-Err.ensures.bound position)
