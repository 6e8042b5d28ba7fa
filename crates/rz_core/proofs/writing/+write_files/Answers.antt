use Rattle.std.proofs.Common.{arith, ◌≡◌, ℕ, ◌<◌, List, ◌∷◌, length, refl, sym, subst}
use Rattle.rz_outside.specs.StoreCalls.{StoreCalls, store_calls}
use Rattle.rz_core.proofs.ResultLaws.{handed_on_err}
use Rattle.rz_core.specs.Writing.{AreDistinct, WriteRefusal}
use Rattle.rz_core.proofs.ResultLaws.{if_err}
use Rattle.rz_core.proofs.WriteLaws.{Later, rest_of, first_of, first_refused, later_refused}
use Rattle.rz_core.proofs.writing.+write_files.Goals as goal

pub returns-in_err-write-in-len1-up-clause-cause :
    goal.returns-in_err-write-in-len1-up-clause-cause
returns-in_err-write-in-len1-up-clause-cause g t c =
    let s : StoreCalls = store_calls g.S.Store c.args.store.now c.write.new.store in
    let names : List (List ℕ) = c.args.names.now in
    let ws : List (List ℕ) = c.args.writes.now in
    let name : List ℕ = c.name-item.result in
    let w : List ℕ = c.index-writes-0.result in
    let some : 0 < length names = c.in-len1-up.len_at_least in
    let same = c.requires.many in
    let many : 0 < length ws = omega (arith, some, same) in
    let names_are : names ≡ name ∷ rest_of names = first_of names name some c.name-item.is in
    let ws_are : ws ≡ w ∷ rest_of ws = first_of ws w many c.index-writes-0.is in
    let apart : AreDistinct (name ∷ rest_of names) = subst AreDistinct names_are c.requires.distinct in
    let st = c.in_err-write-in-len1-up.field-0.0 in
    let write = c.in_err-write-in-len1-up.ensures in
    let at : WriteRefusal (name ∷ rest_of names) (w ∷ rest_of ws) s st = first_refused name w (rest_of names) (rest_of ws) apart.0 s write.others st write.cause in
    handed_on_err c.from_residual.result st (WriteRefusal names ws s) c.from_residual.ensures.1
    (subst (λ (xs : List (List ℕ)). WriteRefusal xs ws s st) (sym names_are) (subst (λ (ys : List (List ℕ)). WriteRefusal (name ∷ rest_of names) ys s st) (sym ws_are) at))

pub returns-in_ok-write-in-len1-up-clause-cause :
    goal.returns-in_ok-write-in-len1-up-clause-cause
returns-in_ok-write-in-len1-up-clause-cause g d c =
    let s : StoreCalls = store_calls g.S.Store c.args.store.now c.write_files.new.store in
    let t : StoreCalls = store_calls g.S.Store c.write.new.store c.write_files.new.store in
    let names : List (List ℕ) = c.args.names.now in
    let ws : List (List ℕ) = c.args.writes.now in
    let name : List ℕ = c.name-item.result in
    let w : List ℕ = c.index-writes-0.result in
    let some : 0 < length names = c.in-len1-up.len_at_least in
    let same = c.requires.many in
    let many : 0 < length ws = omega (arith, some, same) in
    let names_are : names ≡ name ∷ rest_of names = first_of names name some c.name-item.is in
    let ws_are : ws ≡ w ∷ rest_of ws = first_of ws w many c.index-writes-0.is in
    let apart : AreDistinct (name ∷ rest_of names) = subst AreDistinct names_are c.requires.distinct in
    let write = c.in_ok-write-in-len1-up.ensures in
    let later : Later s t = record {
      told = write.telling;
      before = write.count;
      now = refl;
      failed = refl;
      new = λ q. refl;
    }
    in
    if_err c.write_files.result (WriteRefusal (rest_of names) (rest_of ws) t) (WriteRefusal names ws s)
    (λ st h.
    let at : WriteRefusal (name ∷ rest_of names) (w ∷ rest_of ws) s st =
    later_refused name w (rest_of names) (rest_of ws) apart.0 s t later write.wrote write.others c.write_files.ensures.others st h in
    subst (λ (xs : List (List ℕ)). WriteRefusal xs ws s st) (sym names_are) (subst (λ (ys : List (List ℕ)). WriteRefusal (name ∷ rest_of names) ys s st) (sym ws_are) at))
    c.write_files.ensures.cause
