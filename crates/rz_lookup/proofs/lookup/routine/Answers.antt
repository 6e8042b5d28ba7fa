use Rattle.std.proofs.Common.{ℕ, List, refl, arith, sym, subst}
use Rattle.rz_isa.specs.declared.item_list.Item.{Item}
use Rattle.rz_isa.specs.Decoded.{decoded}
use Rattle.rz_lookup.specs.Routine.{IsRoutine, IsSizedRoutine, IsClosed, lookup_items}
use Rattle.rz_lookup.proofs.lookup.routine.Goals as goal

pub returns-clause-looks_up : goal.returns-clause-looks_up
returns-clause-looks_up g c =
    subst (λ (l : List Item). IsRoutine (decoded g.T.InsnTable.rows) c.args.scratch l) (sym c.in_ok-lookup_items.ensures) (c.routine_looks_up.ensures c.args.scratch)

pub returns-clause-sized : goal.returns-clause-sized
returns-clause-sized g c =
    subst (λ (l : List Item). IsSizedRoutine g.T.InsnTable.rows l) (sym c.in_ok-lookup_items.ensures) (c.routine_is_sized.ensures c.args.scratch c.requires)

closed : (scratch : ℕ) → IsClosed (lookup_items scratch)
closed scratch = record { some = omega arith; own = refl }

pub returns-clause-closed : goal.returns-clause-closed
returns-clause-closed g c = subst IsClosed (sym c.in_ok-lookup_items.ensures) (closed c.args.scratch)
