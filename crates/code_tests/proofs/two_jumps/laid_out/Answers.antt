use Rattle.std.proofs.Common.{◌≤◌, sym, subst}
use Rattle.rz_isa.specs.declared.fragment_list.Fragments.{Fragments}
use Rattle.rz_isa.specs.Plan.{code_end, IsPlan}
use Rattle.rz_layout.specs.Layout.{all_near}
use Rattle.code_tests.proofs.TwoJumps.{two_near, two_end}
use Rattle.code_tests.proofs.two_jumps.laid_out.Goals as goal

pub layout-requires-clause-near : goal.layout-requires-clause-near
layout-requires-clause-near g c =
    subst (λ (f : Fragments). IsPlan g.T.InsnTable.rows f 65536 (all_near f)) (sym c.in_ok-frags.ensures)
    (two_near g.T.InsnTable.rows c.emits.ensures.emits)

pub layout-requires-clause-ends : goal.layout-requires-clause-ends
layout-requires-clause-ends g c =
    subst (λ (f : Fragments). code_end g.T.InsnTable.rows f 65536 (all_near f) ≤ 69632) (sym c.in_ok-frags.ensures)
    (two_end g.T.InsnTable.rows)
