use Rattle.std.proofs.Common.{◌∙◌}
use Rattle.rz_elf.specs.declared.header_faults.HeaderFault.TheVariants as kind
use Rattle.rz_elf.specs.Laws.Conditions.{all_kinds, kind_found, kind_passed}
use Rattle.rz_elf.proofs.header_faults.header_fault.Goals as goal

pub returns-in-Some : goal.returns-in-Some
returns-in-Some c =
    kind_found c.args.len c.args.headers.now all_kinds c.loop-kind.kind-index kind.Dynamic c.loop-kind-test.true c.in-Some.fault c.in-Some.ensures ∙ c.loop-kind.invariant

pub loop-kind-preserved : goal.loop-kind-preserved
loop-kind-preserved c =
    kind_passed c.args.len c.args.headers.now all_kinds c.loop-kind.kind-index kind.Dynamic c.loop-kind-test.true c.in_default.ensures ∙ c.loop-kind.invariant
