use Rattle.std.proofs.Common.{List, [], ◌∷◌, ap₂, subst}
use Rattle.rz_gen.specs.declared.file.TheConstants.{GEN_STEPS_LIMIT}
use Rattle.rz_classes.specs.declared.listed.Function.{Function}
use Rattle.rz_sys.specs.declared.input.Input.{Input}
use Rattle.rz_paths.specs.declared.level.Level.TheVariants as level
use Rattle.rz_core.specs.Debloated.{Sources, sources, IsReport}
use Rattle.rz_core.proofs.ResultLaws.{if_ok}
use Rattle.rz_core.proofs.demo.make_exact.Goals as goal

pub returns-clause-report : goal.returns-clause-report
returns-clause-report c =
    if_ok c.make-2.result _ _
    (λ m h. subst (λ (s : Sources). IsReport level.Exact GEN_STEPS_LIMIT s m.report)
    (ap₂ (λ (fs : List Function) (i : Input). sources c.args.elf.now.bytes fs (i ∷ [])) c.none.ensures c.empty.ensures) h)
    c.make-2.ensures.report
