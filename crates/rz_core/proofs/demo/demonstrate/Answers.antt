use Rattle.std.proofs.Common.{sym, subst}
use Rattle.std.specs.Prelude.{[], ◌∷◌}
use Rattle.rz_elf.specs.Loaded.{ElfFile}
use Rattle.rz_sys.specs.Input.{empty_input}
use Rattle.rz_gen.specs.declared.file.TheConstants.{GEN_STEPS_LIMIT}
use Rattle.rz_paths.specs.declared.level.Level.TheVariants as level
use Rattle.rz_core.specs.Debloated.{sources, IsDebloated}
use Rattle.rz_core.specs.Demonstrated.{demonstrated}
use Rattle.rz_core.specs.Calls.Making.{MakeRefusal}
use Rattle.rz_core.proofs.ResultLaws.{handed_on_err}
use Rattle.rz_core.proofs.DemoLaws.{demo_text}
use Rattle.rz_core.proofs.demo.demonstrate.Goals as goal

pub with_text-requires-clause-accepted : goal.with_text-requires-clause-accepted
with_text-requires-clause-accepted c = c.in_ok-made.ensures.made.inert.accepted

pub returns-in-Ok-with_text-clause-made : goal.returns-in-Ok-with_text-clause-made
returns-in-Ok-with_text-clause-made c =
    subst (λ b. IsDebloated level.Exact GEN_STEPS_LIMIT (demonstrated c.args.count) b) (sym c.in-Ok-with_text.ensures.bytes)
    (subst (λ (f : ElfFile). IsDebloated level.Exact GEN_STEPS_LIMIT (sources f.bytes [] (empty_input ∷ [])) c.in_ok-made.made.bytes) c.in-Ok.ensures c.in_ok-made.ensures.made)

pub returns-in-Ok-with_text-clause-text : goal.returns-in-Ok-with_text-clause-text
returns-in-Ok-with_text-clause-text c =
    let made = c.in_ok-made.made in
    let described = c.in-Ok-with_text.described in
    demo_text c.args.count c.in-Ok.elf made.report made.bytes described.report described.bytes c.in-Ok.ensures c.in_ok-made.ensures.report
    c.in-Ok-with_text.ensures.bytes c.in-Ok-with_text.ensures.text

pub returns-in_err-made-clause-err : goal.returns-in_err-made-clause-err
returns-in_err-made-clause-err c =
    let st = c.in_err-made.field-0.0 in
    handed_on_err c.from_residual.result st (MakeRefusal level.Exact GEN_STEPS_LIMIT (demonstrated c.args.count)) c.from_residual.ensures.1
    (subst (λ (f : ElfFile). MakeRefusal level.Exact GEN_STEPS_LIMIT (sources f.bytes [] (empty_input ∷ [])) st) c.in-Ok.ensures c.in_err-made.ensures.err)
