use Rattle.std.proofs.Common.{◌≡◌, ◌+◌, ◌-◌, length, ap, sym, ◌∙◌, arith}
use Rattle.rz_image.specs.declared.access.Access.TheVariants.{Read}
use Rattle.rz_image.specs.Memory.{refused, is_readable}
use Rattle.rz_image.specs.Laws.Run.{refused_run, refused_all, bytes_run}
use Rattle.rz_image.proofs.words.load_run.Goals as goal

pub returns-clause-done : goal.returns-clause-done
returns-clause-done c t =
    let n = length c.args.out.now in
    c.copy_from_slice.ensures.after ∙ sym (bytes_run Read c.args.regions.now c.args.at c.run_at-run.result.now c.run_at-run.ensures n (omega arith))

pub returns-clause-allowed : goal.returns-clause-allowed
returns-clause-allowed c t =
    let n = length c.args.out.now in
    let m = c.args.regions.now in
    let next = refused_run Read m c.args.at c.run_at-run.result.now c.run_at-run.ensures n n (omega arith) (omega arith) in
    let none : n - n ≡ 0 = omega arith in
    sym next ∙ ap (refused is_readable m (c.args.at + n)) none ∙ refused_all is_readable m (c.args.at + n)
