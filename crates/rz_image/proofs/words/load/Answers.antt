use Rattle.std.proofs.Common.{◌≡◌, ◌+◌, ◌-◌, ap, sym, ◌∙◌, arith}
use Rattle.byteorder.specs.Endian.{little_number}
use Rattle.rz_image.specs.declared.access.Access.TheVariants.{Read}
use Rattle.rz_image.specs.Memory.{refused, is_readable, bytes_at}
use Rattle.rz_image.specs.Word.{byte_count}
use Rattle.rz_image.specs.Laws.Run.{refused_run, refused_all, bytes_run}
use Rattle.rz_image.proofs.WordLaws.{number_of_front, few_bytes, front_bytes}
use Rattle.rz_image.proofs.words.load.Goals as goal

pub returns-then-run-byte_count-clause-value : goal.returns-then-run-byte_count-clause-value
returns-then-run-byte_count-clause-value c =
    let n = byte_count c.args.width in
    let run = c.run_at-run.result.now in
    c.word_of.ensures ∙ sym (ap (little_number n) (bytes_run Read c.args.regions.now c.args.at run c.run_at-run.ensures n (omega arith)) ∙ number_of_front n run)

pub returns-then-run-byte_count-clause-allowed : goal.returns-then-run-byte_count-clause-allowed
returns-then-run-byte_count-clause-allowed c =
    let n = byte_count c.args.width in
    let m = c.args.regions.now in
    let next = refused_run Read m c.args.at c.run_at-run.result.now c.run_at-run.ensures n n (omega arith) (omega arith) in
    let none : n - n ≡ 0 = omega arith in
    sym next ∙ ap (refused is_readable m (c.args.at + n)) none ∙ refused_all is_readable m (c.args.at + n)

pub returns-clause-value : goal.returns-clause-value
returns-clause-value c =
    let n = byte_count c.args.width in
    let m = c.args.regions.now in
    c.word_of-2.ensures ∙ ap (little_number n) c.bytes_from.ensures ∙ sym (number_of_front n (bytes_at m c.args.at 8)) ∙ ap (little_number n) (front_bytes m c.args.at n (few_bytes c.args.width))
