use Rattle.std.proofs.Common.{◌≡◌, ◌+◌, ◌-◌, ◌∙◌, nat_le, false, length, drop, sym, ap, arith, length-drop, take_all}
use Rattle.std.proofs.lemmas.Bool.Decides.{nat_tests}
use Rattle.rz_report.specs.Stubs.{begins_stub}
use Rattle.rz_report.proofs.StubCounts.{begins-file, begins-past}
use Rattle.rz_report.proofs.stubs.begins_stub.Goals as goal

pub returns-then-place-load : goal.returns-then-place-load
returns-then-place-load c =
    let file = c.args.file.now in
    let at = c.args.load.now.file_at + c.args.place in
    let rest = take_all (length file - at) (drop at file) (omega (arith, length-drop at file)) in
    c.starts_with.ensures.value ∙ ap begins_stub rest
    ∙ begins-file file c.args.load.now c.args.place c.requires.load c.requires.inside c.if-place-load.true

pub returns-else-place-load : goal.returns-else-place-load
returns-else-place-load c =
    let no : nat_le (c.args.place + 2) c.args.load.now.file_size ≡ false = grind (arith, nat_tests) in
    no ∙ sym (begins-past c.args.file.now c.args.load.now c.args.place c.requires.load c.requires.inside c.if-place-load.false)
