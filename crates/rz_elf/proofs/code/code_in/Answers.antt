use Rattle.std.proofs.Common.{◌≡◌, true, sym, ◌∙◌, arith}
use Rattle.rz_elf.specs.Laws.Loads.{zero_code}
use Rattle.rz_elf.proofs.code.code_in.Goals as goal

pub returns-then-load-place : goal.returns-then-load-place
returns-then-load-place c =
    let on : c.executes.result ≡ true = grind (arith, c.if-not-executes.false) in
    zero_code c.args.file.now c.args.load.now c.args.place c.requires.load (sym c.executes.ensures ∙ on) c.if-load-place.true c.requires.inside
