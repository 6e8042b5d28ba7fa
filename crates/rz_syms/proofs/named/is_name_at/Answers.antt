use Rattle.std.proofs.Common.{◌==◌, ◌∙◌, ap, drop}
use Rattle.std.specs.List.{before_first}
use Rattle.rz_syms.specs.Symbols.{is_name, string_at}
use Rattle.rz_syms.proofs.NameLaws.{front_is, string_front, name_front}
use Rattle.rz_syms.proofs.named.is_name_at.Goals as goal

pub returns : goal.returns
returns c =
    let strings = c.args.strings.now in
    let at = c.args.at in
    c.is_name.ensures
    ∙ ap (is_name 255) (c.string_at.ensures ∙ ap (before_first (λ b. b == 0)) (front_is strings at c.min.result c.min-2.result c.min.ensures c.min-2.ensures) ∙ string_front 256 (drop at strings))
    ∙ name_front (string_at strings at)
