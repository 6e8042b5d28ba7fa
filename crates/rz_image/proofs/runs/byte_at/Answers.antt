use Rattle.std.proofs.Common.{◌-◌, get_or, ap, sym, ◌∙◌}
use Rattle.rz_image.specs.Memory.{Cell}
use Rattle.rz_image.specs.Laws.Find.{cell_found}
use Rattle.rz_image.proofs.runs.byte_at.Goals as goal

pub returns : goal.returns
returns c =
    let m = c.args.regions.now in
    let r = c.index-regions-index.result in
    let has = c.in-Some.ensures.some in
    c.byte.ensures
    ∙ sym (ap (λ (x : Cell). x.byte) (cell_found m 0 c.in-Some.index c.args.at r c.requires has.there (has.holds r)) ∙ ap (λ x. get_or x.bytes (c.args.at - x.base) 0) (sym c.index-regions-index.is))
