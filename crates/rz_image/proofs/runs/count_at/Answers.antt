use Rattle.std.proofs.Common.{◌≡◌, ◌-◌, ◌≤◌, [], length, refl, ap, sym, ◌∙◌, subst}
use Rattle.rz_image.specs.declared.region.Region.{Region}
use Rattle.rz_image.specs.Run.{run_in, IsRun, HasRun}
use Rattle.rz_image.specs.Laws.Find.{fits_at}
use Rattle.rz_image.specs.Laws.Run.{region_run}
use Rattle.rz_image.proofs.runs.count_at.Goals as goal

pub count_in-requires-clause-opened : goal.count_in-requires-clause-opened
count_in-requires-clause-opened c =
    let r = c.index-regions-index.result in
    subst (λ (x : Region). x.opened ≤ length x.bytes) (sym c.index-regions-index.is) (fits_at c.args.regions.now 0 c.in-Some.index r c.requires c.in-Some.ensures.some.there).2

pub returns : goal.returns
returns c =
    let m = c.args.regions.now in
    let r = c.index-regions-index.result in
    let is = ap (λ (x : Region). run_in c.args.access x (c.args.at - x.base)) (sym c.index-regions-index.is) in
    (_, subst (IsRun c.args.access m c.args.at) is (region_run c.args.access m c.in-Some.index c.args.at r c.requires c.in-Some.ensures.some), sym c.count_in.ensures)
