use Rattle.std.proofs.Common.{◌≡◌, ◌+◌, ◌-◌, ℕ, List, get_or, set, length, refl, ap, sym, ◌∙◌, subst, arith}
use Rattle.rz_image.specs.declared.access.Access.TheVariants.{Write}
use Rattle.rz_image.specs.declared.region.Region.{Region}
use Rattle.rz_image.specs.Memory.{Ascend, refused, is_writable}
use Rattle.rz_image.specs.Laws.Find.{fits_at}
use Rattle.rz_image.specs.Laws.Puts.{within}
use Rattle.rz_image.specs.Laws.Run.{region_run, room, refused_run, refused_all}
use Rattle.rz_image.proofs.PutLaws.{put_all, ascend_put_bytes}
use Rattle.rz_image.proofs.words.put_run.Goals as goal

pub count_in-requires-clause-opened : goal.count_in-requires-clause-opened
count_in-requires-clause-opened c =
    (fits_at c.args.regions.now 0 c.in-Some.index c.index-regions-index.result c.requires.ascend c.in-Some.ensures.some.there).2

pub returns-then-count_in-bytes-clause-refused : goal.returns-then-count_in-bytes-clause-refused
returns-then-count_in-bytes-clause-refused c e one =
    let run = region_run Write c.args.regions.now c.in-Some.index c.args.at c.index-regions-index.result c.requires.ascend c.in-Some.ensures.some in
    let same = c.count_in.ensures in
    run.none (omega (arith, one, same, c.if-count_in-bytes.true))

pub overwrite-requires : goal.overwrite-requires
overwrite-requires c =
    let d = c.index-regions-index.result in
    let same = c.count_in.ensures in
    let x : Region = get_or c.args.regions.now c.in-Some.index d in
    let r = room Write x (c.args.at - x.base) (length c.args.bytes.now) c.requires.some (omega (arith, same, c.if-count_in-bytes.false)) in
    omega (arith, r.1, (fits_at c.args.regions.now 0 c.in-Some.index d c.requires.ascend c.in-Some.ensures.some.there).2)

pub returns-clause-done : goal.returns-clause-done
returns-clause-done c t =
    let m = c.args.regions.now in
    let d = c.index-regions-index.result in
    let same = c.count_in.ensures in
    let x : Region = get_or c.args.regions.now c.in-Some.index d in
    let r = room Write x (c.args.at - x.base) (length c.args.bytes.now) c.requires.some (omega (arith, same, c.if-count_in-bytes.false)) in
    let from = (within x c.args.at (c.in-Some.ensures.some.holds d)).0 in
    ap (λ (l : List ℕ). let y : Region = record x { bytes = l } in set m c.in-Some.index y) c.overwrite.ensures
    ∙ sym (put_all c.args.bytes.now m c.in-Some.index c.args.at d x refl c.requires.ascend c.in-Some.ensures.some.there from r.1 r.0)

pub returns-clause-allowed : goal.returns-clause-allowed
returns-clause-allowed c t =
    let m = c.args.regions.now in
    let d = c.index-regions-index.result in
    let n = length c.args.bytes.now in
    let same = c.count_in.ensures in
    let run = region_run Write m c.in-Some.index c.args.at d c.requires.ascend c.in-Some.ensures.some in
    let next = refused_run Write m c.args.at _ run n n (omega (arith, same, c.if-count_in-bytes.false)) (omega arith) in
    let none : n - n ≡ 0 = omega arith in
    sym next ∙ ap (refused is_writable m (c.args.at + n)) none ∙ refused_all is_writable m (c.args.at + n)

pub returns-clause-ascend : goal.returns-clause-ascend
returns-clause-ascend c =
    let m = c.args.regions.now in
    let d = c.index-regions-index.result in
    let same = c.count_in.ensures in
    let x : Region = get_or c.args.regions.now c.in-Some.index d in
    let r = room Write x (c.args.at - x.base) (length c.args.bytes.now) c.requires.some (omega (arith, same, c.if-count_in-bytes.false)) in
    let from = (within x c.args.at (c.in-Some.ensures.some.holds d)).0 in
    let put = put_all c.args.bytes.now m c.in-Some.index c.args.at d x refl c.requires.ascend c.in-Some.ensures.some.there from r.1 r.0 in
    let done = ap (λ (l : List ℕ). let y : Region = record x { bytes = l } in set m c.in-Some.index y) c.overwrite.ensures in
    subst Ascend (put ∙ sym done) (ascend_put_bytes m c.args.at c.args.bytes.now c.requires.ascend)
