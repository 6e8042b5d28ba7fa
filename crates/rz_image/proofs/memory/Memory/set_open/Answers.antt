use Rattle.std.proofs.Common.{◌≤◌, ◌<◌, set, length, ap, sym, ◌∙◌, subst}
use Rattle.rz_image.specs.declared.region.Region.{Region}
use Rattle.rz_image.specs.Memory.{Regions, Ascend, bytes_in, reopened, set_open}
use Rattle.rz_image.specs.Laws.Find.{fits_at}
use Rattle.rz_image.proofs.OpenLaws.{bytes_in_at, set_open_at, ascend_set_open}
use Rattle.rz_image.proofs.memory.Memory.set_open.Goals as goal

pub set_open-requires-clause-inside : goal.set_open-requires-clause-inside
set_open-requires-clause-inside c =
    let r = c.index_mut.result.now in
    let lt = subst (λ (m : Regions). c.args.region < length m) (sym c.self.view_is) c.requires.there in
    let e = bytes_in_at c.self.inside.regions.items c.args.region r lt in
    let le = subst (λ (m : Regions). c.args.opened ≤ length (bytes_in m c.args.region)) (sym c.self.view_is) c.requires.inside in
    subst (λ b. c.args.opened ≤ length b) (e ∙ ap (λ (x : Region). x.bytes) (sym c.index_mut.ensures.value)) le

pub set_open-requires-clause-fits : goal.set_open-requires-clause-fits
set_open-requires-clause-fits c =
    let r = c.index_mut.result.now in
    let lt = subst (λ (m : Regions). c.args.region < length m) (sym c.self.view_is) c.requires.there in
    subst (λ (x : Region). x.opened ≤ length x.bytes) (sym c.index_mut.ensures.value) (fits_at c.self.inside.regions.items 0 c.args.region r c.self.invariant lt).2

pub invariant_of-self : goal.invariant_of-self
invariant_of-self c =
    let m = c.self.inside.regions.items in
    let r = c.index_mut.result.now in
    let lt = subst (λ (m : Regions). c.args.region < length m) (sym c.self.view_is) c.requires.there in
    let le = subst (λ (m : Regions). c.args.opened ≤ length (bytes_in m c.args.region)) (sym c.self.view_is) c.requires.inside in
    let e = ap (set m c.args.region) (c.set_open.ensures ∙ ap (reopened c.args.opened) c.index_mut.ensures.value) ∙ set_open_at m c.args.region c.args.opened r lt in
    subst Ascend (sym e) (ascend_set_open m 0 c.args.region c.args.opened c.self.invariant lt le)

pub returns : goal.returns
returns c =
    let m = c.self.inside.regions.items in
    let r = c.index_mut.result.now in
    let lt = subst (λ (m : Regions). c.args.region < length m) (sym c.self.view_is) c.requires.there in
    ap (set m c.args.region) (c.set_open.ensures ∙ ap (reopened c.args.opened) c.index_mut.ensures.value) ∙ set_open_at m c.args.region c.args.opened r lt ∙ ap (λ x. set_open x c.args.region c.args.opened) c.self.view_is
