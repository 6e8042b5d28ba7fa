use Rattle.std.proofs.Common.{◌==◌, ◌∙◌, add-one, ap, refl, slice_get, sym}
use Rattle.std.proofs.lemmas.Option.{get_or_from_slice_get}
use Rattle.rz_links.specs.Arena.{lists_of}
use Rattle.rz_links.specs.Lists.{node_in}
use Rattle.rz_flow.specs.Flow.{far, near}
use Rattle.rz_flow.proofs.Linking.{list_of, neighbours_known, next_place}
use Rattle.rz_flow.proofs.Places.{walked_neighbours, walked_on, walked_smaller, walked_within}
use Rattle.rz_flow.proofs.flow.Flow.neighbours.Goals as goal

pub loop-next-init : goal.loop-next-init
loop-next-init c =
    let g = c.self.inside in
    let list = list_of g.nodes g.edges g.arena.value c.self.invariant c.args.family c.number.result c.args.at c.number.ensures.number in
    record { place = 0; here = c.first-next.ensures ∙ ap (λ a. node_in (lists_of a c.args.family) c.number.result 0) c.deref.ensures ∙ ap (λ xs. slice_get xs 0) list; taken = c.new-found.ensures.items }

pub value-requires : goal.value-requires
value-requires c =
    rw (c.deref-in-Some.ensures, c.self.invariant.values) (walked_within (λ e. near c.args.family e == c.args.at) c.self.inside.edges refl c.in-Some.edge c.loop-next.invariant c.in-Some.is)

pub next-next-requires : goal.next-next-requires
next-next-requires c =
    rw (c.deref-in-Some-2.ensures, c.self.invariant.values) (walked_within (λ e. near c.args.family e == c.args.at) c.self.inside.edges refl c.in-Some.edge c.loop-next.invariant c.in-Some.is)

pub loop-next-smaller : goal.loop-next-smaller
loop-next-smaller c =
    let g = c.self.inside in
    let w = c.loop-next.invariant in
    let next = next_place g.nodes g.edges g.arena.value c.self.invariant c.args.family c.number.result c.args.at w.place c.in-Some.edge c.next-next.result c.number.ensures.number (rw c.deref-in-Some-2.ensures at c.next-next.ensures) (sym w.here ∙ c.in-Some.is) in
    walked_smaller (λ e. near c.args.family e == c.args.at) g.edges refl c.in-Some.edge c.next-next.result w c.in-Some.is (rw add-one at next)

pub loop-next-preserved : goal.loop-next-preserved
loop-next-preserved c =
    let g = c.self.inside in
    let w = c.loop-next.invariant in
    let e = c.in-Some.edge in
    let next = next_place g.nodes g.edges g.arena.value c.self.invariant c.args.family c.number.result c.args.at w.place e c.next-next.result c.number.ensures.number (rw c.deref-in-Some-2.ensures at c.next-next.ensures) (sym w.here ∙ c.in-Some.is) in
    let value = get_or_from_slice_get g.edges e c.value.result.now (0, 0) (rw (c.deref-in-Some.ensures, c.self.invariant.values) at c.value.ensures) in
    walked_on e c.far_end.result c.next-next.result c.push.new.self.items w c.in-Some.is next (c.far_end.ensures ∙ ap (far c.args.family) (sym value)) c.in_ok-push.ensures.items

pub returns-clause-all : goal.returns-clause-all
returns-clause-all c =
    rw (← c.self.view_is) (walked_neighbours c.args.family c.self.inside.edges c.args.at _ refl c.loop-next.invariant c.in_default.is)

pub returns-clause-nodes : goal.returns-clause-nodes
returns-clause-nodes c =
    let g = c.self.inside in
    let all = walked_neighbours c.args.family g.edges c.args.at _ refl c.loop-next.invariant c.in_default.is in
    rw (all, ← c.self.view_is) (neighbours_known g.nodes g.edges g.arena.value c.self.invariant c.args.family c.args.at)
