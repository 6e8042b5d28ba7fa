use Rattle.std.proofs.Common.{ℕ, List, length, ap}
use Rattle.rz_links.specs.Calls.Links.{next_of}
use Rattle.rz_links.specs.Calls.Chains.{AreChains}
use Rattle.rz_links.specs.Calls.Linked.{linked}
use Rattle.rz_links.specs.Laws.Paths.{only_chains}
use Rattle.rz_links.proofs.lists.Lists.reserve_lists.Goals as goal

pub returns-in_err-reserve-clause-same : goal.returns-in_err-reserve-clause-same
returns-in_err-reserve-clause-same c =
    let before = c.self.inside in
    let next = next_of c.reserve.new.self.items before.nodes.items in
    let out : AreChains next (length c.reserve.new.self.items) before.chains.0 = rw c.reserve.ensures.items before.chains.1 in
    let lists = only_chains next (length c.reserve.new.self.items) before.chains.0 out in
    rw (← c.self.view_is) (ap (λ (L : List (List ℕ)). linked L before.nodes c.reserve.new.self) (search lists))

pub returns-clause-same : goal.returns-clause-same
returns-clause-same c =
    let before = c.self.inside in
    let next = next_of c.reserve.new.self.items before.nodes.items in
    let out : AreChains next (length c.reserve.new.self.items) before.chains.0 = rw c.reserve.ensures.items before.chains.1 in
    let lists = only_chains next (length c.reserve.new.self.items) before.chains.0 out in
    rw (← c.self.view_is) (ap (λ (L : List (List ℕ)). linked L before.nodes c.reserve.new.self) (search lists))
