use Rattle.std.proofs.Common.{length}
use Rattle.rz_links.specs.Calls.Links.{next_of}
use Rattle.rz_links.specs.Calls.Chains.{AreChains}
use Rattle.rz_links.specs.Laws.Paths.{only_chains}
use Rattle.rz_links.proofs.lists.Lists.reserve.Goals as goal

pub returns-in_err-reserve-clause-lists : goal.returns-in_err-reserve-clause-lists
returns-in_err-reserve-clause-lists c =
    let before = c.self.inside in
    let next = next_of before.heads.items c.reserve.new.self.items in
    let out : AreChains next (length before.heads.items) before.chains.0 = rw c.reserve.ensures.items before.chains.1 in
    let lists = only_chains next (length before.heads.items) before.chains.0 out in
    rw (← c.self.view_is) (search lists)

pub returns-clause-lists : goal.returns-clause-lists
returns-clause-lists c =
    let before = c.self.inside in
    let next = next_of before.heads.items c.reserve.new.self.items in
    let out : AreChains next (length before.heads.items) before.chains.0 = rw c.reserve.ensures.items before.chains.1 in
    let lists = only_chains next (length before.heads.items) before.chains.0 out in
    rw (← c.self.view_is) (search lists)
