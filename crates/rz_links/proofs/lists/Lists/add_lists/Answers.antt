use Rattle.std.proofs.Common.{◌+◌, ◌++◌, [], length, replicate, ap}
use Rattle.rz_links.specs.Calls.Links.{next_of}
use Rattle.rz_links.specs.declared.links.Link.{Link}
use Rattle.rz_links.specs.Calls.Chains.{AreChains}
use Rattle.rz_links.specs.Laws.Paths.{chains_same, chains_more, only_chains}
use Rattle.rz_links.proofs.lists.Lists.add_lists.Goals as goal

pub invariant_of-self-inside : goal.invariant_of-self-inside
invariant_of-self-inside c =
    let before = c.self.inside in
    let more = before.chains.0 ++ replicate c.args.extra [] in
    let added = chains_same _ (next_of c.add_heads.new.heads.items before.nodes.items) (length before.heads.items + c.args.extra) more (λ r. ap (λ (k : Link). k.next) (c.add_heads.ensures.links before.nodes.items r)) (chains_more (next_of before.heads.items before.nodes.items) (length before.heads.items) c.args.extra before.chains.0 before.chains.1) in
    let out : AreChains (next_of c.add_heads.new.heads.items before.nodes.items) (length c.add_heads.new.heads.items) more = rw c.add_heads.ensures.len added in
    ((more, out), tt)

pub returns-clause-lists : goal.returns-clause-lists
returns-clause-lists c =
    let before = c.self.inside in
    let more = before.chains.0 ++ replicate c.args.extra [] in
    let added = chains_same _ (next_of c.add_heads.new.heads.items before.nodes.items) (length before.heads.items + c.args.extra) more (λ r. ap (λ (k : Link). k.next) (c.add_heads.ensures.links before.nodes.items r)) (chains_more (next_of before.heads.items before.nodes.items) (length before.heads.items) c.args.extra before.chains.0 before.chains.1) in
    let out : AreChains (next_of c.add_heads.new.heads.items before.nodes.items) (length c.add_heads.new.heads.items) more = rw c.add_heads.ensures.len added in
    let lists = only_chains (next_of c.add_heads.new.heads.items before.nodes.items) (length c.add_heads.new.heads.items) more out in
    rw (← c.self.view_is) (search lists)
