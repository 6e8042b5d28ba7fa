use Rattle.std.proofs.Common.{rules, length, ap, vec_len}
use Rattle.rz_links.specs.Calls.Links.{next_of, alone}
use Rattle.rz_links.specs.declared.links.Place.TheVariants.{Node}
use Rattle.rz_links.specs.declared.links.Link.{Link}
use Rattle.std.proofs.lemmas.List.{get_or_past}
use Rattle.rz_links.specs.Laws.Paths.{chains_same, only_chains, lists_without_fresh}
use Rattle.rz_links.proofs.lists.Lists.add_node.Goals as goal

pub invariant_of-self-inside : goal.invariant_of-self-inside
invariant_of-self-inside c =
    let before = c.self.inside in
    let out = chains_same (next_of before.heads.items before.nodes.items) (next_of before.heads.items c.push_node.new.nodes.items) (length before.heads.items) before.chains.0 (λ r. ap (λ (k : Link). k.next) (c.push_node.ensures.links before.heads.items r)) before.chains.1 in
    ((before.chains.0, out), tt)

pub returns-clause-lists : goal.returns-clause-lists
returns-clause-lists c =
    let before = c.self.inside in
    let out = chains_same (next_of before.heads.items before.nodes.items) (next_of before.heads.items c.push_node.new.nodes.items) (length before.heads.items) before.chains.0 (λ r. ap (λ (k : Link). k.next) (c.push_node.ensures.links before.heads.items r)) before.chains.1 in
    let lists = only_chains (next_of before.heads.items c.push_node.new.nodes.items) (length before.heads.items) before.chains.0 out in
    rw (← c.self.view_is) (search lists)

pub returns-clause-fresh : goal.returns-clause-fresh
returns-clause-fresh c =
    let before = c.self.inside in
    let n = vec_len before.nodes in
    let own = ap (λ (k : Link). k.next) (get_or_past before.nodes.items n (alone (Node n)) (search rules)) in
    rw (← c.self.view_is) (lists_without_fresh (next_of before.heads.items before.nodes.items) (length before.heads.items) before.chains.0 n own before.chains.1)
