use Rattle.std.proofs.Common.{rules, ℕ, List, map, ap}
use Rattle.rz_links.specs.Lists.{without}
use Rattle.rz_links.specs.Calls.Linked.{linked}
use Rattle.rz_links.specs.Laws.Paths.{chains_without, chains_written, lists_written}
use Rattle.rz_links.proofs.lists.Lists.unlink.Goals as goal

pub invariant_of-self-inside : goal.invariant_of-self-inside
invariant_of-self-inside c =
    let before = c.self.inside in
    let detached = rw (c.deref_mut.ensures.value, c.deref_mut-2.ensures.value) at c.detach.ensures.detached in
    let out = chains_without before.chains.0 detached before.chains.1 in
    ((map (without c.args.node) before.chains.0, chains_written before.heads before.nodes _ _ _ (search rules) (search rules) (search rules) out), tt)

pub returns : goal.returns
returns c =
    let before = c.self.inside in
    let detached = rw (c.deref_mut.ensures.value, c.deref_mut-2.ensures.value) at c.detach.ensures.detached in
    let out = chains_without before.chains.0 detached before.chains.1 in
    let lists = lists_written before.heads before.nodes c.detach.new.heads c.detach.new.nodes (map (without c.args.node) before.chains.0) (search rules) (search rules) (search rules) out in
    rw (← c.self.view_is) (ap (λ (L : List (List ℕ)). linked L before.nodes before.heads) (search lists))
