use Rattle.std.proofs.Common.{rules, ℕ, List, map, ap}
use Rattle.rz_links.specs.Lists.{without, with_back}
use Rattle.rz_links.specs.Calls.Linked.{linked}
use Rattle.rz_links.specs.Laws.Paths.{chains_without, chains_back, chains_written, lists_written}
use Rattle.rz_links.proofs.lists.Lists.move_back.Goals as goal

pub invariant_of-self-inside : goal.invariant_of-self-inside
invariant_of-self-inside c =
    let before = c.self.inside in
    let moved = rw (c.deref_mut.ensures.value, c.deref_mut-2.ensures.value) at c.move_before.ensures.moved in
    let without_it = map (without c.args.node) before.chains.0 in
    let out = chains_back without_it c.args.list (search rules) moved.2 (chains_without before.chains.0 moved.1 before.chains.1) in
    ((with_back (map (without c.args.node) before.chains.0) c.args.list c.args.node, chains_written before.heads before.nodes _ _ _ (search rules) (search rules) (search rules) out), tt)

pub returns : goal.returns
returns c =
    let before = c.self.inside in
    let moved = rw (c.deref_mut.ensures.value, c.deref_mut-2.ensures.value) at c.move_before.ensures.moved in
    let without_it = map (without c.args.node) before.chains.0 in
    let out = chains_back without_it c.args.list (search rules) moved.2 (chains_without before.chains.0 moved.1 before.chains.1) in
    let lists = lists_written before.heads before.nodes c.move_before.new.heads c.move_before.new.nodes (with_back (map (without c.args.node) before.chains.0) c.args.list c.args.node) (search rules) (search rules) (search rules) out in
    rw (← c.self.view_is) (ap (λ (L : List (List ℕ)). linked L before.nodes before.heads) (search lists))
