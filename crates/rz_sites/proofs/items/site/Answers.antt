use Rattle.std.proofs.Common.{◌≡◌, ◌+◌, ◌*◌, List, length, sym, ap, ◌∙◌, subst, ◌++◌}
use Rattle.rz_isa.specs.declared.item_list.Item.{Item}
use Rattle.rz_isa.specs.Sizes.{IsSized}
use Rattle.rz_machine.specs.Sequence.{site_items, dispatch}
use Rattle.rz_sites.proofs.items.site.Goals as goal

pub returns-clause-sized : goal.returns-clause-sized
returns-clause-sized g c bytes b spells low =
    let law = c.sites_are_sized.ensures c.args.scratch c.args.targets.now c.args.at (c.args.at + c.args.len) bytes b c.args.insn.now spells c.requires.site low in
    let same : c.push_dispatch.new.items ≡ site_items c.args.scratch c.args.targets.now c.args.at (c.args.at + c.args.len) c.args.insn.now =
    c.in_ok-push_dispatch.ensures ∙ ap (λ l. l ++ dispatch c.args.scratch c.args.at (length l) c.args.targets.now) c.in_ok-items.ensures in
    subst (λ (l : List Item). IsSized g.T.InsnTable.rows l (128 + 48 * length c.args.targets.now)) (sym same) law
