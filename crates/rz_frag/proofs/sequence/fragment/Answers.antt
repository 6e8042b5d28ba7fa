use Rattle.std.proofs.Common.{◌≡◌, ◌+◌, List, sym, ap, ◌∙◌, subst}
use Rattle.rz_isa.specs.declared.item_list.Item.{Item}
use Rattle.rz_isa.specs.Decoded.{decoded}
use Rattle.rz_isa.specs.Sizes.{IsSized}
use Rattle.rz_machine.specs.Kept.{has_edge, targets_of}
use Rattle.rz_machine.specs.Laws.Targets.{targets_keep}
use Rattle.rz_machine.specs.Sequence.{fragment_items}
use Rattle.rz_machine.specs.Simulates.{Simulates}
use Rattle.rz_frag.proofs.sequence.fragment.Goals as goal

pub returns-clause-simulates : goal.returns-clause-simulates
returns-clause-simulates g c scratch =
    let targets = targets_of c.args.kept.now.edges c.args.at in
    let law = c.fragments_simulate.ensures scratch targets c.args.at (c.args.at + c.args.len) c.args.insn.now c.requires.site c.requires.low in
    let same = ap (λ keeps. fragment_items keeps c.args.at (c.args.at + c.args.len) c.args.insn.now) (targets_keep c.args.kept.now.edges c.args.at) ∙ sym c.in_ok-items.ensures in
    subst (Simulates (decoded g.T.InsnTable.rows) scratch 64 targets c.args.at (c.args.at + c.args.len) c.args.insn.now) same law

pub returns-clause-sized : goal.returns-clause-sized
returns-clause-sized g c bytes b spells low =
    subst (λ (l : List Item). IsSized g.T.InsnTable.rows l 32) (sym c.in_ok-items.ensures)
    (c.fragments_are_sized.ensures (has_edge c.args.kept.now.edges c.args.at) c.args.at (c.args.at + c.args.len) bytes b c.args.insn.now spells c.requires.site low c.requires.low)
