use Rattle.std.proofs.Common.{ℕ, List, get_or, sym, ap, ◌∙◌, subst, refl}
use Rattle.rz_isa.specs.declared.decoding.Decoded.{Decoded}
use Rattle.rz_isa.specs.declared.item_list.Item.{Item}
use Rattle.rz_isa.specs.Decoded.{decoded}
use Rattle.rz_isa.specs.Nodes.{Decoder, Code, spelled_at}
use Rattle.rz_elf.specs.Elf.{image_of}
use Rattle.rz_machine.specs.Nodes.{code_in}
use Rattle.rz_rewrite.specs.Calls.Plan.{CanMoveAt}
use Rattle.rz_machine.specs.Sequence.{items_for, node_items}
use Rattle.rz_rewrite.proofs.FragmentSteps.{all_at, fragments_turn, all_fragments}
use Rattle.rz_rewrite.proofs.fragments.fragment_list.Goals as goal

pub items_at-requires-clause-movable : goal.items_at-requires-clause-movable
items_at-requires-clause-movable g c =
    let dec : Decoder = decoded g.T.InsnTable.rows in
    let code : Code = code_in (image_of c.args.elf.now.bytes).loads in
    let can : ℕ → Decoded → Type 0 = CanMoveAt c.args.scratch c.args.kept.now.edges in
    let a : ℕ = get_or c.args.nodes.now c.loop-i.i 0 in
    subst (can a) (sym c.decoded_at-decoded.ensures) (all_at (λ b. can b (spelled_at dec code b)) c.args.nodes.now c.loop-i.i c.requires.movable c.loop-i-test.true)

pub loop-i-preserved : goal.loop-i-preserved
loop-i-preserved g c =
    let dec : Decoder = decoded g.T.InsnTable.rows in
    let code : Code = code_in (image_of c.args.elf.now.bytes).loads in
    let items : ℕ → List Item = node_items dec code c.args.scratch c.args.kept.now.edges in
    let a : ℕ = get_or c.args.nodes.now c.loop-i.i 0 in
    let same = c.in_ok-items.ensures ∙ ap (items_for c.args.scratch c.args.kept.now.edges a) c.decoded_at-decoded.ensures in
    fragments_turn items c.args.nodes.now c.loop-i.i c.loop-i.list.items c.push.new.self.items _ c.in_ok-items.items c.node_after.result c.loop-i-test.true c.in_ok-push.ensures.items refl c.in_ok-items-2.ensures same c.node_after.ensures
    ∙ c.loop-i.invariant

pub returns : goal.returns
returns g c =
    let dec : Decoder = decoded g.T.InsnTable.rows in
    let code : Code = code_in (image_of c.args.elf.now.bytes).loads in
    let items : ℕ → List Item = node_items dec code c.args.scratch c.args.kept.now.edges in
    c.from_vec.ensures ∙ all_fragments items c.args.nodes.now c.loop-i.i c.loop-i.list.items c.loop-i-test.false c.loop-i.invariant
