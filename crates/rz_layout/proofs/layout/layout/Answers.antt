use Rattle.std.proofs.Common.{◌+◌, ◌^◌, ◌<◌, ◌∙◌, List, [], length, sym, subst, arith}
use Rattle.rz_isa.specs.declared.rows.Form.{Form}
use Rattle.rz_isa.specs.Plan.{IsPlan, IsLeastPlan}
use Rattle.rz_isa.specs.Items.{slots}
use Rattle.rz_layout.specs.declared.piece.Piece.{Piece}
use Rattle.rz_layout.specs.Layout.{ArePlaces}
use Rattle.rz_layout.specs.Calls.Pieces.{total_len, HaveLabels, IsPiecePlan, IsLeastForms, ArePlaces as ArePiecePlaces}
use Rattle.rz_layout.proofs.Flat.{have_labels}
use Rattle.rz_layout.proofs.Planned.{all_chosen, low_end, below, item_plan, least_plan, item_places}
use Rattle.rz_layout.proofs.layout.layout.Goals as goal

pub pieces_of-requires-clause-chosen : goal.pieces_of-requires-clause-chosen
pieces_of-requires-clause-chosen g c =
    all_chosen g.T.InsnTable.rows c.args.frags.now c.args.base c.requires.items c.args.stubs c.emits.ensures.emits c.spelled_within.ensures c.canonical_lengths.ensures.same c.requires.near c.requires.ends c.requires.low c.requires.low_stubs

pub least_forms-requires : goal.least_forms-requires
least_forms-requires g c =
    subst (λ (l : List Piece). HaveLabels l) (sym (c.as_slice.ensures.value ∙ c.in_ok-pieces.ensures)) (have_labels g.T.InsnTable.rows c.args.frags.now)

pub places_of-requires-clause-low : goal.places_of-requires-clause-low
places_of-requires-clause-low g c =
    subst (λ (l : List Piece). c.args.base + total_len l [] < 2 ^ 31) (sym (c.as_slice-2.ensures.value ∙ c.in_ok-pieces.ensures))
    (low_end g.T.InsnTable.rows c.args.frags.now c.args.base c.requires.items c.args.stubs c.emits.ensures.emits c.spelled_within.ensures c.canonical_lengths.ensures.same c.requires.near c.requires.ends c.requires.low c.requires.low_stubs)

pub returns-clause-plan : goal.returns-clause-plan
returns-clause-plan g c =
    let forms = c.in_ok-forms.forms.items in
    let f = c.from_vec.ensures in
    let plan = subst (λ (l : List Piece). IsPiecePlan l forms) (c.as_slice.ensures.value ∙ c.in_ok-pieces.ensures) c.in_ok-forms.ensures.plan in
    subst (λ (l : List Form). IsPlan g.T.InsnTable.rows c.args.frags.now c.args.base l) (sym f)
    (item_plan g.T.InsnTable.rows c.args.frags.now c.args.base c.requires.items c.args.stubs c.emits.ensures.emits c.spelled_within.ensures c.canonical_lengths.ensures.same c.requires.near c.requires.ends c.requires.low c.requires.low_stubs forms plan)

pub returns-clause-places : goal.returns-clause-places
returns-clause-places g c =
    let forms = c.in_ok-forms.forms.items in
    let f = c.from_vec.ensures in
    let are = subst (λ (l : List Form). ArePiecePlaces c.as_slice-2.result.now c.args.base l c.in_ok-places.places) c.as_slice-3.ensures.value c.in_ok-places.ensures in
    let are' = subst (λ (l : List Piece). ArePiecePlaces l c.args.base forms c.in_ok-places.places) (c.as_slice-2.ensures.value ∙ c.in_ok-pieces.ensures) are in
    subst (λ (l : List Form). ArePlaces g.T.InsnTable.rows c.args.frags.now c.args.base l c.in_ok-places.places) (sym f)
    (item_places g.T.InsnTable.rows c.args.frags.now c.args.base forms c.in_ok-places.places are')

pub returns-clause-least : goal.returns-clause-least
returns-clause-least g c =
    let forms = c.in_ok-forms.forms.items in
    let f = c.from_vec.ensures in
    let least = subst (λ (l : List Piece). IsLeastForms l forms) (c.as_slice.ensures.value ∙ c.in_ok-pieces.ensures) c.in_ok-forms.ensures.least in
    subst (λ (l : List Form). IsLeastPlan g.T.InsnTable.rows c.args.frags.now c.args.base l) (sym f)
    (least_plan g.T.InsnTable.rows c.args.frags.now c.args.base c.requires.items forms least)

pub returns-clause-within : goal.returns-clause-within
returns-clause-within g c =
    below g.T.InsnTable.rows c.args.frags.now c.args.base c.requires.items c.args.stubs c.emits.ensures.emits c.spelled_within.ensures c.canonical_lengths.ensures.same c.requires.near c.requires.ends c.requires.low c.requires.low_stubs _ (length (slots c.args.frags.now)) (omega arith)
