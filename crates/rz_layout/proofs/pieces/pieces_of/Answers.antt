use Rattle.std.proofs.Common.{◌≡◌, List, IfOk, subst}
use Rattle.rz_layout.specs.declared.piece.Piece.{Piece}
use Rattle.rz_layout.proofs.Labels.{pieces_same}
use Rattle.rz_layout.proofs.pieces.pieces_of.Goals as goal

pub returns : goal.returns
returns g c =
    subst (λ (list : List Piece). IfOk c.ordered_pieces.result (λ pieces. pieces.items ≡ list))
    (pieces_same g.T.InsnTable.rows c.args.frags.now c.in_ok-order.order c.in_ok-order.ensures)
    c.ordered_pieces.ensures
