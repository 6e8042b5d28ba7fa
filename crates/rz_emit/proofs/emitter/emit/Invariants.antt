use Rattle.std.proofs.Common.{◌≡◌, ◌++◌, drop}
use Rattle.rz_isa.specs.Items.{slots}
use Rattle.rz_emit.specs.Emitted.{bytes_from, code_bytes}
use Rattle.rz_emit.proofs.emitter.emit.Given as goal

abbrev pub invariant-loop-k : goal.invariant-loop-k
invariant-loop-k g l =
    let forms = l.laid.forms in
    l.out ++ bytes_from g.T.InsnTable.rows l.frags l.laid.base forms l.k (drop l.k (slots l.frags)) ≡ code_bytes g.T.InsnTable.rows l.frags l.laid.base forms
