use Rattle.std.proofs.Common.{append_assoc}
use Rattle.rz_rewrite.proofs.stubs.emit_stub.Goals as goal

pub returns : goal.returns
returns c at =
    rw (c.in_ok-push_all-4.ensures.ok, c.in_ok-push_all-3.ensures.ok, c.in_ok-push_all-2.ensures.ok, c.in_ok-push_all.ensures.ok, c.to_le_bytes.ensures)
    (simp append_assoc)
