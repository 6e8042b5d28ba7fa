use Rattle.std.proofs.Common.{refl, subst}
use Rattle.rz_exec.specs.Calls.Carried.{AreBytes}
use Rattle.rz_exec.proofs.Copies.{bytes_below}
use Rattle.rz_exec.proofs.repeats.copy_bytes.Goals as goal

pub returns-clause-bytes : goal.returns-clause-bytes
returns-clause-bytes c t = subst AreBytes (c.if-not-load_run.ensures.done refl) (bytes_below c.load_run.new.out c.are_bytes.ensures.each)
