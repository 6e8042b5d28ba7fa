use Rattle.std.proofs.Common.{◌-◌, ◌/◌, ◌%◌, ◌∷◌, [], arith, subst}
use Rattle.rz_isa.specs.Canonical.{little}
use Rattle.rz_encode.specs.Calls.Writer.{Wrote}
use Rattle.rz_encode.proofs.Written.{wrote_both, little_step}
use Rattle.rz_encode.proofs.writer.+put_little.Goals as goal

pub returns : goal.returns
returns t c = subst (λ k. Wrote c.args.out.now c.args.n c.put_little.new.out c.put_little.result k) (little_step c.args.count c.args.v (omega (arith, c.if-count-eq0.false)))
    (wrote_both c.args.out.now c.put-m.new.out c.put_little.new.out c.args.n c.put-m.result c.put_little.result (c.args.v % 256 ∷ []) (little (c.args.count - 1) (c.args.v / 256)) c.put-m.ensures c.put_little.ensures)
