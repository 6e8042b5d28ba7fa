use Rattle.std.proofs.Common.{◌+◌, ◌*◌, ◌∷◌, [], subst}
use Rattle.rz_isa.specs.Canonical.{little}
use Rattle.rz_encode.specs.Calls.Writer.{Wrote}
use Rattle.rz_encode.proofs.Written.{wrote_both, place_address}
use Rattle.rz_encode.proofs.spelling.put_place.Goals as goal

pub returns-in-At : goal.returns-in-At
returns-in-At c = subst (λ k. Wrote c.args.out.now c.args.n c.put_little.new.out c.put_little.result k)
    (place_address c.args.reg c.args.next c.args.place c.in-At.address c.offset.result c.in-At.is c.offset.ensures)
    (wrote_both c.args.out.now c.put-a.new.out c.put_little.new.out c.args.n c.put-a.result c.put_little.result ((8 * c.args.reg + 5) ∷ []) (little 4 c.offset.result) c.put-a.ensures c.put_little.ensures)
