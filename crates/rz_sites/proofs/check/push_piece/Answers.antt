use Rattle.std.proofs.Common.{◌≡◌, arith}
use Rattle.std.specs.Prelude.{pos, ◌-ℤ◌}
use Rattle.std.specs.Int.{w32, cast_signed, cast_unsigned}
use Rattle.std.proofs.lemmas.Int.{ints}
use Rattle.rz_sites.proofs.Appended.{piece_appended}
use Rattle.rz_sites.proofs.check.push_piece.Goals as goal

pub returns : goal.returns
returns c =
    let same : cast_signed w32 (cast_unsigned w32 c.difference.result) ≡ pos c.args.previous -ℤ pos c.args.target = omega (arith, ints) in
    piece_appended c.args.scratch c.args.previous c.args.target _ _ _ _ _ _ _ _ _ _ _ _ c.as_slice.ensures same c.add_to.ensures c.jump.ensures
    c.load_at.ensures c.jump-2.ensures c.in_ok-push.ensures.ok c.in_ok-push-2.ensures.ok c.in_ok-push-3.ensures.ok c.in_ok-push-4.ensures.ok
    c.in_ok-push-5.ensures.ok
