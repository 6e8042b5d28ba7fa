use Rattle.std.proofs.Common.{◌≡◌, sym, ap, ◌∙◌, ◌&&◌, length, nat_lt, arith, lt-ltb, le-ltb}
use Rattle.rz_replay.specs.Verdict.{first_difference}
use Rattle.rz_replay.proofs.VerdictLaws.{equal_place}
use Rattle.rz_replay.proofs.compare.are_equal.Goals as goal

pub returns-then-place-old : goal.returns-then-place-old
returns-then-place-old c =
    let made = c.args.old.now in
    let found = c.args.new.now in
    let place = first_difference made found in
    let is : c.args.place ≡ place = c.requires in
    let past = lt-ltb (length made) place (omega (arith, is)) in
    ap (nat_lt (length found)) is ∙ sym (equal_place made found ∙ ap (λ b. b && nat_lt (length found) place) past)

pub returns-else-place-old : goal.returns-else-place-old
returns-else-place-old c =
    let made = c.args.old.now in
    let found = c.args.new.now in
    let place = first_difference made found in
    let is : c.args.place ≡ place = c.requires in
    let within = le-ltb (length made) place (omega (arith, is)) in
    ap (nat_lt (length made)) is ∙ within ∙ sym (equal_place made found ∙ ap (λ b. b && nat_lt (length found) place) within)
