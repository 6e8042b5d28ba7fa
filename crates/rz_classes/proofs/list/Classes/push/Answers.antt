use Rattle.std.proofs.Common.{◌≡◌, length, rules}
use Rattle.rz_classes.proofs.RangeLaws.{IsIndexed-more}
use Rattle.rz_classes.proofs.list.Classes.push.Goals as goal

pub invariant_of-self-in-Ok : goal.invariant_of-self-in-Ok
invariant_of-self-in-Ok c =
    let none = rw (← c.self.view_is) at c.requires.apart in
    let few = rw (← c.self.view_is) at c.requires.few in
    let len : c.len-at.result ≡ length c.self.inside.functions.items = search rules in
    let updates = rw len at c.in-Ok.ensures.updates in
    rw c.in_ok-push.ensures.items
    (IsIndexed-more c.self.inside.functions.items c.args.function c.self.inside.starts c.insert.new.self c.self.invariant c.requires.ordered none few updates)
