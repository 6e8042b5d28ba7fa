use Rattle.std.proofs.lemmas.List.{append_assoc}
use Rattle.rz_label.proofs.sections.Section.push.Goals as goal

pub returns : goal.returns
returns c =
    rw (c.in_ok-push_u64-6.ensures, c.in_ok-push_u64-5.ensures, c.in_ok-push_u32-4.ensures, c.in_ok-push_u32-3.ensures, c.in_ok-push_u64-4.ensures, c.in_ok-push_u64-3.ensures, c.in_ok-push_u64-2.ensures, c.in_ok-push_u64.ensures, c.in_ok-push_u32-2.ensures, c.in_ok-push_u32.ensures) (simp append_assoc)
