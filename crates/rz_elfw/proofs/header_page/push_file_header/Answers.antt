use Rattle.std.proofs.lemmas.List.{append_assoc}
use Rattle.rz_elfw.proofs.header_page.push_file_header.Goals as goal

pub returns : goal.returns
returns c =
    rw (c.in_ok-push_u16-8.ensures, c.in_ok-push_u16-7.ensures, c.in_ok-push_u16-6.ensures, c.in_ok-push_u16-5.ensures, c.in_ok-push_u16-4.ensures, c.in_ok-push_u16-3.ensures, c.in_ok-push_u32-2.ensures, c.in_ok-push_u64-3.ensures, c.in_ok-push_u64-2.ensures, c.in_ok-push_u64.ensures, c.in_ok-push_u32.ensures, c.in_ok-push_u16-2.ensures, c.in_ok-push_u16.ensures, c.in_ok-extend_from_slice-2.ensures.items, c.in_ok-extend_from_slice.ensures.items) (simp append_assoc)
