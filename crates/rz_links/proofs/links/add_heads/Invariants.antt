use Rattle.std.proofs.Common.{◌≡◌, ◌+◌, ◌-◌, ◌≤◌, length, vec_len, vec_capacity}
use Rattle.rz_links.specs.Calls.Links.{HeadsKeep}
use Rattle.rz_links.proofs.links.add_heads.Given as goal

abbrev pub invariant-loop-i : goal.invariant-loop-i
invariant-loop-i l = record {
  len : length l.heads.items ≡ length l.initial.heads.items + l._i;
  room : vec_len l.heads + (l.extra - l._i) ≤ vec_capacity l.heads;
  links : HeadsKeep l.initial.heads.items l.heads.items;
}
