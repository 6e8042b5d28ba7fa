use Rattle.std.proofs.Common.{◌+◌, ◌-◌, ◌++◌, List, ℕ, ap, ap₂, ◌∙◌, append_assoc}
use Rattle.rz_image.specs.Memory.{zeros}
use Rattle.rz_label.specs.Labelled.{names, names_at, headers_at}
use Rattle.rz_label.proofs.label.push_names.Goals as goal

pub returns : goal.returns
returns c =
    let out = c.args.out.now.items in
    let len = c.args.len in
    let first = c.in_ok-push_zeros.ensures ∙ ap (λ n. out ++ zeros (n - len)) c.names_at-names_at.ensures in
    let second = c.in_ok-extend_from_slice.ensures.items ∙ ap (λ (l : List ℕ). l ++ names) first in
    let third = c.in_ok-push_zeros-2.ensures ∙ ap₂ (λ (l : List ℕ) n. l ++ zeros n) second (ap₂ (λ h n. h - (n + 65)) c.headers_at.ensures c.names_at-names_at.ensures) in
    third
    ∙ append_assoc (out ++ zeros (names_at len - len)) names (zeros (headers_at len - (names_at len + 65)))
    ∙ append_assoc out (zeros (names_at len - len)) (names ++ zeros (headers_at len - (names_at len + 65)))
