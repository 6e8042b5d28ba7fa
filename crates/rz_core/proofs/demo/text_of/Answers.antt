use Rattle.std.proofs.Common.{List, ℕ, ◌++◌, ap, ap₂, ◌∙◌}
use Rattle.std.specs.Prelude.{string_bytes}
use Rattle.rz_core.proofs.DemoLaws.{said_is}
use Rattle.rz_core.proofs.demo.text_of.Goals as goal

pub returns : goal.returns
returns c =
    let lines = c.in_ok-text.text in
    let joined =
    c.in_ok-push_all-2.ensures.ok
    ∙ ap₂ (λ (a b : List ℕ). a ++ b) (c.in_ok-push_all.ensures.ok ∙ ap (λ (r : List ℕ). lines ++ r) c.as_slice.ensures.value) c.as_bytes.ensures.value
    in
    said_is c.args.count c.args.old.now.bytes c.args.new.now.bytes c.args.report.now lines (string_bytes c.in_ok-compared.compared) c.push_all-2.new.self
    c.in_ok-text.ensures c.in_ok-compared.ensures joined
