use Rattle.std.proofs.Common.{List, ℕ, ap, ◌∙◌}
use Rattle.rz_elf.specs.Loaded.{ElfFile}
use Rattle.rz_core.specs.Demonstrated.{said_of}
use Rattle.rz_core.proofs.demo.with_text.Goals as goal

pub returns-clause-text : goal.returns-clause-text
returns-clause-text c =
    let same = ap (λ (e : ElfFile). e.bytes) c.in_ok-new.ensures in
    c.in_ok-text.ensures ∙ ap (λ (w : List ℕ). said_of c.args.count c.args.old.now.bytes c.args.made.report w) same
