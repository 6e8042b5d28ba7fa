use Rattle.std.proofs.Common.{ap, ◌∙◌, is_some, ◌==◌}
use Rattle.rz_paths.specs.Laws.Passing.{is_some-position}
use Rattle.rz_paths.proofs.passing.is_start.Goals as goal

pub returns : goal.returns
returns c = c.is_some.ensures ∙ ap is_some c.starts_at.ensures ∙ is_some-position (λ f. f.lo == c.args.a) c.args.classes.now
