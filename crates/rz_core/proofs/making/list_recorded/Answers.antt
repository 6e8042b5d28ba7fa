use Rattle.rz_core.proofs.ResultLaws.{if_ok}
use Rattle.rz_core.proofs.making.list_recorded.Goals as goal

pub returns : goal.returns
returns c = if_ok c.listing.result _ _ (λ text e. (c.in_ok-kept.kept, c.in_ok-kept.ensures.keeps, e)) c.listing.ensures.text
