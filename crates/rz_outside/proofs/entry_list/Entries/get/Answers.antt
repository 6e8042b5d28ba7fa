use Rattle.std.proofs.Common.{rules}
use Rattle.rz_outside.proofs.Lookups.{contents_at, contents_nowhere}
use Rattle.rz_outside.proofs.entry_list.Entries.get.Goals as goal

pub returns-in_err-at-clause-missing : goal.returns-in_err-at-clause-missing
returns-in_err-at-clause-missing c = search (rules, contents_nowhere)

pub returns-clause-found : goal.returns-clause-found
returns-clause-found c = search (rules, contents_at)
