use Rattle.rz_aset.specs.Laws.Places.{found_at}
use Rattle.rz_aset.proofs.addresses.AddrSet.place.Goals as goal

pub returns-in-Some-clause-found : goal.returns-in-Some-clause-found
returns-in-Some-clause-found c =
    rw (← c.self.view_is, c.in-Some.is, c.get_index_of.ensures.index, c.deref.ensures) (found_at c.in-Some.items.value.keys c.args.x)
