use Rattle.std.proofs.Common.{refl}
use Rattle.rz_paths.specs.Laws.Listing.{program_is}
use Rattle.rz_paths.proofs.listing.node_of.Goals as goal

pub returns-in-Insn : goal.returns-in-Insn
returns-in-Insn g c = rw (program_is, ← c.decoded_at.ensures, c.in-Insn.is, c.kind.ensures, c.target.ensures) refl

pub returns-in-Short : goal.returns-in-Short
returns-in-Short g c = rw (program_is, ← c.decoded_at.ensures, c.in-Short.is) refl

pub returns-in-Unknown : goal.returns-in-Unknown
returns-in-Unknown g c = rw (program_is, ← c.decoded_at.ensures, c.in-Unknown.is) refl
