-- What the rewriter uses of a table of instructions.
use Rattle.std.specs.Prelude.{List}
use Rattle.rz_isa.specs.declared.rows.Row.{Row}
use Rattle.rz_isa.specs.Decoded.{decoded}
use Rattle.rz_isa.specs.DecodedLaws.{DecodesExactly}
use Rattle.rz_isa.specs.Emitted.{Emits}
use Rattle.rz_isa.specs.Table.{Lengths}
use Rattle.rz_encode.specs.Laws.{DecodesBack}
use Rattle.rz_encode.specs.Length.{CanonicalLengths}
use Rattle.rz_frag.specs.Fragment.{FragmentsSimulate, FragmentsAreSized}
use Rattle.rz_lookup.specs.Routine.{RoutineLooksUp, RoutineIsSized}
use Rattle.rz_sites.specs.Site.{SitesSimulate, SitesAreSized}

pub record TableFacts (rows : List Row) : Type 0 where
  pub exact : DecodesExactly rows
  pub back : DecodesBack rows
  pub lengths : Lengths rows
  pub short : CanonicalLengths rows
  pub emits : Emits rows
  pub fragments_simulate : FragmentsSimulate (decoded rows) 64
  pub fragments_sized : FragmentsAreSized rows 32
  pub sites_simulate : SitesSimulate (decoded rows)
  pub sites_sized : SitesAreSized rows
  pub routine_looks_up : RoutineLooksUp (decoded rows)
  pub routine_sized : RoutineIsSized rows
