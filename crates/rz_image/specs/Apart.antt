-- Memory of which no byte may be both written and executed, region by region.
use Rattle.std.specs.Prelude.{Bool, ◌&&◌, not}
use Rattle.std.specs.List.{list_all}
use Rattle.rz_image.specs.Perm.{writes, executes}
use Rattle.rz_image.specs.declared.region.Region.{Region}
use Rattle.rz_image.specs.Memory.{Regions}

-- whether a region may not be both written and executed
abbrev pub is_apart : Region → Bool
is_apart r = not (writes r.perm && executes r.perm)

-- whether no region may
abbrev pub are_apart : Regions → Bool
are_apart m = list_all is_apart m
