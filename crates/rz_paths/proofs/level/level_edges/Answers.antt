use Rattle.rz_paths.specs.Laws.Plausible.{sound_joined}
use Rattle.rz_paths.proofs.level.level_edges.Goals as goal

pub kept_edges-requires : goal.kept_edges-requires
kept_edges-requires g c = sound_joined _ _ _ _ c.requires.sound c.requires.kept
