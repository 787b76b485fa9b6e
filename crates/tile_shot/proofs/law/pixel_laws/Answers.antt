use Rattle.tile_shot.proofs.TileLaws.{kept_tiles, made_of_kept_tiles}
use Rattle.tile_shot.proofs.law.pixel_laws.Goals as goal

pub returns-clause-tiles : goal.returns-clause-tiles
returns-clause-tiles c = kept_tiles c.kept_laws.ensures.seen

pub returns-clause-picture : goal.returns-clause-picture
returns-clause-picture c = made_of_kept_tiles (kept_tiles c.kept_laws.ensures.seen)
