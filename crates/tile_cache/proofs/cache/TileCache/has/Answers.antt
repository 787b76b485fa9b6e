use Rattle.std.proofs.Common.{◌∙◌}
use Rattle.std.proofs.lemmas.Map.Made.{is_some-lookup}
use Rattle.tile_cache.proofs.cache.TileCache.has.Goals as goal

pub returns : goal.returns
returns g c = rw (← c.self.view_is) (c.contains.ensures ∙ is_some-lookup (g.K.PartialEq.eq c.args.key.now) c.self.inside.cache.entries)
