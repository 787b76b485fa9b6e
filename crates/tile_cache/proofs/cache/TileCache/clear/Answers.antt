use Rattle.std.proofs.Common.{ap, ◌∙◌, []}
use Rattle.lru.specs.LruCache.{lru_cache}
use Rattle.tile_cache.proofs.Caches.{empty_cache}
use Rattle.tile_cache.proofs.cache.TileCache.clear.Goals as goal

pub invariant_of-self : goal.invariant_of-self
invariant_of-self g c = empty_cache g.K.PartialEq.eq g.V.Named.named c.clear.new.self (c.clear.ensures ∙ ap (λ n. lru_cache [] n) c.self.invariant.room)
