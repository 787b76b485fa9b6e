use Rattle.std.proofs.Common.{ap, ◌∙◌, []}
use Rattle.lru.specs.LruCache.{lru_cache}
use Rattle.tile_cache.proofs.Caches.{empty_cache}
use Rattle.tile_cache.proofs.cache.TileCache.new.Goals as goal

pub invariant_of-result : goal.invariant_of-result
invariant_of-result g c = empty_cache g.K.PartialEq.eq g.V.Named.named c.in_ok-cache.cache (c.in_ok-cache.ensures ∙ ap (λ n. lru_cache [] n) c.capacity.ensures)
