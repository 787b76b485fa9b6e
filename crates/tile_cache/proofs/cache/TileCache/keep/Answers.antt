use Rattle.std.proofs.Common.{ap, sym, subst, ◌∙◌}
use Rattle.lru.specs.LruCache.{lru_cache}
use Rattle.tile_cache.specs.Kept.{IsCache}
use Rattle.tile_cache.proofs.Caches.{put_is, put_cache}
use Rattle.tile_cache.proofs.cache.TileCache.keep.Goals as goal

pub invariant_of-self-2 : goal.invariant_of-self-2
invariant_of-self-2 g c =
    let eq = g.K.PartialEq.eq in let named = g.V.Named.named in let cache = c.self.inside.cache in let fresh = rw (← c.self.view_is) at c.requires.fresh in
    subst (IsCache eq named) (sym (c.in_ok-put.ensures.entries ∙ ap (λ es. lru_cache es cache.cap) (put_is eq named cache c.args.key c.args.value c.self.invariant.room fresh)))
    (put_cache eq named cache c.args.key c.args.value c.self.invariant c.requires.named fresh)

pub returns-clause-kept : goal.returns-clause-kept
returns-clause-kept g c =
    let fresh = rw (← c.self.view_is) at c.requires.fresh in
    rw (← c.self.view_is) (ap (λ c. c.entries) c.in_ok-put.ensures.entries ∙ put_is g.K.PartialEq.eq g.V.Named.named c.self.inside.cache c.args.key c.args.value c.self.invariant.room fresh)
