use Rattle.std.proofs.Common.{refl, ap, sym, subst, ◌∙◌}
use Rattle.std.proofs.lemmas.Map.Made.{is_some-lookup}
use Rattle.lru.specs.LruCache.{lru_cache}
use Rattle.tile_cache.specs.Kept.{IsCache}
use Rattle.tile_cache.proofs.Order.{promoted_is, stays}
use Rattle.tile_cache.proofs.Caches.{moved_cache, lookup_named}
use Rattle.tile_cache.proofs.cache.TileCache.find.Goals as goal

pub invariant_of-self : goal.invariant_of-self
invariant_of-self g c =
    let eq = g.K.PartialEq.eq in let named = g.V.Named.named in let laws = g.met.K.Eq.laws in let cache = c.self.inside.cache in
    subst (IsCache eq named) (sym (c.get.follows.holds-at-none ∙ ap (λ es. lru_cache es cache.cap) (promoted_is eq laws c.args.key.now cache.entries c.self.invariant.apart)))
    (moved_cache eq named laws c.args.key.now cache c.self.invariant)

pub returns : goal.returns
returns g c =
    let eq = g.K.PartialEq.eq in let named = g.V.Named.named in let laws = g.met.K.Eq.laws in let cache = c.self.inside.cache in
    rw (← c.self.view_is) (
      (refl, λ _. tt, ap (λ x. x.entries) c.get.follows.holds-at-none ∙ promoted_is eq laws c.args.key.now cache.entries c.self.invariant.apart),
      record {
        moved = tt;
        value = c.get.ensures.value;
        found = rw c.get.ensures.value (is_some-lookup (eq c.args.key.now) cache.entries);
        named = rw c.get.ensures.value (lookup_named eq named laws c.args.key.now cache.entries c.self.invariant.names);
        stays = stays eq c.args.key.now cache.entries;
      },
    )
