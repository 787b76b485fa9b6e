use Rattle.std.proofs.Common.{◌≡◌, ◌+◌, ◌∙◌, ◌∷◌, length, map, drop, ap, sym, arith}
use Rattle.std.proofs.lemmas.List.{drop_more, length-map}
use Rattle.shot_core.specs.Prepared.{instance_of}
use Rattle.shot_core.specs.Regions.{Region, RegionBody}
use Rattle.slant_ray.specs.Rays.{direction_of}
use Rattle.oblique_ray.proofs.PieceLaws.{next_found, next_count}
use Rattle.oblique_ray.proofs.piece.pieces_of_all.Goals as goal

pub loop-region-preserved : goal.loop-region-preserved
loop-region-preserved c =
    let rs = c.regions-region-items.result.now in
    let i = c.loop-region.region-index in
    let r = c.region-item.result in
    let xs = map instance_of c.solids-solids.result.now in
    let n = length c.solids-solids.result.now in
    let at : drop c.loop-region.region-index c.regions-region-items.result.now ≡ c.region-item.result ∷ drop (c.loop-region.region-index + 1) c.regions-region-items.result.now =
    drop_more c.regions-region-items.result.now c.loop-region.region-index c.region-item.result (omega (arith, c.loop-region-test.true))
    ∙ ap (λ (x : Region). x ∷ drop (c.loop-region.region-index + 1) c.regions-region-items.result.now) (sym c.region-item.is) in
    let items : map instance_of c.solids-solids.result.now ≡ c.region-item.result.body.instances = c.solids-solids.ensures.value ∙ ap (λ (b : RegionBody). b.instances) (c.deref.ensures ∙ c.body.ensures) in
    let count : length (map instance_of c.solids-solids.result.now) ≡ length c.solids-solids.result.now = length-map c.solids-solids.result.now instance_of in
    record {
      made = next_found r (drop (i + 1) rs) (drop i rs) xs n at items count c.args.ray.now.origin (direction_of c.args.ray.now) c.loop-region.first _ _ _ c.in_ok-add_pieces.ensures.pieces c.loop-region.invariant.made;
      range = c.in_ok-add_pieces.ensures.range;
      left = omega (arith, c.loop-region.invariant.left, next_count r (drop (i + 1) rs) (drop i rs) xs n at items count);
    }
