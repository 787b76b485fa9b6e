use Rattle.std.proofs.Common.{◌≡◌, ◌<◌, ◌+◌, ◌∙◌, ◌∷◌, ◌++◌, [], All, length, get_or, drop, ap, sym, subst, arith}
use Rattle.std.proofs.lemmas.List.{append_assoc, drop_more, take_all, length-append, length-map}
use Rattle.std.proofs.lemmas.List.Elements.{All-more}
use Rattle.shot_core.specs.Regions.{Region, RegionBody, HasLeavesBelow, HaveInstances, HavePlacedSolids, IsPlacedSolid, firsts_from, instances_of}
use Rattle.shot_core.specs.Prepared.{instance_of}
use Rattle.shot_core.proofs.scene.firsts_of.Goals as goal

pub loop-region-preserved : goal.loop-region-preserved
loop-region-preserved c =
    let regions = c.args.regions.now in
    let i = c.loop-region.region-index in
    let region = c.region-item.result in
    let rest = drop (i + 1) regions in
    let lt : i < length regions = omega (arith, c.loop-region-test.true) in
    let is : region ≡ get_or regions i region = c.region-item.is in
    let at : drop i regions ≡ region ∷ rest = drop_more regions i region lt ∙ ap (λ (x : Region). x ∷ rest) (sym is) in
    let body : c.deref.result.now ≡ region.body = c.deref.ensures ∙ c.body.ensures in
    let count : length c.solids.result.now ≡ length region.body.instances = sym (length-map c.solids.result.now instance_of) ∙ ap length (c.solids.ensures.value ∙ ap (λ (b : RegionBody). b.instances) body) in
    record {
      firsts = ap (λ l. l ++ firsts_from (c.loop-region.first + length c.solids.result.now) rest) c.in_ok-push.ensures.items
          ∙ append_assoc c.loop-region.firsts.items (c.loop-region.first ∷ []) (firsts_from (c.loop-region.first + length c.solids.result.now) rest)
          ∙ ap (λ n. c.loop-region.firsts.items ++ (c.loop-region.first ∷ firsts_from (c.loop-region.first + n) rest)) count
          ∙ ap (λ l. c.loop-region.firsts.items ++ firsts_from c.loop-region.first l) (sym at)
          ∙ c.loop-region.invariant.firsts;
      left = omega (arith, count, ap (λ l. length (instances_of l)) at, length-append region.body.instances (instances_of rest), c.loop-region.invariant.left);
      leaves = All-more (λ (r : Region). HasLeavesBelow (length r.body.instances) r.body.tree) regions i region lt c.loop-region.invariant.leaves
          (subst (λ (r : Region). HasLeavesBelow (length r.body.instances) r.body.tree) is (subst (λ (b : RegionBody). HasLeavesBelow (length b.instances) b.tree) body c.solids.ensures.leaves));
      placed = All-more (λ (r : Region). All IsPlacedSolid r.body.instances) regions i region lt c.loop-region.invariant.placed
          (subst (λ (r : Region). All IsPlacedSolid r.body.instances) is (subst (λ (b : RegionBody). All IsPlacedSolid b.instances) body c.solids.ensures.placed));
    }

pub returns-clause-leaves : goal.returns-clause-leaves
returns-clause-leaves c = subst HaveInstances (take_all c.loop-region.region-index c.args.regions.now (omega (arith, c.loop-region-test.false))) c.loop-region.invariant.leaves

pub returns-clause-placed : goal.returns-clause-placed
returns-clause-placed c = subst HavePlacedSolids (take_all c.loop-region.region-index c.args.regions.now (omega (arith, c.loop-region-test.false))) c.loop-region.invariant.placed
