use Rattle.std.proofs.Common.{◌≡◌, rules}
use Rattle.object_set.specs.declared.object.Body.TheVariants.{Comb}
use Rattle.directory.specs.Depths.{depth_kept}
use Rattle.directory.proofs.RoundLemmas.{over_below, over_deep}
use Rattle.directory.proofs.depths.Depths.over.Goals as goal

pub returns-then-below-lt-UNBOUNDED : goal.returns-then-below-lt-UNBOUNDED
returns-then-below-lt-UNBOUNDED c =
    let is : c.args.object.now.body ≡ Comb c.in-Comb.attr c.in-Comb.tree = search rules in
    over_below (depth_kept c.args.self.now) c.args.object.now c.in-Comb.attr c.in-Comb.tree c.nodes.result.now c.deepest_of-below.result is c.nodes.ensures.tree c.deepest_of-below.ensures c.if-below-lt-UNBOUNDED.true

pub returns-else-below-lt-UNBOUNDED : goal.returns-else-below-lt-UNBOUNDED
returns-else-below-lt-UNBOUNDED c =
    let is : c.args.object.now.body ≡ Comb c.in-Comb.attr c.in-Comb.tree = search rules in
    over_deep (depth_kept c.args.self.now) c.args.object.now c.in-Comb.attr c.in-Comb.tree c.nodes.result.now c.deepest_of-below.result is c.nodes.ensures.tree c.deepest_of-below.ensures c.if-below-lt-UNBOUNDED.false
