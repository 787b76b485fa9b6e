use Rattle.std.proofs.Common.{◌≡◌, rules}
use Rattle.object_set.specs.declared.object.Body.TheVariants.{Comb}
use Rattle.object_pages.proofs.MemberLemmas.{counted_in}
use Rattle.object_pages.proofs.members.leaves_named.Goals as goal

pub returns-in-Comb : goal.returns-in-Comb
returns-in-Comb c =
    let is : c.args.object.now.body ≡ Comb c.in-Comb.attr c.in-Comb.tree = search rules in
    counted_in c.args.name.now c.args.object.now.body c.in-Comb.attr c.in-Comb.tree c.nodes.result.now c.count_named.result is c.nodes.ensures.tree c.count_named.ensures
