use Rattle.std.proofs.Common.{◌≡◌, rules}
use Rattle.object_set.specs.declared.object.Body.TheVariants.{Comb}
use Rattle.object_pages.proofs.MemberLemmas.{comb_names}
use Rattle.object_pages.proofs.members.nodes_of.Goals as goal

pub returns-in-Comb-clause-names : goal.returns-in-Comb-clause-names
returns-in-Comb-clause-names c =
    let is : c.args.object.now.body ≡ Comb c.in-Comb.attr c.in-Comb.tree = search rules in
    comb_names c.args.object.now.body c.in-Comb.attr c.in-Comb.tree c.nodes.result.now is c.nodes.ensures.tree
