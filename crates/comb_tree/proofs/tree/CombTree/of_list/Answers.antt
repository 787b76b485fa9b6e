use Rattle.std.proofs.Common.{◌∙◌, ap}
use Rattle.comb_tree.specs.Meaning.{comb_holds}
use Rattle.comb_tree.proofs.Meant.{list_means}
use Rattle.comb_tree.proofs.tree.CombTree.of_list.Goals as goal

pub returns-clause-meaning : goal.returns-clause-meaning
returns-clause-meaning c values = ap (λ t. comb_holds t values) c.in_ok-tree.ensures ∙ list_means c.args.list.now values
