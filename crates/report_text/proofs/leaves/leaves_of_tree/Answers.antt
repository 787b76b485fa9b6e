use Rattle.std.proofs.Common.{◌∙◌, ◌∷◌, [], ap, reverse, List}
use Rattle.comb_tree.specs.declared.node.CombNode.{CombNode}
use Rattle.tree_forms.specs.declared.Op.TheVariants.{U}
use Rattle.report_text.specs.Steps.{found_in}
use Rattle.report_text.proofs.LeafLaws.{comb_found}
use Rattle.report_text.proofs.leaves.leaves_of_tree.Goals as goal

pub returns : goal.returns
returns c =
    c.reverse.ensures.items
    ∙ ap reverse (c.in_ok-found.ensures ∙ ap (λ (nodes : List CombNode). found_in (reverse nodes) (U ∷ [])) c.nodes.ensures.tree)
    ∙ comb_found c.args.tree.now
