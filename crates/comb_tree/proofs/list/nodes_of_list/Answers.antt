use Rattle.std.proofs.Common.{◌∙◌, [], ◌∷◌, ◌++◌, ap}
use Rattle.comb_tree.proofs.Kept.{starts}
use Rattle.comb_tree.proofs.list.nodes_of_list.Goals as goal

pub loop-entry-init : goal.loop-entry-init
loop-entry-init c =
    starts c.args.list.now c.in-Some.first.now c.in-Some.rest.now c.push.new.self.items c.in-Some.ensures.cases.0
    (c.in_ok-push.ensures.items ∙ ap (λ xs. xs ++ c.leaf.result ∷ []) c.new-nodes.ensures.items ∙ ap (λ x. x ∷ []) c.leaf.ensures)
