use Rattle.std.proofs.Common.{◌≡◌, ◌∙◌, ◌++◌, ap}
use Rattle.comb_tree.specs.Lists.{tree_of_list, HasList}
use Rattle.comb_tree.proofs.Appended.{appended_means}
use Rattle.comb_tree.proofs.tree.CombTree.append.Goals as goal

pub returns-clause-united : goal.returns-clause-united
returns-clause-united c =
    let own : HasList c.args.self.now c.in-Some.whole.items = rw c.in-Some.is at c.in_ok-whole.ensures.ok in
    let made : c.in_ok-self.field-0 ≡ tree_of_list (c.in-Some.whole.items ++ c.args.list.now) = c.in_ok-self.ensures ∙ ap tree_of_list (c.deref.ensures.value ∙ c.in_ok-extend_from_slice.ensures.items) in
    appended_means c.args.self.now c.in_ok-self.field-0 c.in-Some.whole.items c.args.list.now own made
