use Rattle.std.proofs.Common.{length, ◌≡◌, ◌≤◌, List}
use Rattle.comb_tree.specs.Lists.{tree_of_list}
use Rattle.edit_core.proofs.TreeSteps.{made_tree, few_only}
use Rattle.std.proofs.Common.{subst, ap, ◌∙◌, List}
use Rattle.comb_tree.specs.declared.node.ListEntry.{ListEntry}
use Rattle.command_set.specs.Lawful.{AreNear}
use Rattle.edit_core.proofs.trees.tree_of.Goals as goal

pub returns-in-Ok : goal.returns-in-Ok
returns-in-Ok c =
    let value : c.items.result.now ≡ c.args.list.now = c.items.ensures.value in
    let near : AreNear c.args.list.now = subst AreNear value c.items.ensures.near in
    let made = c.in-Ok.ensures.tree in
    let few : length c.args.list.now ≤ 4096 = subst (λ (l : List ListEntry). length l ≤ 4096) value made.1 in
    (few_only (length c.args.list.now) few, made_tree c.args.list.now c.in-Ok.tree (made.0 ∙ ap tree_of_list value) few near)
