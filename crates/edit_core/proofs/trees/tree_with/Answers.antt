use Rattle.std.proofs.Common.{◌++◌, ◌≡◌, List}
use Rattle.comb_tree.specs.Lists.{tree_of_list}
use Rattle.edit_core.specs.Steps.{Answers, list_or_empty, IsTree, append_refusal}
use Rattle.edit_core.proofs.TreeSteps.{append_answers}
use Rattle.std.proofs.Common.{subst, sym, Result, List}
use Rattle.comb_tree.specs.declared.node.ListEntry.{ListEntry}
use Rattle.comb_tree.specs.Nodes.{Comb}
use Rattle.comb_tree.specs.Outcomes.{IsAppended}
use Rattle.command_set.specs.Lawful.{AreNear}
use Rattle.command_set.specs.declared.refusal.Refusal.{Refusal}
use Rattle.edit_core.proofs.trees.tree_with.Goals as goal

pub returns : goal.returns
returns c =
    let same : c.in-Ok.longer ≡ c.args.tree.now = c.in-Ok.ensures in
    let near : AreNear c.args.list.now = subst AreNear c.items.ensures.value c.items.ensures.near in
    let P : Comb → Type 0 = λ t. IsAppended c.append-appended.result t c.args.list.now c.append-appended.new.self in
    let Q : List ListEntry → Type 0 = λ l. IsAppended c.append-appended.result c.in-Ok.longer l c.append-appended.new.self in
    let appended : IsAppended c.append-appended.result c.args.tree.now c.args.list.now c.append-appended.new.self = subst P same (subst Q c.items.ensures.value c.append-appended.ensures.answer) in
    let R : Result Comb Refusal → Type 0 = Answers (append_refusal c.args.name.now c.args.list.now c.args.tree.now) (IsTree (tree_of_list (list_or_empty c.args.tree.now ++ c.args.list.now))) in
    subst R (sym c.tree_answer.ensures) (append_answers c.args.name.now c.args.list.now c.args.tree.now c.append-appended.new.self c.append-appended.result c.requires near appended)
