use Rattle.std.proofs.Common.{◌≡◌, List}
use Rattle.comb_tree.specs.Lists.{tree_of_list}
use Rattle.comb_tree.specs.Changes.{without, is_among}
use Rattle.edit_core.specs.Steps.{Answers, list_or_empty, IsLess, remove_refusal}
use Rattle.edit_core.proofs.TreeSteps.{remove_answers}
use Rattle.std.proofs.Common.{subst, sym, Result, List}
use Rattle.name_core.specs.declared.name.Name.{Name}
use Rattle.comb_tree.specs.Nodes.{Comb}
use Rattle.comb_tree.specs.Outcomes.{IsRemoved}
use Rattle.command_set.specs.declared.refusal.Refusal.{Refusal}
use Rattle.edit_core.proofs.trees.tree_without.Goals as goal

pub returns : goal.returns
returns c =
    let same : c.in-Ok.left ≡ c.args.tree.now = c.in-Ok.ensures in
    let P : Comb → Type 0 = λ t. IsRemoved c.remove-removed.result t c.args.names.now c.remove-removed.new.self in
    let Q : List Name → Type 0 = λ l. IsRemoved c.remove-removed.result c.in-Ok.left l c.remove-removed.new.self in
    let removed : IsRemoved c.remove-removed.result c.args.tree.now c.args.names.now c.remove-removed.new.self = subst P same (subst Q c.items.ensures.value c.remove-removed.ensures) in
    let R : Result Comb Refusal → Type 0 = Answers (remove_refusal c.args.name.now c.args.names.now c.args.tree.now) (IsLess c.args.tree.now (tree_of_list (without (is_among c.args.names.now) (list_or_empty c.args.tree.now)))) in
    subst R (sym c.tree_answer.ensures) (remove_answers c.args.name.now c.args.names.now c.args.tree.now c.remove-removed.new.self c.remove-removed.result c.requires removed)
