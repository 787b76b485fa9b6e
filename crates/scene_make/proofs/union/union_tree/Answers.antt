use Rattle.std.proofs.Common.{◌≡◌, ◌∙◌, ap, arith, length}
use Rattle.std.proofs.lemmas.Result.{IfOk-weaker}
use Rattle.comb_tree.specs.declared.node.ListEntry.{ListEntry}
use Rattle.comb_tree.specs.Lists.{tree_of_list}
use Rattle.scene_make.specs.Steps.{entries_to}
use Rattle.scene_make.proofs.UnionLaws.{entries_count, union_read}
use Rattle.scene_make.proofs.union.union_tree.Goals as goal

pub tree_of-requires : goal.tree_of-requires
tree_of-requires c =
    let list : c.deref.result.now ≡ entries_to 1000 = c.deref.ensures.value ∙ c.in_ok-list.ensures in
    omega (arith, ap (length {A = ListEntry}) list, entries_count 1000)

pub returns : goal.returns
returns c =
    let list : c.deref.result.now ≡ entries_to 1000 = c.deref.ensures.value ∙ c.in_ok-list.ensures in
    IfOk-weaker c.tree_of.result _ _ (λ t e. e ∙ ap tree_of_list list ∙ union_read 999) c.tree_of.ensures
