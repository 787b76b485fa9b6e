use Rattle.std.proofs.Common.{◌∙◌, [], length, map, reverse, ap, sym, subst, arith}
use Rattle.std.specs.List.{filter}
use Rattle.scene_prep.specs.Parts.{nodes_behind, is_join}
use Rattle.scene_prep.proofs.Parts.{AreNumbered, none_numbered, left_at, numbered_at, numbered_end, all_numbered}
use Rattle.scene_prep.proofs.part.parts_of.Goals as goal

pub loop-tree-init : goal.loop-tree-init
loop-tree-init c =
    let trees = c.deref-tree-items.result.now in
    subst (λ ps. AreNumbered ps c.count_joins-left.result [] trees) (sym c.new-parts.ensures.items)
    (none_numbered c.count_joins-left.result trees (c.count_joins-left.ensures ∙ ap (λ xs. length (filter is_join xs)) (c.deref.ensures.value ∙ sym c.deref-tree-items.ensures.value)))

pub loop-tree-preserved : goal.loop-tree-preserved
loop-tree-preserved c =
    numbered_at c.loop-tree.parts.items c.push.new.self.items c.loop-tree.left c.from-left.result c.deref-tree-items.result.now c.loop-tree.tree-index c.tree-item.result c.part_of.result c.loop-tree-test.true c.tree-item.is
    c.part_of.ensures c.in_ok-push.ensures.items c.from-left.ensures c.loop-tree.invariant

pub overflow_sub-left : goal.overflow_sub-left
overflow_sub-left c =
    let there = left_at c.loop-tree.parts.items c.loop-tree.left c.deref-tree-items.result.now c.loop-tree.tree-index c.tree-item.result c.loop-tree-test.true c.tree-item.is c.loop-tree.invariant in
    omega (arith, there, c.from-left.ensures)

pub returns : goal.returns
returns c =
    let trees = c.deref-tree-items.result.now in
    λ t is. all_numbered c.loop-tree.parts.items c.loop-tree.left trees t (numbered_end c.loop-tree.parts.items c.loop-tree.left trees c.loop-tree.tree-index c.loop-tree-test.false c.loop-tree.invariant)
    (ap (λ xs. map nodes_behind (reverse xs)) c.deref-tree-items.ensures.value ∙ c.in_ok-trees.ensures.trees t is)
