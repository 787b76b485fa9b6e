use Rattle.std.proofs.Common.{◌≡◌, ◌∙◌, ◌+◌, ◌∷◌, ◌++◌, [], List, take, ap, sym, subst}
use Rattle.std.specs.Prelude.{All}
use Rattle.std.proofs.lemmas.List.{take_more}
use Rattle.scene_prep.specs.declared.part.Part.{Part}
use Rattle.scene_prep.proofs.Tasks.{IsNearPart, near_parts, Pushed, pushed_next}
use Rattle.scene_prep.proofs.walk.push_parts.Goals as goal

pub task_of-requires-clause-leaf : goal.task_of-requires-clause-leaf
task_of-requires-clause-leaf c =
    let near : All IsNearPart c.in_ok-parts.parts.items =
    near_parts c.requires.tree.0 c.args.nodes.now c.in_ok-parts.parts.items c.requires.tree.1 (c.in_ok-parts.ensures c.requires.tree.0 c.requires.tree.1) c.requires.near in
    let all : All IsNearPart c.deref-part-items.result.now = subst (λ (ps : List Part). All IsNearPart ps) (sym c.deref-part-items.ensures.value) near in
    subst IsNearPart (sym c.part-item.is) (all c.loop-part.part-index c.part-item.result c.loop-part-test.true)

pub loop-part-preserved : goal.loop-part-preserved
loop-part-preserved c =
    let more : take (c.loop-part.part-index + 1) c.deref-part-items.result.now ≡ take c.loop-part.part-index c.deref-part-items.result.now ++ c.part-item.result ∷ [] =
    take_more c.deref-part-items.result.now c.loop-part.part-index c.part-item.result c.loop-part-test.true
    ∙ ap (λ (p : Part). take c.loop-part.part-index c.deref-part-items.result.now ++ p ∷ []) (sym c.part-item.is) in
    subst (λ (ps : List Part). Pushed c.args.comb.now c.args.context.now ps c.args.tasks.now.items c.push.new.self.items) (sym more)
    (pushed_next c.args.comb.now c.args.context.now (take c.loop-part.part-index c.deref-part-items.result.now) c.args.tasks.now.items c.loop-part.tasks.items c.push.new.self.items c.part-item.result c.in_ok-task_of.field-0
    c.loop-part.invariant c.in_ok-push.ensures.items c.in_ok-task_of.ensures)
