use Rattle.std.proofs.Common.{◌≡◌, ◌∙◌, ◌<◌, Some, None, length, take, refl, ap, sym, subst, arith, rules}
use Rattle.std.specs.Option.{option_copied}
use Rattle.std.proofs.lemmas.Bool.{eqb-true, eqb-false}
use Rattle.std.proofs.lemmas.Result.{IfOk-weaker}
use Rattle.std.proofs.Math.Seq.{take-length}
use Rattle.comb_tree.specs.Nodes.{comb_nodes}
use Rattle.comb_tree.specs.declared.node.CombNode.TheVariants.{Leaf}
use Rattle.object_set.specs.Objects.{IsBody, IsComb}
use Rattle.object_set.specs.declared.object.Body.TheVariants.{Solid, Comb}
use Rattle.directory.specs.Walks.{object_of}
use Rattle.scene_prep.specs.Expanding.{expanded}
use Rattle.scene_prep.specs.Sizes.{size_of_name, most_size}
use Rattle.scene_prep.specs.Levels.{StandsWithin, nodes_size}
use Rattle.scene_prep.specs.Writing.{WritesNode}
use Rattle.scene_prep.proofs.Sizing.{solid_sized, comb_sized, comb_deep, comb_stands_below, some_of}
use Rattle.scene_prep.proofs.Expansions.{missing_written, solid_written, empty_written, comb_written, above_again}
use Rattle.scene_prep.proofs.Writing.{HasWritten, writes_composed, next_written, all_written, room_next}
use Rattle.scene_prep.proofs.expand.+expand.Goals as goal

pub expand_name-push_solid-requires-clause-room : goal.expand_name-push_solid-requires-clause-room
expand_name-push_solid-requires-clause-room t c =
    let is : object_of c.args.directory.now.objects c.args.name.now ≡ Some c.in-Some.object.now = sym c.get.ensures ∙ ap option_copied c.in-Some.is in
    let at : c.in-Some.object.now.body ≡ Solid c.in-Solid.solid = search rules in
    let one : size_of_name c.args.directory.now.objects c.args.name.now ≡ 1 = solid_sized c.args.directory.now.objects c.args.name.now c.in-Some.object.now (Solid c.in-Solid.solid) c.requires.sound is at refl in
    omega (arith, c.requires.room, one)

pub expand_name-returns-in-None : goal.expand_name-returns-in-None
expand_name-returns-in-None t c =
    let is : object_of c.args.directory.now.objects c.args.name.now ≡ None = sym c.get.ensures ∙ ap option_copied c.in-None.is in
    IfOk-weaker c.push_node-in-None.result _ _ (λ _ w. missing_written c.args.directory.now.objects c.args.name.now c.args.by.now c.args.out.now c.push_node-in-None.new.self c.requires.sound is w) c.push_node-in-None.ensures

pub expand_name-returns-in-Solid : goal.expand_name-returns-in-Solid
expand_name-returns-in-Solid t c =
    let is : object_of c.args.directory.now.objects c.args.name.now ≡ Some c.in-Some.object.now = sym c.get.ensures ∙ ap option_copied c.in-Some.is in
    let at : c.in-Some.object.now.body ≡ Solid c.in-Solid.solid = search rules in
    IfOk-weaker c.push_solid.result _ _
    (λ _ w. solid_written c.args.directory.now.objects c.args.name.now c.in-Some.object.now c.in-Solid.solid c.args.by.now c.args.out.now c.push_solid.new.self c.requires.sound is at w) c.push_solid.ensures

pub expand_name-returns-then-is_empty : goal.expand_name-returns-then-is_empty
expand_name-returns-then-is_empty t c =
    let is : object_of c.args.directory.now.objects c.args.name.now ≡ Some c.in-Some.object.now = sym c.get.ensures ∙ ap option_copied c.in-Some.is in
    let at : c.in-Some.object.now.body ≡ Comb c.in-Comb.attr c.in-Comb.tree = search rules in
    let none : length c.nodes-nodes.result.now ≡ 0 = eqb-true (length c.nodes-nodes.result.now) 0 (sym c.is_empty.ensures ∙ c.if-is_empty.true) in
    IfOk-weaker c.push_node.result _ _
    (λ _ w. empty_written c.args.directory.now.objects c.args.name.now c.in-Some.object.now c.in-Comb.attr c.in-Comb.tree c.args.by.now c.args.out.now c.push_node.new.self c.requires.sound is at (sym (ap length c.nodes-nodes.ensures.tree) ∙ none) w)
    c.push_node.ensures

pub expand_name-overflow_sub-levels : goal.expand_name-overflow_sub-levels
expand_name-overflow_sub-levels t c =
    let is : object_of c.args.directory.now.objects c.args.name.now ≡ Some c.in-Some.object.now = sym c.get.ensures ∙ ap option_copied c.in-Some.is in
    let at : c.in-Some.object.now.body ≡ Comb c.in-Comb.attr c.in-Comb.tree = search rules in
    let deep : 0 < c.args.levels = comb_deep c.args.directory.now.objects c.args.levels c.args.name.now c.in-Some.object.now c.in-Comb.attr c.in-Comb.tree is at c.requires.shallow in
    omega (arith, deep)

pub expand_name-expand_nodes-requires : goal.expand_name-expand_nodes-requires
expand_name-expand_nodes-requires t c =
    let is : object_of c.args.directory.now.objects c.args.name.now ≡ Some c.in-Some.object.now = sym c.get.ensures ∙ ap option_copied c.in-Some.is in
    let at : c.in-Some.object.now.body ≡ Comb c.in-Comb.attr c.in-Comb.tree = search rules in
    let deep : 0 < c.args.levels = comb_deep c.args.directory.now.objects c.args.levels c.args.name.now c.in-Some.object.now c.in-Comb.attr c.in-Comb.tree is at c.requires.shallow in
    let lawful : IsComb c.in-Comb.attr c.in-Comb.tree = subst IsBody (c.body.ensures.value ∙ at) c.body.ensures.lawful in
    let some : 0 < length c.nodes-nodes.result.now = some_of (length c.nodes-nodes.result.now) (eqb-false (length c.nodes-nodes.result.now) 0 (sym c.is_empty.ensures ∙ c.if-is_empty.false)) in
    let there : 0 < length (comb_nodes c.in-Comb.tree) = subst (λ ns. 0 < length ns) c.nodes-nodes.ensures.tree some in
    let whole : size_of_name c.args.directory.now.objects c.args.name.now ≡ nodes_size c.args.directory.now.objects c.nodes-nodes.result.now =
    comb_sized c.args.directory.now.objects c.args.name.now c.in-Some.object.now c.in-Comb.attr c.in-Comb.tree c.requires.sound is at there ∙ sym (ap (nodes_size c.args.directory.now.objects) c.nodes-nodes.ensures.tree) in (
      omega (arith, c.decreases, deep),
      (
        c.requires.sound,
        (
          comb_stands_below c.args.directory.now.objects c.args.levels c.args.name.now c.in-Some.object.now c.in-Comb.attr c.in-Comb.tree c.nodes-nodes.result.now is at lawful c.nodes-nodes.ensures.tree c.requires.shallow deep,
          (above_again c.args.levels c.args.by.now deep c.requires.by, omega (arith, c.requires.room, whole)),
        ),
      ),
    )

pub expand_name-returns-else-is_empty : goal.expand_name-returns-else-is_empty
expand_name-returns-else-is_empty t c =
    let is : object_of c.args.directory.now.objects c.args.name.now ≡ Some c.in-Some.object.now = sym c.get.ensures ∙ ap option_copied c.in-Some.is in
    let at : c.in-Some.object.now.body ≡ Comb c.in-Comb.attr c.in-Comb.tree = search rules in
    let some : 0 < length c.nodes-nodes.result.now = some_of (length c.nodes-nodes.result.now) (eqb-false (length c.nodes-nodes.result.now) 0 (sym c.is_empty.ensures ∙ c.if-is_empty.false)) in
    IfOk-weaker c.expand_nodes.result _ _
    (λ _ h. comb_written c.args.directory.now.objects c.args.name.now c.in-Some.object.now c.in-Comb.attr c.in-Comb.tree c.nodes-nodes.result.now c.args.by.now c.args.out.now c.expand_nodes.new.out c.requires.sound is at c.nodes-nodes.ensures.tree some h)
    c.expand_nodes.ensures

pub expand_node-returns-in-Leaf : goal.expand_node-returns-in-Leaf
expand_node-returns-in-Leaf t c =
    let is : c.args.node.now ≡ Leaf c.in-Leaf.name c.in-Leaf.placement = search rules in
    IfOk-weaker c.expand_name.result _ _
    (λ _ w. subst (λ n. WritesNode c.args.directory.now.objects c.args.by.now c.args.out.now c.expand_name.new.out n) (sym is)
    (writes_composed c.args.out.now c.expand_name.new.out c.placed_below-by.result c.args.by.now c.in-Leaf.placement c.placed_below-by.ensures.composed (expanded c.args.directory.now.objects c.in-Leaf.name) w))
    c.expand_name.ensures

pub expand_nodes-expand_node-requires : goal.expand_nodes-expand_node-requires
expand_nodes-expand_node-requires t c = (
  omega (arith, c.decreases),
  (
    c.requires.sound,
    (
      subst (StandsWithin c.args.directory.now.objects c.args.levels) (sym c.node-item.is) (c.requires.within c.loop-node.node-index c.node-item.result c.loop-node-test.true),
      (
        c.requires.by,
        room_next c.args.directory.now.objects c.args.by.now c.args.out.now c.loop-node.out c.args.nodes.now c.loop-node.node-index most_size c.node-item.result c.loop-node-test.true c.node-item.is c.loop-node.invariant c.requires.room,
      ),
    ),
  ),
)

pub expand_nodes-loop-node-preserved : goal.expand_nodes-loop-node-preserved
expand_nodes-loop-node-preserved t c =
    next_written c.args.directory.now.objects c.args.by.now c.args.out.now c.loop-node.out c.expand_node.new.out c.args.nodes.now c.loop-node.node-index c.node-item.result c.loop-node-test.true c.node-item.is c.loop-node.invariant
    c.in_ok-expand_node.ensures

pub expand_nodes-returns : goal.expand_nodes-returns
expand_nodes-returns t c =
    let end : c.loop-node.node-index ≡ length c.args.nodes.now = omega arith in
    let whole : take c.loop-node.node-index c.args.nodes.now ≡ c.args.nodes.now = ap (λ n. take n c.args.nodes.now) end ∙ take-length c.args.nodes.now in
    λ tree is. all_written c.args.directory.now.objects c.args.by.now c.args.out.now c.loop-node.out c.args.nodes.now tree is
    (subst (HasWritten c.args.directory.now.objects c.args.by.now c.args.out.now c.loop-node.out) whole c.loop-node.invariant)
