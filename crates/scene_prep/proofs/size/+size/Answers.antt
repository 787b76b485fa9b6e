use Rattle.std.proofs.Common.{◌≡◌, ◌∙◌, ◌<◌, Some, None, length, refl, ap, sym, subst, arith, rules}
use Rattle.std.specs.Option.{option_copied}
use Rattle.std.proofs.lemmas.Bool.{eqb-true, eqb-false}
use Rattle.std.proofs.lemmas.Result.{IfOk-weaker}
use Rattle.comb_tree.specs.Nodes.{comb_nodes}
use Rattle.object_set.specs.Objects.{IsBody, IsComb}
use Rattle.object_set.specs.declared.object.Body.TheVariants.{Solid, Comb}
use Rattle.directory.specs.Walks.{object_of}
use Rattle.scene_prep.specs.Sizes.{told_size}
use Rattle.scene_prep.specs.Levels.{nodes_size}
use Rattle.scene_prep.proofs.Sizing.{missing_sized, solid_sized, empty_sized, comb_sized, comb_deep, comb_stands_below, some_of}
use Rattle.scene_prep.proofs.size.+size.Goals as goal

pub size_of_object-returns-in-None-clause-size : goal.size_of_object-returns-in-None-clause-size
size_of_object-returns-in-None-clause-size t c =
    let is : object_of c.args.directory.now.objects c.args.name.now ≡ None = sym c.get.ensures ∙ ap option_copied c.in-None.is in
    sym (ap told_size (missing_sized c.args.directory.now.objects c.args.name.now c.requires.sound is))

pub size_of_object-returns-in-Solid-clause-size : goal.size_of_object-returns-in-Solid-clause-size
size_of_object-returns-in-Solid-clause-size t c =
    let is : object_of c.args.directory.now.objects c.args.name.now ≡ Some c.in-Some.object.now = sym c.get.ensures ∙ ap option_copied c.in-Some.is in
    let at : c.in-Some.object.now.body ≡ Solid c.in-Solid.field-0 = search rules in
    sym (ap told_size (solid_sized c.args.directory.now.objects c.args.name.now c.in-Some.object.now (Solid c.in-Solid.field-0) c.requires.sound is at refl))

pub size_of_object-returns-then-is_empty-clause-size : goal.size_of_object-returns-then-is_empty-clause-size
size_of_object-returns-then-is_empty-clause-size t c =
    let is : object_of c.args.directory.now.objects c.args.name.now ≡ Some c.in-Some.object.now = sym c.get.ensures ∙ ap option_copied c.in-Some.is in
    let at : c.in-Some.object.now.body ≡ Comb c.in-Comb.attr c.in-Comb.tree = search rules in
    let none : length c.nodes-nodes.result.now ≡ 0 = eqb-true (length c.nodes-nodes.result.now) 0 (sym c.is_empty.ensures ∙ c.if-is_empty.true) in
    sym (ap told_size (empty_sized c.args.directory.now.objects c.args.name.now c.in-Some.object.now c.in-Comb.attr c.in-Comb.tree c.requires.sound is at (sym (ap length c.nodes-nodes.ensures.tree) ∙ none)))

pub size_of_object-overflow_sub-levels : goal.size_of_object-overflow_sub-levels
size_of_object-overflow_sub-levels t c =
    let is : object_of c.args.directory.now.objects c.args.name.now ≡ Some c.in-Some.object.now = sym c.get.ensures ∙ ap option_copied c.in-Some.is in
    let at : c.in-Some.object.now.body ≡ Comb c.in-Comb.attr c.in-Comb.tree = search rules in
    let deep : 0 < c.args.levels = comb_deep c.args.directory.now.objects c.args.levels c.args.name.now c.in-Some.object.now c.in-Comb.attr c.in-Comb.tree is at c.requires.shallow in
    omega (arith, deep)

pub size_of_object-size_of_nodes-requires : goal.size_of_object-size_of_nodes-requires
size_of_object-size_of_nodes-requires t c =
    let is : object_of c.args.directory.now.objects c.args.name.now ≡ Some c.in-Some.object.now = sym c.get.ensures ∙ ap option_copied c.in-Some.is in
    let at : c.in-Some.object.now.body ≡ Comb c.in-Comb.attr c.in-Comb.tree = search rules in
    let deep : 0 < c.args.levels = comb_deep c.args.directory.now.objects c.args.levels c.args.name.now c.in-Some.object.now c.in-Comb.attr c.in-Comb.tree is at c.requires.shallow in
    let lawful : IsComb c.in-Comb.attr c.in-Comb.tree = subst IsBody (c.body.ensures.value ∙ at) c.body.ensures.lawful in
    (omega (arith, c.decreases, deep), (c.requires.sound, (comb_stands_below c.args.directory.now.objects c.args.levels c.args.name.now c.in-Some.object.now c.in-Comb.attr c.in-Comb.tree c.nodes-nodes.result.now is at lawful c.nodes-nodes.ensures.tree c.requires.shallow deep, c.requires.known)))

pub size_of_object-returns-else-is_empty-clause-size : goal.size_of_object-returns-else-is_empty-clause-size
size_of_object-returns-else-is_empty-clause-size t c =
    let is : object_of c.args.directory.now.objects c.args.name.now ≡ Some c.in-Some.object.now = sym c.get.ensures ∙ ap option_copied c.in-Some.is in
    let at : c.in-Some.object.now.body ≡ Comb c.in-Comb.attr c.in-Comb.tree = search rules in
    let some : 0 < length c.nodes-nodes.result.now = some_of (length c.nodes-nodes.result.now) (eqb-false (length c.nodes-nodes.result.now) 0 (sym c.is_empty.ensures ∙ c.if-is_empty.false)) in
    let there : 0 < length (comb_nodes c.in-Comb.tree) = subst (λ ns. 0 < length ns) c.nodes-nodes.ensures.tree some in
    let whole = comb_sized c.args.directory.now.objects c.args.name.now c.in-Some.object.now c.in-Comb.attr c.in-Comb.tree c.requires.sound is at there in
    IfOk-weaker c.size_of_nodes.result _ _ (λ v h. h ∙ ap told_size (ap (nodes_size c.args.directory.now.objects) c.nodes-nodes.ensures.tree ∙ sym whole)) c.size_of_nodes.ensures.size
