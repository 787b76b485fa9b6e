use Rattle.std.proofs.Common.{rules, ◌≡◌, Some}
use Rattle.edit_core.specs.Edits.{object_at}
use Rattle.object_set.specs.declared.object.Body.TheVariants.{Comb}
use Rattle.edit_core.proofs.Answered.{placed_changes}
use Rattle.edit_core.proofs.objects.comb_placed.Goals as goal

pub returns : goal.returns
returns c =
    let there : object_at c.args.directory.now c.args.name.now ≡ Some c.in-Some.object.now = search rules in
    let body : c.in-Some.object.now.body ≡ Comb c.in-Comb.attr c.in-Comb.tree = search rules in
    let made = c.in_ok-moved.ensures in
    placed_changes c.args.directory.now c.args.name.now c.args.member.now c.args.placement.now c.in-Some.object.now c.in-Comb.attr c.in-Comb.tree c.in_ok-moved.moved c.with_comb.result there body made.0 made.1 c.with_comb.ensures
