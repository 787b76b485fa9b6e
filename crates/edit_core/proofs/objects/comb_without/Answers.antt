use Rattle.std.proofs.Common.{rules, ◌≡◌, Some}
use Rattle.edit_core.specs.Edits.{object_at}
use Rattle.object_set.specs.declared.object.Body.TheVariants.{Comb}
use Rattle.edit_core.proofs.Answered.{without_changes}
use Rattle.edit_core.proofs.objects.comb_without.Goals as goal

pub returns : goal.returns
returns c =
    let there : object_at c.args.directory.now c.args.name.now ≡ Some c.in-Some.object.now = search rules in
    let body : c.in-Some.object.now.body ≡ Comb c.in-Comb.attr c.in-Comb.tree = search rules in
    let made = c.in_ok-left.ensures in
    without_changes c.args.directory.now c.args.name.now c.args.members.now c.in-Some.object.now c.in-Comb.attr c.in-Comb.tree c.in_ok-left.left c.with_comb.result there body made.0 made.1 c.with_comb.ensures
