use Rattle.edit_core.proofs.Answered.{extension_applied, extension_tells}
use Rattle.edit_core.proofs.applying.extend.Goals as goal

pub returns-clause-applied : goal.returns-clause-applied
returns-clause-applied c =
    let made = c.in_ok-object.ensures in
    extension_applied c.args.is_region c.args.directory.now c.set_object.new.directory c.args.name.now c.args.list.now c.in_ok-object.object c.set_object.result made.0 made.1 c.set_object.ensures.set

pub returns-clause-means : goal.returns-clause-means
returns-clause-means c =
    let made = c.in_ok-object.ensures in
    extension_tells c.args.is_region c.args.directory.now c.args.name.now c.args.list.now c.in_ok-object.object c.set_object.result made.1 c.set_object.ensures.means
