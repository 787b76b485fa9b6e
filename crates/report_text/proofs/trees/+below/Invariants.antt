use Rattle.std.proofs.Common.{Ok, ◌+◌, ◌*◌, ◌-◌, take, flat_map}
use Rattle.report_text.specs.Listings.{with_below, lines_below}
use Rattle.report_text.specs.Steps.{IsPushed}
use Rattle.report_text.proofs.trees.+below.Given as goal

abbrev pub decreases-push_below : goal.decreases-push_below
decreases-push_below l = 2 * l.levels

abbrev pub decreases-push_with_below : goal.decreases-push_with_below
decreases-push_with_below l = 2 * l.levels + 1

abbrev pub invariant-push_below-loop-leaf : goal.invariant-push_below-loop-leaf
invariant-push_below-loop-leaf l = IsPushed (Ok l.left) l.initial.body l.body (flat_map (with_below l.directory.objects l.level (lines_below (l.levels - 1) l.directory.objects)) (take l.leaf-index l.leaf-items)) l.room
