use Rattle.std.proofs.Common.{Ok, [], take}
use Rattle.report_text.specs.Listings.{listings}
use Rattle.report_text.specs.Steps.{IsPushed}
use Rattle.report_text.proofs.trees.tree_text.Given as goal

abbrev pub invariant-loop-name : goal.invariant-loop-name
invariant-loop-name l = IsPushed (Ok l.left) [] l.body (listings l.directory.objects (take l.name-index l.names)) l.room
