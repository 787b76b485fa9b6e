use Rattle.std.proofs.Common.{Ok, [], take}
use Rattle.report_text.specs.Listings.{written_lines}
use Rattle.report_text.specs.Steps.{IsPushed}
use Rattle.report_text.proofs.objects.list_text.Given as goal

abbrev pub invariant-loop-name : goal.invariant-loop-name
invariant-loop-name l = IsPushed (Ok l.left) [] l.body (written_lines l.directory.objects (take l.name-index l.names)) l.room
