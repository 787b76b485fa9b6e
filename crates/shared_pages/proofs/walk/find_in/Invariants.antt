use Rattle.std.proofs.Common.{◌≡◌, drop}
use Rattle.std.specs.Prelude.{slice_get}
use Rattle.shared_pages.specs.Pages.{pairs_of}
use Rattle.shared_pages.specs.Groups.{pages_in}
use Rattle.shared_pages.proofs.walk.find_in.Given as goal

abbrev pub invariant-loop-group : goal.invariant-loop-group
invariant-loop-group g l = slice_get (pairs_of (pages_in l.groups)) l.fn.place ≡ slice_get (pairs_of (pages_in (drop l.group l.groups))) l.rest
