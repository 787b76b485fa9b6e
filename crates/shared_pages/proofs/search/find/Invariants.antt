use Rattle.std.proofs.Common.{◌≡◌, ◌+◌, drop, length}
use Rattle.std.specs.Prelude.{slice_get}
use Rattle.shared_pages.specs.Pages.{pairs_of}
use Rattle.shared_pages.proofs.search.find.Given as goal

abbrev pub invariant-loop-page : goal.invariant-loop-page
invariant-loop-page g l = record {
  found : slice_get (pairs_of l.pages) l.fn.place ≡ slice_get (pairs_of (drop l.page l.pages)) l.rest;
  left : l.fn.place + length (pairs_of (drop l.page l.pages)) ≡ length (pairs_of l.pages) + l.rest;
}
