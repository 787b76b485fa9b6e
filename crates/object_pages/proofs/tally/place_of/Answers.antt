use Rattle.std.proofs.Common.{◌<◌, length, arith}
use Rattle.object_pages.proofs.TallyLemmas.{distinct_first}
use Rattle.object_pages.proofs.tally.place_of.Goals as goal

pub returns-then-page-counts : goal.returns-then-page-counts
returns-then-page-counts c =
    let below : c.in-Some.last < length c.args.counts.now = omega arith in
    distinct_first c.args.counts.now c.in-Some.last c.args.page (0, 0) c.requires below c.if-page-counts.true
