use Rattle.shot_core.specs.Candidates.{is_candidate}
use Rattle.shot_core.proofs.TileMeeting.{one_more}
use Rattle.shot_core.proofs.kept.candidates.Goals as goal

pub loop-region-preserved : goal.loop-region-preserved
loop-region-preserved c =
    one_more (is_candidate c.args.regions.now) c.args.regions.now c.loop-region.kept.items c.add_kept.new.kept.items c.loop-region.region-index c.region-item.result c.is_candidate.result
    c.loop-region-test.true c.region-item.is c.is_candidate.ensures c.loop-region.invariant c.in_ok-add_kept.ensures
