use Rattle.directory.proofs.PlaceLemmas.{greatest_next}
use Rattle.directory.proofs.levels.greatest.Goals as goal

pub loop-depth-preserved : goal.loop-depth-preserved
loop-depth-preserved c = let more = greatest_next c.args.depths.now c.loop-depth.depth-index 0 c.loop-depth-test.true in cc
