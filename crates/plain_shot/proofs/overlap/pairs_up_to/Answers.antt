use Rattle.overlap_list.specs.Overlaps.{pairs_from}
use Rattle.plain_shot.proofs.Lists.{flat_push}
use Rattle.plain_shot.proofs.overlap.pairs_up_to.Goals as goal

pub loop-one-preserved : goal.loop-one-preserved
loop-one-preserved c = flat_push (pairs_from c.args.last) c.loop-one.one c.loop-one.pairs.items c.add_pairs.new.pairs.items c.loop-one.invariant c.in_ok-add_pairs.ensures
