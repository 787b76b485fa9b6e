use Rattle.std.proofs.Common.{◌+◌, All, subst, sym}
use Rattle.bool_weave.specs.declared.woven.Woven.{Woven}
use Rattle.bool_weave.specs.Cuts.{IsSegment}
use Rattle.solid_set.specs.Segments.{segment_of}
use Rattle.first_hit.proofs.FirstSearch.{sound_more, woven_step}
use Rattle.first_hit.proofs.own.add_segments.Goals as goal

pub loop-i-preserved : goal.loop-i-preserved
loop-i-preserved c = record {
  segments = woven_step c.args.ray.now c.args.first c.loop-i.i c.args.solids.now c.index-solids-i.result _ c.loop-i.segments.items c.add_segment.new.segments.items _ c.loop-i-test.true c.index-solids-i.is c.in_ok-add_segment.ensures.segments c.loop-i.invariant.segments;
  sound = subst (All (λ (w : Woven). IsSegment w.seg)) (sym c.in_ok-add_segment.ensures.segments)
      (sound_more (c.args.first + c.loop-i.i) (segment_of c.index-solids-i.result.surface c.args.ray.now) c.loop-i.segments.items c.in_ok-add_segment.ensures.sound c.loop-i.invariant.sound);
}
