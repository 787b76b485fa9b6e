use Rattle.std.proofs.Common.{◌+◌, ◌-◌, ◌∙◌, ◌++◌, length, ap, sym, arith}
use Rattle.std.specs.List.{filter_map}
use Rattle.overlap_list.specs.Overlaps.{pairs_from, first_overlap, overlaps_of}
use Rattle.overlap_list.proofs.Overlapping.{more_too_many, all_more, all_within}
use Rattle.overlap_list.proofs.overlap.overlaps.Goals as goal

pub returns-in-Err-clause-fault : goal.returns-in-Err-clause-fault
returns-in-Err-clause-fault c =
    more_too_many (length c.loop-one.runs.items + length (filter_map (first_overlap c.args.weave.now c.args.regions.now) (pairs_from (length c.args.regions.now - 1) c.loop-one.one)))
    (length (overlaps_of c.args.weave.now c.args.regions.now)) c.in-Err.fault
    (omega (arith, ap length c.loop-one.invariant.runs, all_within (first_overlap c.args.weave.now c.args.regions.now) (length c.args.regions.now - 1) c.loop-one.one (omega (arith, c.loop-one-test.true, c.saturating_sub-one-end.ensures))))
    c.in-Err.ensures.many

pub loop-one-preserved : goal.loop-one-preserved
loop-one-preserved c = record {
  runs = c.in_default.ensures.added
      ∙ ap (λ l. l ++ filter_map (first_overlap c.args.weave.now c.args.regions.now) (pairs_from (length c.args.regions.now - 1) c.loop-one.one)) c.loop-one.invariant.runs
      ∙ sym (all_more (first_overlap c.args.weave.now c.args.regions.now) (length c.args.regions.now - 1) c.loop-one.one);
  most = c.in_default.ensures.most c.loop-one.invariant.most;
}
