use Rattle.std.proofs.Common.{◌+◌, ◌-◌, ◌∙◌, ◌++◌, ◌∷◌, [], length, map, ap, sym, arith}
use Rattle.std.specs.List.{filter_map, range_with_len}
use Rattle.std.proofs.lemmas.List.{append_assoc, length-append}
use Rattle.overlap_list.specs.Overlaps.{pairs_from, first_overlap}
use Rattle.overlap_list.proofs.Overlapping.{pair_of, more_too_many, pairs_more, pairs_within}
use Rattle.overlap_list.proofs.overlap.add_overlaps.Goals as goal

pub returns-in-Err-clause-many : goal.returns-in-Err-clause-many
returns-in-Err-clause-many c =
    more_too_many (length c.loop-two.runs.items + length (filter_map (first_overlap c.args.weave.now c.args.regions.now) (pair_of c.args.one c.loop-two.two ∷ [])))
    (length c.args.runs.now.items + length (filter_map (first_overlap c.args.weave.now c.args.regions.now) (pairs_from (length c.args.regions.now - 1) c.args.one))) c.in-Err.fault
    (omega (
      arith,
      ap length c.loop-two.invariant.runs,
      length-append c.args.runs.now.items (filter_map (first_overlap c.args.weave.now c.args.regions.now) (map (pair_of c.args.one) (range_with_len (c.args.one + 1) (c.loop-two.two - (c.args.one + 1))))),
      pairs_within (first_overlap c.args.weave.now c.args.regions.now) (length c.args.regions.now - 1) c.args.one c.loop-two.two (omega (arith, c.loop-two.auto.two)) (omega (arith, c.loop-two-test.true)),
    ))
    c.in-Err.ensures.many

pub loop-two-preserved : goal.loop-two-preserved
loop-two-preserved c = record {
  runs = c.in_default.ensures.added
      ∙ ap (λ l. l ++ filter_map (first_overlap c.args.weave.now c.args.regions.now) (pair_of c.args.one c.loop-two.two ∷ [])) c.loop-two.invariant.runs
      ∙ append_assoc c.args.runs.now.items (filter_map (first_overlap c.args.weave.now c.args.regions.now) (map (pair_of c.args.one) (range_with_len (c.args.one + 1) (c.loop-two.two - (c.args.one + 1))))) (filter_map (first_overlap c.args.weave.now c.args.regions.now) (pair_of c.args.one c.loop-two.two ∷ []))
      ∙ sym (ap (λ l. c.args.runs.now.items ++ l) (pairs_more (first_overlap c.args.weave.now c.args.regions.now) c.args.one c.loop-two.two (omega (arith, c.loop-two.auto.two))));
  most = λ h. c.in_default.ensures.most (c.loop-two.invariant.most h);
}
