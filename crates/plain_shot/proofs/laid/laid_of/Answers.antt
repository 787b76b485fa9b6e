use Rattle.std.proofs.Common.{rules, ◌≡◌, ◌∙◌, length, vec_len, ap, arith}
use Rattle.bool_weave.specs.Cuts.{cuts_of}
use Rattle.bool_weave.specs.Claims.{intervals_of, intervals_between}
use Rattle.shot_core.specs.Shots.{woven_of, claims_from, claims_on}
use Rattle.plain_shot.proofs.Laying.{few_intervals, few_regions}
use Rattle.plain_shot.proofs.laid.laid_of.Goals as goal

pub returns : goal.returns
returns c =
    let rs = c.args.scene.now in
    let ray = c.args.ray.now in
    let segments : c.in_ok-segments.segments.items ≡ woven_of rs ray = c.in_ok-segments.ensures.woven in
    let cuts : c.in_ok-cuts.cuts.items ≡ cuts_of c.in_ok-segments.segments.items = c.in_ok-cuts.ensures ∙ ap cuts_of c.deref.ensures.value in
    let intervals : c.in_ok-intervals.intervals.items ≡ intervals_of c.in_ok-segments.segments.items = c.in_ok-intervals.ensures ∙ ap intervals_between (c.deref-2.ensures.value ∙ cuts) in
    let claims : c.in_ok-regions.regions.items ≡ claims_on rs ray = c.in_ok-regions.ensures ∙ ap (λ w. claims_from w 0 rs) (c.deref-3.ensures.value ∙ segments) in
    let counted : vec_len c.in_ok-intervals.intervals ≡ length c.in_ok-intervals.intervals.items = search rules in
    let count : c.len-count.result ≡ length (intervals_of c.in_ok-segments.segments.items) = c.len-count.ensures ∙ counted ∙ ap length intervals in
    record {
      segments = segments;
      cuts = cuts;
      count = count;
      claims = claims;
      few_intervals = omega (arith, count, ap (λ w. length (intervals_of w)) segments, few_intervals rs ray c.in_ok-segments.ensures.sound);
      few_regions = omega (arith, ap length claims, few_regions rs ray c.in_ok-segments.ensures.sound);
    }
