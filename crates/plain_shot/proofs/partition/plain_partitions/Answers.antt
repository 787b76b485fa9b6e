use Rattle.std.proofs.Common.{◌≡◌, ◌∙◌, length, map, ap, sym}
use Rattle.std.proofs.lemmas.Result.{IfOk-weaker}
use Rattle.bool_weave.specs.Claims.{intervals_of}
use Rattle.overlap_list.specs.Partitions.{won_runs, partition_of}
use Rattle.shot_core.specs.Shots.{woven_of, claims_on, lit_by, lit_of}
use Rattle.shot_core.proofs.Picking.{map_twice}
use Rattle.plain_shot.specs.Steps.{lit_of_run}
use Rattle.plain_shot.proofs.partition.plain_partitions.Goals as goal

pub returns : goal.returns
returns c =
    let rs = c.args.scene.now in
    let ray = c.args.ray.now in
    let laid = c.in_ok-laid.ensures in
    let count : c.in_ok-laid.laid.count ≡ length (intervals_of (woven_of rs ray)) = laid.count ∙ ap (λ w. length (intervals_of w)) laid.segments in
    let runs : c.deref-2.result.now ≡ won_runs (claims_on rs ray) (length (intervals_of (woven_of rs ray))) =
    c.deref-2.ensures.value ∙ c.in_ok-runs.ensures ∙ ap (λ l. won_runs l c.in_ok-laid.laid.count) (c.deref.ensures.value ∙ laid.claims) ∙ ap (won_runs (claims_on rs ray)) count in
    let whole : map (lit_of_run rs ray) c.deref-2.result.now ≡ lit_of rs ray =
    ap (map (lit_of_run rs ray)) runs ∙ sym (map_twice (lit_by rs ray) (partition_of (woven_of rs ray) (claims_on rs ray)) (won_runs (claims_on rs ray) (length (intervals_of (woven_of rs ray))))) in
    IfOk-weaker c.lit_of_runs.result (λ v. v.items ≡ map (lit_of_run rs ray) c.deref-2.result.now) (λ v. v.items ≡ lit_of rs ray) (λ v h. h ∙ whole) c.lit_of_runs.ensures
