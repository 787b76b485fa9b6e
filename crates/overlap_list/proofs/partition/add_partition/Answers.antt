use Rattle.std.proofs.Common.{◌≡◌, ◌∙◌, ◌++◌, ◌∷◌, [], List, Some, length, map, filter, get_or, pos, ap, sym, arith}
use Rattle.std.proofs.lemmas.List.{append-nil}
use Rattle.surd_order.specs.declared.position.Pos.TheVariants.{Frac}
use Rattle.bool_weave.specs.declared.woven.Woven.{Woven}
use Rattle.bool_weave.specs.Claims.{intervals_of}
use Rattle.overlap_list.specs.Winners.{winner_of}
use Rattle.overlap_list.specs.Runs.{runs_from}
use Rattle.overlap_list.specs.Hits.{is_candidate, lowest, hit_on}
use Rattle.overlap_list.specs.Partitions.{is_won_as, or_no_hit, partition_of}
use Rattle.overlap_list.specs.Steps.{passes}
use Rattle.overlap_list.proofs.Running.{run_of}
use Rattle.overlap_list.proofs.Settling.{no_partition, one_partition, count_is, cut_is, partition_is}
use Rattle.overlap_list.proofs.partition.add_partition.Goals as goal

pub returns-in_default : goal.returns-in_default
returns-in_default c =
    sym (append-nil c.args.partitions.now.items)
    ∙ ap (λ l. c.args.partitions.now.items ++ map (partition_of c.args.weave.now c.args.regions.now) l)
    (sym (no_partition c.args.regions.now c.args.winners.now c.requires.winners (length (intervals_of c.args.weave.now)) c.args.from c.in_default.ensures))

pub bounds-cuts-from : goal.bounds-cuts-from
bounds-cuts-from c =
    omega (arith, c.requires.from, c.requires.count, count_is c.args.weave.now c.cuts-cuts.result.now c.cuts-cuts.ensures.cuts c.cuts-cuts.ensures.some)

pub offset_bounds-cuts-run_end : goal.offset_bounds-cuts-run_end
offset_bounds-cuts-run_end c =
    omega (arith, c.run_end.ensures.within, c.requires.count, count_is c.args.weave.now c.cuts-cuts.result.now c.cuts-cuts.ensures.cuts c.cuts-cuts.ensures.some, c.cuts-cuts.ensures.short)

pub bounds-cuts-run_end : goal.bounds-cuts-run_end
bounds-cuts-run_end c =
    omega (arith, c.run_end.ensures.within, c.requires.count, count_is c.args.weave.now c.cuts-cuts.result.now c.cuts-cuts.ensures.cuts c.cuts-cuts.ensures.some)

pub hit_at-hit-requires-clause-place : goal.hit_at-hit-requires-clause-place
hit_at-hit-requires-clause-place c =
    c.cuts-cuts.ensures.searchable.ranges c.args.from (Frac (pos 0) (pos 0))
    (omega (arith, c.requires.from, c.requires.count, count_is c.args.weave.now c.cuts-cuts.result.now c.cuts-cuts.ensures.cuts c.cuts-cuts.ensures.some))

pub returns : goal.returns
returns c =
    let counted = count_is c.args.weave.now c.cuts-cuts.result.now c.cuts-cuts.ensures.cuts c.cuts-cuts.ensures.some in
    let won : winner_of c.args.regions.now c.args.from ≡ Some c.in-Some.region = sym (c.requires.winners c.args.from) ∙ c.in-Some.ensures.0 in
    let runs : filter (passes (is_won_as c.args.regions.now)) (runs_from (length (intervals_of c.args.weave.now)) c.args.from) ≡ run_of c.args.from c.run_end.result ∷ [] =
    one_partition c.args.regions.now c.args.winners.now c.requires.winners (length (intervals_of c.args.weave.now)) c.args.from c.run_end.result c.run_end.ensures.end (omega (arith, c.run_end.ensures.within, c.requires.count)) c.in-Some.ensures.1 in
    c.in_ok-push.ensures.items
    ∙ ap (λ p. c.args.partitions.now.items ++ p ∷ [])
    (partition_is c.args.weave.now c.args.regions.now c.args.from c.run_end.result c.in-Some.region (get_or c.cuts-cuts.result.now c.args.from (Frac (pos 0) (pos 0))) (get_or c.cuts-cuts.result.now c.run_end.result (Frac (pos 0) (pos 0))) c.hit_at-hit.result won
    (cut_is c.args.weave.now c.cuts-cuts.result.now c.args.from (Frac (pos 0) (pos 0)) c.cuts-cuts.ensures.cuts (omega (arith, c.requires.from, c.requires.count, counted)))
    (cut_is c.args.weave.now c.cuts-cuts.result.now c.run_end.result (Frac (pos 0) (pos 0)) c.cuts-cuts.ensures.cuts (omega (arith, c.run_end.ensures.within, c.requires.count, counted)))
    (c.hit_at-hit.ensures ∙ ap (λ (l : List Woven). or_no_hit (hit_on (get_or c.cuts-cuts.result.now c.args.from (Frac (pos 0) (pos 0))) (lowest (filter (is_candidate c.args.regions.now c.args.from (get_or c.cuts-cuts.result.now c.args.from (Frac (pos 0) (pos 0)))) l)))) c.woven.ensures.woven))
    ∙ ap (λ l. c.args.partitions.now.items ++ map (partition_of c.args.weave.now c.args.regions.now) l) (sym runs)
