use Rattle.std.proofs.Common.{rules, ◌≡◌, ◌∙◌, length, map, filter, flat_map, vec_len, ap, arith}
use Rattle.std.specs.List.{range_with_len}
use Rattle.bool_weave.specs.Claims.{intervals_of}
use Rattle.overlap_list.specs.Runs.{runs_from}
use Rattle.overlap_list.specs.Partitions.{is_won_as, partition_of}
use Rattle.overlap_list.specs.Steps.{passes}
use Rattle.overlap_list.proofs.Settling.{count_is, partitions_more}
use Rattle.overlap_list.proofs.partition.settle.Goals as goal

pub overflow_cast-count : goal.overflow_cast-count
overflow_cast-count c = omega (arith, c.cuts.ensures.short, c.cuts.ensures.some)

pub winners_of-requires-clause-rows : goal.winners_of-requires-clause-rows
winners_of-requires-clause-rows c = λ k d lt.
    omega (arith, c.requires.rows k d lt, count_is c.args.weave.now c.cuts.result.now c.cuts.ensures.cuts c.cuts.ensures.some)

pub add_partition-requires-clause-count : goal.add_partition-requires-clause-count
add_partition-requires-clause-count c =
    let counted : vec_len c.in_ok-winners.winners ≡ length c.in_ok-winners.winners.items = search rules in
    omega (arith, ap length c.deref.ensures.value, counted, c.in_ok-winners.ensures.len, count_is c.args.weave.now c.cuts.result.now c.cuts.ensures.cuts c.cuts.ensures.some)

pub loop-from-preserved : goal.loop-from-preserved
loop-from-preserved c =
    partitions_more c.args.weave.now c.args.regions.now (length (intervals_of c.args.weave.now)) c.loop-from.from c.loop-from.partitions.items c.add_partition.new.partitions.items c.loop-from.invariant c.in_ok-add_partition.ensures

pub returns : goal.returns
returns c =
    let last : c.loop-from.from ≡ length (intervals_of c.args.weave.now) =
    omega (arith, c.loop-from-test.false, c.loop-from.auto.from-end, count_is c.args.weave.now c.cuts.result.now c.cuts.ensures.cuts c.cuts.ensures.some) in
    c.loop-from.invariant
    ∙ ap (λ n. map (partition_of c.args.weave.now c.args.regions.now) (filter (passes (is_won_as c.args.regions.now)) (flat_map (runs_from (length (intervals_of c.args.weave.now))) (range_with_len 0 n)))) last
