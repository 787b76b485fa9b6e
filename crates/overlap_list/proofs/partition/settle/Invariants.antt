use Rattle.std.proofs.Common.{◌≡◌, map, filter, flat_map, length}
use Rattle.std.specs.List.{range_with_len}
use Rattle.bool_weave.specs.Claims.{intervals_of}
use Rattle.overlap_list.specs.Runs.{runs_from}
use Rattle.overlap_list.specs.Partitions.{is_won_as, partition_of}
use Rattle.overlap_list.specs.Steps.{passes}
use Rattle.overlap_list.proofs.partition.settle.Given as goal

abbrev pub invariant-loop-from : goal.invariant-loop-from
invariant-loop-from l =
    l.partitions.items ≡ map (partition_of l.weave l.regions) (filter (passes (is_won_as l.regions)) (flat_map (runs_from (length (intervals_of l.weave))) (range_with_len 0 l.from)))
