use Rattle.std.proofs.Common.{rules, nat_le}
use Rattle.std.proofs.lemmas.List.Sorted.{IsPartitionPoint-from_clause, IsPartitionedBy-leb}
use Rattle.shot_core.proofs.scene.count_up_to.Goals as goal

pub returns-clause-parted : goal.returns-clause-parted
returns-clause-parted c =
    IsPartitionPoint-from_clause (λ f. nat_le f c.args.number) c.args.firsts.now c.partition_point.result c.partition_point.ensures.partitioned
    (IsPartitionedBy-leb (λ f. f) c.args.firsts.now c.args.number c.requires)
    (λ a r q k. search rules)
