use Rattle.std.proofs.Common.{rules, nat_lt}
use Rattle.std.proofs.lemmas.List.Sorted.{IsPartitionPoint-from_clause, IsPartitionedBy-ltb}
use Rattle.bool_weave.specs.declared.woven.Woven.{Woven}
use Rattle.bool_weave.proofs.Middles.{rising_numbers}
use Rattle.bool_weave.proofs.woven.count_below.Goals as goal

pub returns-clause-parted : goal.returns-clause-parted
returns-clause-parted c =
    IsPartitionPoint-from_clause (λ (w : Woven). nat_lt w.instance c.args.number) c.args.woven.now c.partition_point.result c.partition_point.ensures.partitioned
    (IsPartitionedBy-ltb (λ (w : Woven). w.instance) c.args.woven.now c.args.number (rising_numbers c.args.woven.now c.requires))
    (λ a r q k. search rules)
