use Rattle.ray_cases.proofs.UnionMade.{union_made}
use Rattle.ray_cases.proofs.scenes.union_less.Goals as goal

pub of_comb-requires : goal.of_comb-requires
of_comb-requires c = union_made c.of_group.result c.in_ok-nodes_of.field-0.items c.in-Ok.tree c.in_ok-nodes_of.ensures c.in-Ok.ensures.0 c.of_group.ensures.ranges
