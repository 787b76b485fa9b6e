use Rattle.std.proofs.Common.{◌≤◌, Some, subst, sym, length, arith}
use Rattle.comb_tree.specs.Nodes.{Comb, members}
use Rattle.object_set.specs.Objects.{IsComb}
use Rattle.scene_make.specs.Demo.{union_to}
use Rattle.scene_make.proofs.UnionLaws.{union_count, union_near}
use Rattle.scene_make.proofs.union.all.Goals as goal

pub of_comb-requires : goal.of_comb-requires
of_comb-requires c =
    let few : length (members (Some (union_to 999))) ≤ 4096 = omega (arith, union_count 999) in
    subst (λ (t : Comb). IsComb c.of_group.result t) (sym c.in_ok-tree.ensures) (record { ranges = c.of_group.ensures.ranges; few = few; near = union_near 999 })
