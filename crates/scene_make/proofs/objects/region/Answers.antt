use Rattle.std.proofs.Common.{subst, sym, arith}
use Rattle.comb_tree.specs.Nodes.{Comb}
use Rattle.object_set.specs.Objects.{IsComb}
use Rattle.scene_make.proofs.AgainLaws.{region_near}
use Rattle.scene_make.proofs.objects.region.Goals as goal

pub of_comb-requires : goal.of_comb-requires
of_comb-requires c =
    subst (λ (t : Comb). IsComb c.attr_of.result t) (sym c.in_ok-tree.ensures.tree) (record { ranges = c.attr_of.ensures.ranges; few = omega arith; near = region_near c.args.i c.args.turn c.requires })
