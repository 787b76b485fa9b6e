use Rattle.std.proofs.Common.{◌≡◌, ◌∙◌, ap, sym, subst}
use Rattle.overlap_list.specs.declared.partition.Partition.{Partition}
use Rattle.overlap_list.specs.Partitions.{partition_of}
use Rattle.shot_core.specs.Shots.{woven_of}
use Rattle.shot_core.specs.Steps.{IsHitOn}
use Rattle.plain_shot.proofs.Landing.{hit_lands}
use Rattle.plain_shot.proofs.partition.lit_of_run.Goals as goal

pub lit_by-requires-clause-hit : goal.lit_by-requires-clause-hit
lit_by-requires-clause-hit c =
    let regions = c.deref-3.result.now in
    let is : c.in_ok-partition.partition ≡ partition_of (woven_of c.args.scene.now c.args.ray.now) regions c.args.run.now =
    c.in_ok-partition.ensures ∙ ap (λ w. partition_of w regions c.args.run.now) (c.deref.ensures.value ∙ c.requires.laid.segments) in
    subst (λ (p : Partition). IsHitOn c.args.scene.now c.args.ray.now p.hit) (sym is) (hit_lands c.args.scene.now c.args.ray.now regions c.args.run.now.from)
