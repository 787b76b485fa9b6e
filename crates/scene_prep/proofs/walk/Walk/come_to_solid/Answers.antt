use Rattle.std.proofs.Common.{sym, subst}
use Rattle.std.proofs.lemmas.Result.{IfOk-weaker}
use Rattle.scene_prep.specs.Walking.{AreBodies}
use Rattle.scene_prep.proofs.walk.Walk.come_to_solid.Goals as goal

pub returns-clause-known : goal.returns-clause-known
returns-clause-known c =
    IfOk-weaker c.push_region.result _ _ (λ _ _. subst (AreBodies c.args.directory.now.objects) (sym c.push_region.ensures.bodies) c.in_ok-body.ensures.known) c.push_region.ensures.regions
