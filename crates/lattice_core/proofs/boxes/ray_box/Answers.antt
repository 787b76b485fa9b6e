use Rattle.std.proofs.Common.{◌∙◌, ap, subst, sym}
use Rattle.lattice_core.specs.declared.vector.V3.{V3}
use Rattle.lattice_core.specs.declared.boxes.Box3.{Box3}
use Rattle.lattice_core.specs.Boxes.{IsRayBox}
use Rattle.lattice_core.specs.Spans.{reach_span}
use Rattle.lattice_core.proofs.Reaching.{reach_is}
use Rattle.lattice_core.proofs.boxes.ray_box.Goals as goal

pub returns : goal.returns
returns c =
    subst (λ (b : Box3). IsRayBox b c.args.ray.now)
    (sym (c.reach_of.ensures ∙ ap (λ (step : V3). reach_span c.args.ray.now.origin step) c.unit.ensures.value))
    (reach_is c.args.ray.now)
