use Rattle.std.proofs.Common.{◌∙◌, ap, arith}
use Rattle.std.proofs.lemmas.Int.{ints, clamps}
use Rattle.lattice_core.specs.declared.boxes.Side.TheVariants.{At}
use Rattle.lattice_core.proofs.Extending.{extents_same}
use Rattle.lattice_core.proofs.extent.Extent.of_ray.Goals as goal

pub returns : goal.returns
returns c = c.between.ensures ∙ extents_same (ap At (omega (arith, ints, clamps))) (ap At (omega (arith, ints, clamps)))
