use Rattle.std.proofs.Common.{◌∙◌, ap}
use Rattle.lattice_core.specs.declared.vector.V3.{V3}
use Rattle.lattice_core.specs.Vectors.{vector_sum, zero_vector}
use Rattle.lattice_core.proofs.Turning.{sum_zero}
use Rattle.lattice_core.proofs.placement.Placement.identity.Goals as goal

pub returns-clause-value : goal.returns-clause-value
returns-clause-value c = λ p. ap (λ (v : V3). vector_sum v zero_vector) (c.identity.ensures.value p) ∙ sum_zero p
