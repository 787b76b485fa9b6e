use Rattle.std.proofs.Common.{◌≢◌, subst}
use Rattle.lattice_core.specs.declared.limit.TheConstants.{COORD, HALF_NORMAL}
use Rattle.lattice_core.specs.declared.vector.V3.{V3}
use Rattle.lattice_core.specs.Limits.{IsAtMost, IsWithin}
use Rattle.lattice_core.specs.Vectors.{zero_vector}
use Rattle.text_laws.proofs.LineSolids.{half_again}
use Rattle.text_laws.proofs.line.half_line_reads_again.Goals as goal

-- src/line.rt:22:1
pub returns : goal.returns
returns c = half_again c.args.name.now c.args.half.now c.bytes-bytes.ensures.named (subst (IsWithin HALF_NORMAL) c.normal-normal.ensures.value c.normal-normal.ensures.size) (subst (IsAtMost COORD) c.distance-distance.ensures.value c.distance-distance.ensures.size) (subst (λ (v : V3). v ≢ zero_vector) c.normal-normal.ensures.value c.normal-normal.ensures.direction)
