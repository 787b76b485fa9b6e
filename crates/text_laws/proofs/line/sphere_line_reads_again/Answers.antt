use Rattle.std.proofs.Common.{subst}
use Rattle.lattice_core.specs.declared.limit.TheConstants.{COORD}
use Rattle.lattice_core.specs.Limits.{IsWithin}
use Rattle.prim_sphere.specs.Spheres.{IsRadius}
use Rattle.text_laws.proofs.LineSolids.{sphere_again}
use Rattle.text_laws.proofs.line.sphere_line_reads_again.Goals as goal

-- src/line.rt:13:1
pub returns : goal.returns
returns c = sphere_again c.args.name.now c.args.sphere.now c.bytes-bytes.ensures.named (subst (IsWithin COORD) c.centre-centre.ensures.value c.centre-centre.ensures.size) (subst IsRadius c.radius-radius.ensures.value c.radius-radius.ensures.size)
