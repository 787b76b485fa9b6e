use Rattle.std.proofs.Common.{subst}
use Rattle.lattice_core.specs.declared.limit.TheConstants.{COORD}
use Rattle.lattice_core.specs.Limits.{IsWithin}
use Rattle.plane_geom.specs.Chords.{IsRadius}
use Rattle.prim_rcc.specs.Axes.{HasOneComponent}
use Rattle.text_laws.proofs.LineSolids.{rcc_again}
use Rattle.text_laws.proofs.line.rcc_line_reads_again.Goals as goal

pub returns : goal.returns
returns c =
    rcc_again c.args.name.now c.args.rcc.now c.bytes-bytes.ensures.named
    (subst (IsWithin COORD) c.base-base.ensures.value c.base-base.ensures.size)
    (subst (IsWithin COORD) c.height-height.ensures.value c.height-height.ensures.size)
    (subst HasOneComponent c.height-height.ensures.value c.height-height.ensures.axis)
    (subst IsRadius c.radius-radius.ensures.value c.radius-radius.ensures.size)
