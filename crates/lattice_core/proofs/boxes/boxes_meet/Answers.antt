use Rattle.lattice_core.proofs.Boxing.{meets_is}
use Rattle.lattice_core.proofs.boxes.boxes_meet.Goals as goal

pub returns : goal.returns
returns c =
    let is = meets_is c.args.a.now c.args.b.now in
    let e = rw c.meet_of_spans.ensures at c.has_points.ensures in
    (λ t. is.0 (e.0 t), λ m. e.1 (is.1 m))
