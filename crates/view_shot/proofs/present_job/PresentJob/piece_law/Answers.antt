use Rattle.std.proofs.Common.{List, subst}
use Rattle.std.specs.Arc.{arc_value}
use Rattle.shot_core.specs.Regions.{HaveInstances, HavePlacedSolids, Region}
use Rattle.view_shot.proofs.Presents.{presents_of_name}
use Rattle.view_shot.proofs.present_job.PresentJob.piece_law.Goals as goal

pub returns : goal.returns
returns c = λ named right names.
    let job = c.args.self.now in
    let scene : List Region = arc_value job.scene in
    presents_of_name scene job.view c.args.i named.key named.places named.presents
    (c.present_laws.ensures.tiles scene job.view c.args.i
    (record { instances = subst HaveInstances c.deref.ensures c.regions-regions.ensures.leaves; placed = subst HavePlacedSolids c.deref.ensures c.regions-regions.ensures.placed; checked = job.checked }) c.requires)
    names.0 names.1 right
