use Rattle.std.proofs.Common.{◌<◌, ◌+◌, List, subst, arith}
use Rattle.std.specs.Arc.{arc_value}
use Rattle.lattice_core.specs.Tiles.{tiles_of}
use Rattle.shot_core.specs.Regions.{HaveInstances, HavePlacedSolids, Region}
use Rattle.tile_shot.specs.Reports.{HaveRisingPlaces}
use Rattle.view_shot.proofs.PlaceLaws.{report_of_name}
use Rattle.view_shot.proofs.job.CheckJob.piece_law.Goals as goal

pub returns : goal.returns
returns c = λ named right names.
    let job = c.args.self.now in
    let scene : List Region = arc_value job.scene in
    let lt : job.first + c.args.i < tiles_of job.view = omega (arith, c.requires, job.within) in
    report_of_name scene job.view (job.first + c.args.i) named.key named.places named.pairs.pairs
    (c.report_laws.ensures.kept scene job.view (job.first + c.args.i) (subst HaveInstances c.deref.ensures c.regions-regions.ensures.leaves) (subst HavePlacedSolids c.deref.ensures c.regions-regions.ensures.placed)
    (subst HaveRisingPlaces c.deref.ensures c.regions-regions.ensures.sound.rising) job.checked lt) names.0 names.1 right
