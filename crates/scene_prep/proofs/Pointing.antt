-- The leaves of the regions of names stand for their instances, so what a ray meets of them tells what lies at its points.
use Rattle.std.proofs.Common.{◌+◌, ℕ, List, [], ◌∷◌, length, map, arith}
use Rattle.std.specs.List.{enumerate_from}
use Rattle.std.proofs.lemmas.List.{length-map}
use Rattle.std.proofs.lemmas.List.Elements.{All-cons, All-nil}
use Rattle.name_core.specs.declared.name.Name.{Name}
use Rattle.directory.specs.Walks.{Entries}
use Rattle.shot_core.specs.Regions.{Region, HasLeavesBelow, HaveInstances}
use Rattle.shot_core.proofs.OverlapTruth.{overlaps_tell_points}
use Rattle.shot_core.proofs.PointTruth.{true_of_points}
use Rattle.shot_core.proofs.SeenTruth.{seen_tells_points}
use Rattle.scene_prep.specs.Laws.{PartitionsOfNamesTellPoints, OverlapsOfNamesTellPoints, SeenOfNamesTellsPoints}
use Rattle.scene_prep.specs.Regions.{NamedRegion, regions_of}
use Rattle.scene_prep.specs.Scenes.{region_at, scene_of}
use Rattle.scene_prep.specs.Solids.{solids_of, in_world}
use Rattle.scene_prep.proofs.Finishing.{below}
use Rattle.scene_prep.proofs.Scening.{scene_rising}

leaves_from : (place : ℕ) (regions : List NamedRegion) → HaveInstances (map (λ e. region_at e.0 e.1) (enumerate_from place regions))
leaves_from place [] = All-nil (λ (r : Region). HasLeavesBelow (length r.body.instances) r.body.tree)
leaves_from place (region ∷ regions) =
    All-cons (λ (r : Region). HasLeavesBelow (length r.body.instances) r.body.tree) (region_at place region) (map (λ e. region_at e.0 e.1) (enumerate_from (place + 1) regions))
    (below (length (map in_world (solids_of region.tree))) 0 region.tree (omega (arith, length-map (solids_of region.tree) in_world))) (leaves_from (place + 1) regions)

pub scene_leaves : (directory : Entries) (names : List Name) → HaveInstances (scene_of directory names)
scene_leaves directory names = leaves_from 1 (regions_of directory names)

pub partitions_tell_points : PartitionsOfNamesTellPoints
partitions_tell_points directory names ray = true_of_points (scene_of directory names) ray (scene_rising directory names) (scene_leaves directory names)

pub overlaps_tell : OverlapsOfNamesTellPoints
overlaps_tell directory names ray = overlaps_tell_points (scene_of directory names) ray (scene_leaves directory names)

pub seen_tells : SeenOfNamesTellsPoints
seen_tells directory names ray = seen_tells_points (scene_of directory names) ray (scene_rising directory names) (scene_leaves directory names)
