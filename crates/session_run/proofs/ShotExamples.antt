-- What tells the points of a ray through a half-space, and what does not.
use Rattle.std.proofs.Common.{◌≡◌, ◌∷◌, [], List, codes}
use Rattle.std.specs.Fmt.{digits}
use Rattle.surd_order.specs.PlaceOrder.{place_cmp}
use Rattle.name_core.specs.declared.name.Name.{Name}
use Rattle.shot_core.specs.declared.shot.Lit.{Lit}
use Rattle.shot_core.specs.Points.{stretches_of, IsTrueOfPoints}
use Rattle.shot_core.specs.Shots.{lit_of}
use Rattle.scene_prep.specs.Regions.{regions_of_name}
use Rattle.scene_prep.specs.Scenes.{scene_of}
use Rattle.scene_prep.specs.Sizes.{size_of_name}
use Rattle.scene_prep.proofs.Pointing.{partitions_tell_points}
use Rattle.report_text.specs.Shots.{shot_lines}
use Rattle.session_run.specs.Examples.{three, along_x}
use Rattle.session_run.specs.Points.{IsTrueShot}
use Rattle.session_run.proofs.PointLaws.{true_shot}

abbrev h : List Name
h = codes "h" ∷ []

-- the ray begins in the half-space and leaves it at 5
true_lines : IsTrueShot three.objects along_x h (codes "1 /h 0 5" ∷ [])
unfolding place_cmp digits regions_of_name size_of_name
true_lines = true_shot three.objects along_x h

-- no other list of partitions tells the points, and so no empty one
left_out : (lit : List Lit) → [] ≡ shot_lines (scene_of three.objects h) lit → IsTrueOfPoints (scene_of three.objects h) along_x (stretches_of lit) → ⊥
unfolding place_cmp digits regions_of_name size_of_name
left_out [] e points =
    let it = partitions_tell_points three.objects h along_x in
    let same = points.alone (stretches_of (lit_of (scene_of three.objects h) along_x)) it.ordered it.tells in
    cc
left_out (l ∷ lit) e points = cc

no_lines : ¬ (IsTrueShot three.objects along_x h [])
no_lines = λ it. left_out it.lit it.lines_are it.points
