-- The presented region is true of the points of a ray, and no other place is.
use Rattle.std.proofs.Common.{◌≡◌, ℕ, List, Option, Some, None, refl, ap, sym, ◌∙◌, inl, inr}
use Rattle.lattice_core.specs.declared.ray.Ray.{Ray}
use Rattle.shot_core.specs.declared.shot.Lit.{Lit}
use Rattle.shot_core.specs.FirstShots.{first_seen}
use Rattle.shot_core.specs.Pruned.{place_of}
use Rattle.shot_core.specs.Regions.{Region, HaveInstances}
use Rattle.shot_core.specs.SeenPoints.{IsSeenFirst}
use Rattle.shot_core.proofs.SeenTruth.{seen_tells_points}
use Rattle.tile_shot.specs.Reports.{HaveRisingPlaces}
use Rattle.view_laws.proofs.FirstRegion.{not_nothing, same_region}
use Rattle.view_laws.proofs.Pixels.{presents}
use Rattle.area_tool.specs.Presented.{place_by, presented}
use Rattle.area_laws.specs.PlacePoints.{IsTruePlace, PlacesTellPoints}

module _ (regions : List Region) (ray : Ray) (rising : HaveRisingPlaces regions) where
  one_place : (c d : ℕ) → IsTruePlace regions ray c → IsTruePlace regions ray d → c ≡ d
  one_place c d (inl s) (inl t) = s.is ∙ ap (λ (r : Region). r.place) (same_region regions ray rising s.first t.first) ∙ sym t.is
  one_place c d (inl s) (inr none) = absurd (not_nothing regions ray rising s.first none.1)
  one_place c d (inr none) (inl t) = absurd (not_nothing regions ray rising t.first none.1)
  one_place c d (inr none) (inr none') = none.0 ∙ sym none'.0

  shown : (below : HaveInstances regions) (o : Option Lit) → first_seen regions ray ≡ o → IsSeenFirst regions ray o → IsTruePlace regions ray (place_by regions o)
  unfolding presents
  shown below None e seen = inr (refl, seen)
  shown below (Some l) e seen = inl (record { first = presents regions ray rising below l e seen; is = ap place_of seen.there })

pub places_tell_points : PlacesTellPoints
places_tell_points regions ray rising below =
    let own = shown regions ray rising below (first_seen regions ray) refl (seen_tells_points regions ray rising below) in
    record { told = own; alone = λ other told. one_place regions ray rising other (presented regions ray) told own }
