-- Along an axis the partitions are those of the plain ray.
use Rattle.std.proofs.Common.{◌≡◌, ℕ, ◌+◌, List, [], ◌∷◌, ◌++◌, map, Option, Some, None, refl, ap, sym, ◌∙◌}
use Rattle.lattice_core.specs.declared.limit.TheConstants.{FAR}
use Rattle.lattice_core.specs.declared.ray.Ray.{Ray}
use Rattle.lattice_core.specs.Units.{unit_of}
use Rattle.solid_set.specs.Segments.{segment_of}
use Rattle.surd_order.specs.declared.position.Seg.{Seg}
use Rattle.surd_order.specs.Order.{IsPlace}
use Rattle.bool_weave.specs.declared.woven.Woven.{Woven}
use Rattle.bool_weave.proofs.Sorted.{Has}
use Rattle.overlap_list.specs.declared.partition.Partition.{Partition}
use Rattle.overlap_list.specs.declared.region.RegionClaims.{RegionClaims}
use Rattle.overlap_list.specs.Firsts.{partitions_by}
use Rattle.overlap_list.specs.Partitions.{partitions_of}
use Rattle.order_laws.specs.Parts.{Part}
use Rattle.shot_core.specs.FirstShots.{trees_of}
use Rattle.shot_core.specs.Regions.{Instance, Region, instances_of}
use Rattle.shot_core.specs.Shots.{woven_if, woven_from, woven_of, lit_by}
use Rattle.shot_core.proofs.FirstShots.{claims_by_trees}
use Rattle.shot_core.proofs.OnRay.{place_is, woven_on_ray}
use Rattle.shot_core.proofs.Weaving.{has_woven}
use Rattle.slant_ranks.specs.Laws.{HavePlaces}
use Rattle.slant_ranks.specs.Slants.{SlantSegment, slant_parts, slant_of, part_of_partition}
use Rattle.slant_ranks.proofs.Axes.{plain_rays_have_slant_parts}
use Rattle.surd_quot.specs.declared.position.QPos.{QPos}
use Rattle.oblique_ray.specs.declared.slab.Slab.{Slab}
use Rattle.oblique_ray.specs.Axes.{stretch_of}
use Rattle.oblique_ray.specs.Segments.{Stretch}
use Rattle.oblique_ray.specs.Shots.{segment_if, segments_from, slab_of, slab_of_lit, PartitionsAlongAxes}
use Rattle.oblique_ray.proofs.OnAxes.{axes_are_as_before}
use Rattle.oblique_ray.proofs.Segmented.{all_by}

if_same : (n : ℕ) (found : Option Seg) (ss : List SlantSegment) (ws : List Woven) → ss ≡ map slant_of ws → segment_if n (stretch_of found) ++ ss ≡ map slant_of (woven_if n found ++ ws)
if_same n None ss ws e = e
if_same n (Some seg) ss ws e = ap (λ (l : List SlantSegment). slant_of (record { instance = n; seg = seg }) ∷ l) e

segments_same : (ray : Ray) (first : ℕ) (xs : List Instance) → segments_from FAR ray.origin (unit_of ray.dir) first xs ≡ map slant_of (woven_from ray first xs)
segments_same ray first [] = refl
segments_same ray first (i ∷ xs) =
    ap (λ (found : Option Stretch). segment_if first found ++ segments_from FAR ray.origin (unit_of ray.dir) (first + 1) xs) (axes_are_as_before.segment i.surface ray)
    ∙ if_same first (segment_of i.surface ray) (segments_from FAR ray.origin (unit_of ray.dir) (first + 1) xs) (woven_from ray (first + 1) xs) (segments_same ray (first + 1) xs)

woven_places : (regions : List Region) (ray : Ray) → HavePlaces (woven_of regions ray)
woven_places regions ray = all_by (λ (w : Woven). IsPlace w.seg.start × IsPlace w.seg.end) (woven_of regions ray) places
  where
    places : (w : Woven) → Has (woven_of regions ray) w → IsPlace w.seg.start × IsPlace w.seg.end
    places w there =
        let seg = woven_on_ray ray (instances_of regions) (woven_of regions ray) (λ v has. has_woven ray 0 (instances_of regions) v has) w there in (place_is w.seg.start seg.start, place_is w.seg.end seg.end)

lists_same : (regions : List Region) (ray : Ray) (ps : List Partition) → map slab_of (map part_of_partition ps) ≡ map slab_of_lit (map (lit_by regions ray) ps)
lists_same regions ray [] = refl
lists_same regions ray (p ∷ ps) = ap (λ (l : List Slab). slab_of (part_of_partition p) ∷ l) (lists_same regions ray ps)

pub partitions_along_axes : PartitionsAlongAxes
partitions_along_axes regions ray =
    let woven : List Woven = woven_of regions ray in
    ap (λ (segments : List SlantSegment). map slab_of (slant_parts FAR segments (trees_of regions))) (segments_same ray 0 (instances_of regions))
    ∙ ap (λ (parts : List (Part QPos)). map slab_of parts) (plain_rays_have_slant_parts woven (trees_of regions) (woven_places regions ray))
    ∙ lists_same regions ray (partitions_by woven (trees_of regions))
    ∙ ap (λ (rows : List RegionClaims). map slab_of_lit (map (lit_by regions ray) (partitions_of woven rows))) (sym (claims_by_trees woven 0 regions))
