-- The regions of names whose size is small enough are a scene's.
use Rattle.std.proofs.Common.{◌≡◌, ◌+◌, ◌≤◌, ◌<◌, ℕ, List, [], ◌∷◌, length, map, refl, arith, length-append}
use Rattle.std.specs.Prelude.{None, Some, All, AllPairs}
use Rattle.std.specs.List.{enumerate_from}
use Rattle.std.proofs.lemmas.List.{length-map}
use Rattle.std.proofs.lemmas.List.Elements.{All-cons, All-nil}
use Rattle.std.proofs.lemmas.List.Kept.{AllPairs-cons}
use Rattle.tree_forms.specs.Trees.{Leaf, Join, leaves}
use Rattle.name_core.specs.declared.name.Name.{Name}
use Rattle.directory.specs.Walks.{Entries}
use Rattle.shot_core.specs.Regions.{Region, IsScene, size_of_all, instances_of}
use Rattle.scene_prep.specs.Solids.{Expanded, solids_of, numbered, in_world}
use Rattle.scene_prep.specs.Regions.{NamedRegion, regions_of}
use Rattle.scene_prep.specs.Scenes.{region_at, scene_of}
use Rattle.scene_prep.specs.Sizes.{names_size, most_size}
use Rattle.scene_prep.proofs.Within.{total, total_first, regions_within_size}
use Rattle.scene_prep.proofs.Writing.{solids_within}

pub leaves-numbered : (first : ℕ) (t : Expanded) → length (leaves (numbered first t)) ≡ length (leaves t)
leaves-numbered first (Leaf None) = refl
leaves-numbered first (Leaf (Some one)) = refl
leaves-numbered first (Join op l r) =
    omega (
      arith,
      length-append (leaves (numbered first l)) (leaves (numbered (first + length (solids_of l)) r)),
      length-append (leaves l) (leaves r),
      leaves-numbered first l,
      leaves-numbered (first + length (solids_of l)) r,
    )

abbrev scene_from : ℕ → List NamedRegion → List Region
scene_from place regions = map (λ e. region_at e.0 e.1) (enumerate_from place regions)

size_from : (place : ℕ) (regions : List NamedRegion) → size_of_all (scene_from place regions) ≡ total regions
size_from place [] = refl
size_from place (region ∷ regions) = omega (arith, leaves-numbered 0 region.tree, total_first region regions, size_from (place + 1) regions)

instances_from : (place : ℕ) (regions : List NamedRegion) → length (instances_of (scene_from place regions)) ≤ total regions
instances_from place [] = omega arith
instances_from place (region ∷ regions) =
    omega (
      arith,
      length-append (map in_world (solids_of region.tree)) (instances_of (scene_from (place + 1) regions)),
      length-map (solids_of region.tree) in_world,
      solids_within region.tree,
      total_first region regions,
      instances_from (place + 1) regions,
    )

begun_from : (low place : ℕ) (regions : List NamedRegion) → low ≤ place → All (λ (r : Region). low ≤ r.place) (scene_from place regions)
begun_from low place [] le = All-nil (λ (r : Region). low ≤ r.place)
begun_from low place (region ∷ regions) le =
    All-cons (λ (r : Region). low ≤ r.place) (region_at place region) (scene_from (place + 1) regions) le (begun_from low (place + 1) regions (omega (arith, le)))

after_from : (low place : ℕ) (regions : List NamedRegion) → low < place → All (λ (r : Region). low < r.place) (scene_from place regions)
after_from low place [] lt = All-nil (λ (r : Region). low < r.place)
after_from low place (region ∷ regions) lt =
    All-cons (λ (r : Region). low < r.place) (region_at place region) (scene_from (place + 1) regions) lt (after_from low (place + 1) regions (omega (arith, lt)))

rising_from : (place : ℕ) (regions : List NamedRegion) → AllPairs (λ (r s : Region). r.place < s.place) (scene_from place regions)
rising_from place [] = λ i j d lt below. absurd (omega (arith, below))
rising_from place (region ∷ regions) =
    AllPairs-cons (λ (r s : Region). r.place < s.place) (region_at place region) (scene_from (place + 1) regions) (after_from place (place + 1) regions (omega arith)) (rising_from (place + 1) regions)

pub scene_rising : (directory : Entries) (names : List Name) → AllPairs (λ (r s : Region). r.place < s.place) (scene_of directory names)
scene_rising directory names = rising_from 1 (regions_of directory names)

pub scene_sound : (directory : Entries) (names : List Name) → names_size directory names ≤ most_size → IsScene (scene_of directory names)
scene_sound directory names small = record {
  rising = scene_rising directory names;
  begun = begun_from 1 1 (regions_of directory names) (omega arith);
  size = omega (arith, size_from 1 (regions_of directory names), regions_within_size directory names, small);
  instances = omega (arith, instances_from 1 (regions_of directory names), regions_within_size directory names, small);
}
