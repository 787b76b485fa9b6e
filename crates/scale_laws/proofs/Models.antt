-- Larger directories come to larger scenes.
use Rattle.std.proofs.Common.{◌≡◌, ◌<◌, ◌∙◌, ◌+◌, ℕ, List, [], ◌∷◌, ◌++◌, length, map, refl, ap, sym, subst, arith}
use Rattle.std.specs.Prelude.{None, Some, Option, cond, not, is_some, nat_lt}
use Rattle.std.specs.List.{enumerate_from}
use Rattle.std.specs.Option.{option_map, option_or}
use Rattle.std.proofs.lemmas.List.{map-append}
use Rattle.std.proofs.lemmas.List.Elements.{filter_map-append}
use Rattle.tree_forms.specs.Trees.{Leaf, Join, leaves}
use Rattle.lattice_core.specs.declared.placement.Placement.{Placement}
use Rattle.lattice_core.specs.declared.view.View.{View}
use Rattle.lattice_core.specs.Views.{pixel_ray}
use Rattle.name_core.specs.declared.name.Name.{Name}
use Rattle.region_attr.specs.declared.attr.Rgb.{Rgb}
use Rattle.directory.specs.Walks.{Entries, object_of}
use Rattle.bool_weave.specs.Masks.{Mask}
use Rattle.solid_set.specs.declared.surface.Surface.{Surface}
use Rattle.shot_core.specs.Regions.{Region}
use Rattle.ppm_write.specs.Pictures.{block_bytes, whole_span}
use Rattle.tile_shot.specs.Pixels.{part_of, pixel_of, pixel_up_to}
use Rattle.scene_prep.specs.declared.fault.PrepFault.TheVariants.{Missing, TooMany}
use Rattle.solid_set.specs.Placings.{own_surface, surface_under}
use Rattle.scene_prep.specs.Solids.{PlacedSolid, Expanded, solids_of, numbered, in_world}
use Rattle.scene_prep.specs.Outcomes.{first_missing, too_many, prep_fault}
use Rattle.scene_prep.specs.Regions.{NamedRegion, regions_of}
use Rattle.scene_prep.specs.Scenes.{body_of, region_at, scene_of}
use Rattle.scene_prep.specs.Sizes.{most_size, told_size}
use Rattle.order_laws.proofs.Listed.{length_moved}
use Rattle.solid_set.specs.Larger.{IsLargerSurface, larger_solid, larger_placement}
use Rattle.scale_laws.specs.Scenes.{AreLargerInstances, IsLargerBody, AreLargerRegions, larger_view}
use Rattle.scale_laws.specs.SceneLaws.{millimetre}
use Rattle.scale_laws.specs.Models.{larger_object, larger_directory}
use Rattle.scale_laws.specs.ModelLaws.{heading_of, ModelsScale, RaysOfModelsScaleToTenths, PicturesOfModelsStay}
use Rattle.solid_set.proofs.ScaledSolids.{own_larger, surface_placed}
use Rattle.scale_laws.proofs.Seen.{rays_scale_to_tenths, pictures_stay_in_tenths}
use Rattle.scale_laws.proofs.Expanded.{larger_placed, larger_expanded, larger_named, object_larger, names_larger, names_size_same}

-- ---- solids
under_larger : (m : ℕ) (placements : List Placement) (surface larger : Surface) → IsLargerSurface m surface larger
    → IsLargerSurface m (surface_under placements surface) (surface_under (map (larger_placement m) placements) larger)
under_larger m [] surface larger h = h
under_larger m (upper ∷ lower) surface larger h =
    surface_placed m upper (surface_under lower surface) (surface_under (map (larger_placement m) lower) larger) (under_larger m lower surface larger h)

worlds_larger : (m : ℕ) (solids : List PlacedSolid) → 0 < m → AreLargerInstances m (map in_world solids) (map in_world (map (larger_placed m) solids))
worlds_larger m [] some = tt
worlds_larger m (one ∷ solids) some = (under_larger m one.placements (own_surface one.solid) (own_surface (larger_solid m one.solid)) (own_larger m one.solid some), worlds_larger m solids some)

solids_moved : (m : ℕ) (tree : Expanded) → solids_of (larger_expanded m tree) ≡ map (larger_placed m) (solids_of tree)
solids_moved m (Leaf None) = refl
solids_moved m (Leaf (Some one)) = refl
solids_moved m (Join op l r) =
    filter_map-append (λ leaf. leaf) (leaves (larger_expanded m l)) (leaves (larger_expanded m r))
    ∙ (ap (λ (xs : List PlacedSolid). xs ++ solids_of (larger_expanded m r)) (solids_moved m l)
    ∙ (ap (λ (xs : List PlacedSolid). map (larger_placed m) (solids_of l) ++ xs) (solids_moved m r)
    ∙ (sym (map-append (larger_placed m) (solids_of l) (solids_of r))
    ∙ ap (map (larger_placed m)) (sym (filter_map-append (λ leaf. leaf) (leaves l) (leaves r))))))

numbers_stay : (m first : ℕ) (tree : Expanded) → numbered first (larger_expanded m tree) ≡ numbered first tree
numbers_stay m first (Leaf None) = refl
numbers_stay m first (Leaf (Some one)) = refl
numbers_stay m first (Join op l r) =
    let count : length (solids_of (larger_expanded m l)) ≡ length (solids_of l) = ap length (solids_moved m l) ∙ length_moved (larger_placed m) (solids_of l) in
    ap (λ (t : Mask). Join op t (numbered (first + length (solids_of (larger_expanded m l))) (larger_expanded m r))) (numbers_stay m first l)
    ∙ (ap (λ n. Join op (numbered first l) (numbered (first + n) (larger_expanded m r))) count
    ∙ ap (λ (t : Mask). Join op (numbered first l) t) (numbers_stay m (first + length (solids_of l)) r))

-- ---- scenes
body_larger : (m : ℕ) (region : NamedRegion) → 0 < m → IsLargerBody m (body_of region) (body_of (larger_named m region))
body_larger m region some = record {
  air = refl;
  rgb = refl;
  tree = numbers_stay m 0 region.tree;
  instances = subst (λ (xs : List PlacedSolid). AreLargerInstances m (map in_world (solids_of region.tree)) (map in_world xs)) (sym (solids_moved m region.tree))
      (worlds_larger m (solids_of region.tree) some);
}

abbrev pub scene_from : ℕ → List NamedRegion → List Region
scene_from place regions = map (λ e. region_at e.0 e.1) (enumerate_from place regions)

scene_larger : (m place : ℕ) (regions : List NamedRegion) → 0 < m → AreLargerRegions m (scene_from place regions) (scene_from place (map (larger_named m) regions))
scene_larger m place [] some = tt
scene_larger m place (region ∷ regions) some = (body_larger m region some, scene_larger m (place + 1) regions some)

headings_stay : (m place : ℕ) (regions : List NamedRegion) → map heading_of (scene_from place (map (larger_named m) regions)) ≡ map heading_of (scene_from place regions)
headings_stay m place [] = refl
headings_stay m place (region ∷ regions) = ap (λ hs. heading_of (region_at place region) ∷ hs) (headings_stay m (place + 1) regions)

-- ---- faults
pub is_there : {A B : Type 0} (f : A → B) (o : Option A) → is_some (option_map f o) ≡ is_some o
is_there f None = refl
is_there f (Some a) = refl

missing_stays : (m : ℕ) (directory : Entries) (names : List Name) → first_missing (larger_directory m directory) names ≡ first_missing directory names
missing_stays m directory [] = refl
missing_stays m directory (name ∷ names) =
    let there : is_some (object_of (larger_directory m directory) name) ≡ is_some (object_of directory name) =
    ap is_some (object_larger m directory name) ∙ is_there (larger_object m) (object_of directory name) in
    ap (λ b. cond (not b) (Some name) (first_missing (larger_directory m directory) names)) there
    ∙ ap (λ (o : Option Name). cond (not (is_some (object_of directory name))) (Some name) o) (missing_stays m directory names)

fault_stays : (m : ℕ) (directory : Entries) (names : List Name) → prep_fault (larger_directory m directory) names ≡ prep_fault directory names
fault_stays m directory names =
    ap (λ (missing : Option Name). option_or (option_map Missing missing) (too_many (larger_directory m directory) names)) (missing_stays m directory names)
    ∙ ap (λ size. option_or (option_map Missing (first_missing directory names)) (cond (nat_lt most_size size) (Some (TooMany (told_size size))) None)) (names_size_same m directory names)

models_larger : (m : ℕ) (directory : Entries) (names : List Name) → 0 < m → AreLargerRegions m (scene_of directory names) (scene_of (larger_directory m directory) names)
models_larger m directory names some =
    subst (λ (regions : List NamedRegion). AreLargerRegions m (scene_of directory names) (scene_from 1 regions)) (sym (names_larger m directory names)) (scene_larger m 1 (regions_of directory names) some)

pub models_scale : ModelsScale
models_scale m directory names some = record {
  regions = models_larger m directory names some;
  headings = ap (λ (regions : List NamedRegion). map heading_of (scene_from 1 regions)) (names_larger m directory names) ∙ headings_stay m 1 (regions_of directory names);
  size = names_size_same m directory names;
  fault = fault_stays m directory names;
}

-- ---- pictures
pub rays_of_models : RaysOfModelsScaleToTenths
rays_of_models far directory names ray end =
    rays_scale_to_tenths far (scene_of directory names) (scene_of (larger_directory millimetre directory) names) ray end (models_larger millimetre directory names (omega arith))

bytes_same : (f g : ℕ → ℕ → Rgb) (view : View) → ((column row : ℕ) → f column row ≡ g column row)
    → block_bytes (λ column row part. part_of (f column row) part) (whole_span view) ≡ block_bytes (λ column row part. part_of (g column row) part) (whole_span view)
bytes_same f g view h = λ i. block_bytes (λ column row part. part_of (h column row i) part) (whole_span view)

pub pictures_of_models : PicturesOfModelsStay
pictures_of_models far directory names view end =
    let regions = scene_of directory names in
    let larger = scene_of (larger_directory millimetre directory) names in
    bytes_same (λ column row. pixel_of larger (pixel_ray (larger_view millimetre view) column row)) (λ column row. pixel_up_to far regions (pixel_ray view column row)) view
    (λ column row. pictures_stay_in_tenths far regions larger view column row end (models_larger millimetre directory names (omega arith)))
