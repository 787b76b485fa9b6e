-- What a ray meets of names without line feeds stands on lines of its own.
use Rattle.std.proofs.Common.{◌≡◌, ◌++◌, ◌+◌, ◌==◌, find, ℕ, zero, suc, Bool, true, false, cond, List, [], ◌∷◌, Option, Some, None, map, flat_map, codes, slice_get, refl, subst}
use Rattle.std.specs.List.{AllByRecursion, enumerate_from}
use Rattle.lattice_core.specs.declared.placement.Placement.{Placement}
use Rattle.lattice_core.specs.declared.ray.Ray.{Ray}
use Rattle.tree_forms.specs.Trees.{Tree, Leaf, Join}
use Rattle.name_core.specs.declared.name.Name.{Name}
use Rattle.name_core.specs.Same.{same_name}
use Rattle.region_attr.specs.declared.attr.Attr.{Attr}
use Rattle.comb_tree.specs.Nodes.{Member, Comb as CombTree}
use Rattle.object_set.specs.declared.object.Body.{Body}
use Rattle.object_set.specs.declared.object.Body.TheVariants as bodies
use Rattle.object_set.specs.Objects.{Parts}
use Rattle.directory.specs.Walks.{Entries, object_of}
use Rattle.transcript.specs.Lines.{Lacks}
use Rattle.transcript.proofs.LineLaws.{lacks_append}
use Rattle.transcript.proofs.TranscriptLaws.{computed}
use Rattle.shot_core.specs.Regions.{Region}
use Rattle.shot_core.specs.declared.shot.Lit.{Lit}
use Rattle.shot_core.specs.Shots.{lit_of}
use Rattle.scene_prep.specs.Solids.{Expanded}
use Rattle.scene_prep.specs.Expanding.{expanded_within, most_levels}
use Rattle.scene_prep.specs.Regions.{NamedRegion, placed_region, within_comb, united_parts, regions_united, regions_of_tree, regions_of_comb, regions_of_body, regions_of_object, regions_within, regions_of_name, regions_of, whole_region}
use Rattle.scene_prep.specs.Scenes.{node_text, path_text, region_at, scene_of}
use Rattle.report_text.specs.Shots.{line_in, shot_lines}
use Rattle.mged_words.specs.Readable.{ArePlain}
use Rattle.session_run.specs.Replies.{lines_of_areas, lines_of_check, lines_of_scene, lines_of_slant}
use Rattle.area_tool.specs.Areas.{area}
use Rattle.area_tool.specs.Presented.{view_presents}
use Rattle.slant_ray.specs.declared.ray.SlantRay.{SlantRay}
use Rattle.slant_ray.specs.Rays.{direction_of}
use Rattle.oblique_ray.specs.declared.slab.Slab.{Slab}
use Rattle.oblique_ray.specs.Shots.{slabs_on}
use Rattle.report_text.specs.Areas.{area_line, area_lines}
use Rattle.report_text.specs.Slants.{slab_line_in, slant_lines}
use Rattle.report_text.proofs.AreaLaws.{area_one_line}
use Rattle.report_text.proofs.SlantLaws.{slab_one_line}
use Rattle.session_run.proofs.EditLaws.{HasPlainNames, same_plain}
use Rattle.report_text.proofs.ShotLaws.{number_lacks, part_one_line}
use Rattle.report_text.proofs.OverlapLaws.{pair_one_line}
use Rattle.report_text.specs.Overlaps.{path_in, path_at, overlap_lines}
use Rattle.shot_core.specs.declared.pair.Pair.{Pair}
use Rattle.tile_shot.specs.Reports.{view_report}
use Rattle.lattice_core.specs.declared.view.View.{View}

-- a name that a directory has is plain as its names are
key_step : (t : Bool) (name key : Name) (object o : Parts) (rest : Option Parts) → (t ≡ true → Lacks 10 name) → (rest ≡ Some o → Lacks 10 name) → cond t (Some object) rest ≡ Some o → Lacks 10 name
key_step true name key object o rest h k e = h refl
key_step false name key object o rest h k e = k e

key_plain : (es : Entries) (name : Name) (o : Parts) → HasPlainNames es → object_of es name ≡ Some o → Lacks 10 name
key_plain [] name o h e = absurd cc
key_plain (x ∷ es) name o h e = key_step (same_name name x.0) name x.0 x.1 o (object_of es name) (same_plain name x.0 h.0) (key_plain es name o h.1) e

-- a region whose path is made of plain names
abbrev IsPlainRegion : NamedRegion → Type 0
IsPlainRegion region = ArePlain region.names

abbrev ArePlainRegions : List NamedRegion → Type 0
ArePlainRegions regions = AllByRecursion IsPlainRegion regions

both_plain : (xs ys : List NamedRegion) → ArePlainRegions xs → ArePlainRegions ys → ArePlainRegions (xs ++ ys)
both_plain [] ys h k = k
both_plain (x ∷ xs) ys h k = (h.0, both_plain xs ys h.1 k)

placed_plain : (by : Placement) (xs : List NamedRegion) → ArePlainRegions xs → ArePlainRegions (map (placed_region by) xs)
placed_plain by [] h = tt
placed_plain by (x ∷ xs) h = (h.0, placed_plain by xs h.1)

within_plain : (name : Name) (attr : Attr) (xs : List NamedRegion) → Lacks 10 name → ArePlainRegions xs → ArePlainRegions (map (within_comb name attr) xs)
within_plain name attr [] k h = tt
within_plain name attr (x ∷ xs) k h = ((k, h.0), within_plain name attr xs k h.1)

united_plain : (expand : Name → Expanded) (below : Name → List NamedRegion) (number : ℕ) (parts : List (Tree Member)) → ((name : Name) → ArePlainRegions (below name)) → ArePlainRegions (regions_united expand below number parts)
united_plain expand below number [] h = tt
united_plain expand below number (Leaf member ∷ parts) h =
    both_plain (map (placed_region member.placement) (below member.name)) (regions_united expand below number parts) (placed_plain member.placement (below member.name) (h member.name)) (united_plain expand below number parts h)
united_plain expand below number (Join op l r ∷ parts) h = (tt, united_plain expand below (number + 1) parts h)

tree_step : (t : Bool) (one other : List NamedRegion) → ArePlainRegions one → ArePlainRegions other → ArePlainRegions (cond t one other)
tree_step true one other h k = h
tree_step false one other h k = k

comb_plain : (expand : Name → Expanded) (below : Name → List NamedRegion) (name : Name) (attr : Attr) (tree : CombTree) → Lacks 10 name → ((name : Name) → ArePlainRegions (below name))
    → ArePlainRegions (regions_of_comb expand below name attr tree)
comb_plain expand below name attr None k h = tt
comb_plain expand below name attr (Some tree) k h =
    within_plain name attr (regions_of_tree expand below attr tree) k
    (tree_step attr.region (whole_region expand attr tree ∷ []) (regions_united expand below 1 (united_parts tree)) (tt, tt) (united_plain expand below 1 (united_parts tree) h))

body_plain : (expand : Name → Expanded) (below : Name → List NamedRegion) (name : Name) (body : Body) → Lacks 10 name → ((name : Name) → ArePlainRegions (below name)) → ArePlainRegions (regions_of_body expand below name body)
body_plain expand below name (bodies.Solid solid) k h = ((k, tt), tt)
body_plain expand below name (bodies.Comb attr tree) k h = comb_plain expand below name attr tree k h

object_plain : (expand : Name → Expanded) (below : Name → List NamedRegion) (name : Name) (object : Option Parts) → ((o : Parts) → object ≡ Some o → Lacks 10 name) → ((name : Name) → ArePlainRegions (below name))
    → ArePlainRegions (regions_of_object expand below name object)
object_plain expand below name None k h = tt
object_plain expand below name (Some object) k h = body_plain expand below name object.body (k object refl) h

levels_plain : (levels : ℕ) (es : Entries) (name : Name) → HasPlainNames es → ArePlainRegions (regions_within levels es name)
levels_plain zero es name h = tt
levels_plain (suc levels) es name h =
    object_plain (expanded_within levels es) (regions_within levels es) name (object_of es name) (λ o e. key_plain es name o h e) (λ n. levels_plain levels es n h)

name_plain : (es : Entries) (name : Name) → HasPlainNames es → ArePlainRegions (regions_of_name es name)
unfolding regions_of_name
name_plain es name h = levels_plain most_levels es name h

regions_plain : (es : Entries) (names : List Name) → HasPlainNames es → ArePlainRegions (regions_of es names)
regions_plain es [] h = tt
regions_plain es (name ∷ names) h = both_plain (regions_of_name es name) (regions_of es names) (name_plain es name h) (regions_plain es names h)

-- their paths
node_plain : (node : Option ℕ) → Lacks 10 (node_text node)
node_plain None = tt
node_plain (Some number) = lacks_append 10 (codes "#") _ (computed 10 (codes "#") refl) (number_lacks number)

names_one_line : (names : List Name) → ArePlain names → Lacks 10 (flat_map (λ name. codes "/" ++ name) names)
names_one_line [] h = tt
names_one_line (name ∷ names) h = lacks_append 10 (codes "/" ++ name) _ (lacks_append 10 (codes "/") name (computed 10 (codes "/") refl) h.0) (names_one_line names h.1)

path_one_line : (region : NamedRegion) → IsPlainRegion region → Lacks 10 (path_text region)
path_one_line region h = lacks_append 10 (flat_map (λ name. codes "/" ++ name) region.names) _ (names_one_line region.names h) (node_plain region.node)

abbrev HasPlainPaths : List Region → Type 0
HasPlainPaths scene = AllByRecursion (λ (region : Region). Lacks 10 region.path) scene

paths_plain : (place : ℕ) (regions : List NamedRegion) → ArePlainRegions regions → HasPlainPaths (map (λ (e : ℕ × NamedRegion). region_at e.0 e.1) (enumerate_from place regions))
paths_plain place [] h = tt
paths_plain place (region ∷ regions) h = (path_one_line region h.0, paths_plain (place + 1) regions h.1)

scene_plain : (es : Entries) (names : List Name) → HasPlainNames es → HasPlainPaths (scene_of es names)
scene_plain es names h = paths_plain 1 (regions_of es names) (regions_plain es names h)

-- and the lines of what is lit
region_plain : (scene : List Region) (number : ℕ) (region : Region) → HasPlainPaths scene → slice_get scene number ≡ Some region → Lacks 10 region.path
region_plain [] number region h e = absurd cc
region_plain (r ∷ scene) zero region h e = let same : r ≡ region = cc in subst (λ (x : Region). Lacks 10 x.path) same h.0
region_plain (r ∷ scene) (suc number) region h e = region_plain scene number region h.1 e

line_plain : (there : Option Region) (lit : Lit) → ((region : Region) → there ≡ Some region → Lacks 10 region.path) → Lacks 10 (line_in there lit)
line_plain None lit h = tt
line_plain (Some region) lit h = part_one_line region lit (h region refl)

all_plain : (scene : List Region) (lit : List Lit) → HasPlainPaths scene → AllByRecursion (Lacks 10) (shot_lines scene lit)
all_plain scene [] h = tt
all_plain scene (l ∷ lit) h = (line_plain (slice_get scene l.region) l (λ region e. region_plain scene l.region region h e), all_plain scene lit h)

pub shot_plain : (es : Entries) (names : List Name) (ray : Ray) → HasPlainNames es → AllByRecursion (Lacks 10) (lines_of_scene (scene_of es names) ray)
shot_plain es names ray h = all_plain (scene_of es names) (lit_of (scene_of es names) ray) (scene_plain es names h)

-- and of what overlaps
path_step : (t : Bool) (region : Region) (rest : Option Region) → Lacks 10 region.path → Lacks 10 (path_in rest) → Lacks 10 (path_in (cond t (Some region) rest))
path_step true region rest h k = h
path_step false region rest h k = k

path_plain : (scene : List Region) (place : ℕ) → HasPlainPaths scene → Lacks 10 (path_at scene place)
path_plain [] place h = tt
path_plain (r ∷ scene) place h = path_step (r.place == place) r (find (λ s. s.place == place) scene) h.0 (path_plain scene place h.1)

pairs_plain : (scene : List Region) (pairs : List Pair) → HasPlainPaths scene → AllByRecursion (Lacks 10) (overlap_lines scene pairs)
pairs_plain scene [] h = tt
pairs_plain scene (p ∷ pairs) h = (pair_one_line scene p (path_plain scene p.one h) (path_plain scene p.two h), pairs_plain scene pairs h)

pub check_plain : (es : Entries) (names : List Name) (view : View) → HasPlainNames es → AllByRecursion (Lacks 10) (lines_of_check (scene_of es names) view)
check_plain es names view h = pairs_plain (scene_of es names) (view_report (scene_of es names) view) (scene_plain es names h)

-- and of what a ray in a lattice direction meets
slab_plain : (there : Option Region) (slab : Slab) → ((region : Region) → there ≡ Some region → Lacks 10 region.path) → Lacks 10 (slab_line_in there slab)
slab_plain None slab h = tt
slab_plain (Some region) slab h = slab_one_line region slab (h region refl)

slabs_plain : (scene : List Region) (slabs : List Slab) → HasPlainPaths scene → AllByRecursion (Lacks 10) (slant_lines scene slabs)
slabs_plain scene [] h = tt
slabs_plain scene (s ∷ slabs) h = (slab_plain (slice_get scene s.region) s (λ region e. region_plain scene s.region region h e), slabs_plain scene slabs h)

pub slant_plain : (es : Entries) (names : List Name) (ray : SlantRay) → HasPlainNames es → AllByRecursion (Lacks 10) (lines_of_slant (scene_of es names) ray)
slant_plain es names ray h = slabs_plain (scene_of es names) (slabs_on (scene_of es names) ray.origin (direction_of ray)) (scene_plain es names h)

-- and of areas
area_step : (t : Bool) (region : Region) (pixels : ℕ) (rest : List (List ℕ)) → Lacks 10 region.path → AllByRecursion (Lacks 10) rest → AllByRecursion (Lacks 10) (cond t [] (area_line region pixels ∷ []) ++ rest)
area_step true region pixels rest h k = k
area_step false region pixels rest h k = (area_one_line region pixels h, k)

counts_plain : (scene : List Region) (pixels_at : ℕ → ℕ) → HasPlainPaths scene → AllByRecursion (Lacks 10) (area_lines scene pixels_at)
counts_plain [] pixels_at h = tt
counts_plain (r ∷ scene) pixels_at h = area_step (pixels_at r.place == 0) r (pixels_at r.place) (area_lines scene pixels_at) h.0 (counts_plain scene pixels_at h.1)

pub areas_plain : (es : Entries) (names : List Name) (view : View) → HasPlainNames es → AllByRecursion (Lacks 10) (lines_of_areas (scene_of es names) view)
areas_plain es names view h = counts_plain (scene_of es names) (area (view_presents (scene_of es names) view)) (scene_plain es names h)
