-- What regions come to where they stand: their paths, their bodies and their places.
use Rattle.std.proofs.Common.{◌≡◌, ◌∙◌, ◌+◌, ℕ, List, [], ◌∷◌, ◌++◌, length, map, refl, ap, sym, arith, append_assoc, length-append, vec_len}
use Rattle.std.specs.Prelude.{None, Some, codes, flat_map}
use Rattle.std.specs.List.{enumerate_from}
use Rattle.std.specs.Arc.{arc_value}
use Rattle.std.proofs.lemmas.List.{append-nil}
use Rattle.tree_forms.specs.Trees.{Leaf, Join}
use Rattle.lattice_core.specs.declared.vector.V3.{V3}
use Rattle.lattice_core.specs.declared.placement.Placement.{Placement}
use Rattle.lattice_core.specs.Placements.{placed}
use Rattle.name_core.specs.declared.name.Name.{Name}
use Rattle.region_attr.specs.declared.attr.Attr.{Attr}
use Rattle.region_attr.specs.declared.attr.Rgb.{Rgb}
use Rattle.bool_weave.specs.Masks.{Mask}
use Rattle.shot_core.specs.Regions.{Instance, RegionBody, Region}
use Rattle.scene_prep.specs.declared.colour.Colour.{Colour}
use Rattle.scene_prep.specs.declared.context.Context.{Context}
use Rattle.scene_prep.specs.declared.walk.Walk.{Walk}
use Rattle.solid_set.specs.Placings.{point_under}
use Rattle.scene_prep.specs.Solids.{Expanded, placed_tree, solids_of, numbered, in_world}
use Rattle.scene_prep.specs.Regions.{NamedRegion, within_comb, placed_region}
use Rattle.scene_prep.specs.Scenes.{path_text, node_text, body_of, region_at}
use Rattle.scene_prep.specs.Steps.{under_combs, under_comb, path_to}
use Rattle.scene_prep.specs.Walking.{Content, content, body_under, settled_in, contents_in, IsTop, IsPlacedIn, IsWithinComb, region_from, placed_from, Adds}
use Rattle.scene_prep.proofs.Colours.{colour_is}
use Rattle.scene_prep.proofs.Writing.{worlds_joined, numbered_placed, worlds_composed}
use Rattle.scene_prep.proofs.Worlds.{same_world}

abbrev names_path : List Name → List ℕ
names_path names = flat_map (λ name. codes "/" ++ name) names

path_within : (above below : List ℕ) (name : Name) (region : NamedRegion) → below ≡ path_to above name
    → above ++ ((codes "/" ++ name) ++ names_path region.names ++ node_text region.node) ≡ below ++ path_text region
path_within above below name region is =
    ap (λ (p : List ℕ). above ++ p) (append_assoc (codes "/" ++ name) (names_path region.names) (node_text region.node))
    ∙ sym (append_assoc above (codes "/" ++ name) (path_text region))
    ∙ ap (λ (p : List ℕ). p ++ path_text region) (sym is)

-- the region of a combination's is the tree's where the tree stands
pub within_settled : (above below : Context) (name : Name) (attr : Attr) → IsWithinComb above name attr below → (region : NamedRegion) → settled_in above (within_comb name attr region) ≡ settled_in below region
within_settled above below name attr h region =
    ap (λ (p : List ℕ). content p (body_under above.by (under_combs (under_comb above.colour attr) region.attrs).rgb region)) (path_within (arc_value above.path) (arc_value below.path) name region h.path)
    ∙ ap (λ (c : Colour). content (arc_value below.path ++ path_text region) (body_under above.by (under_combs c region.attrs).rgb region)) (sym h.colour)
    ∙ ap (λ (by : Placement). content (arc_value below.path ++ path_text region) (body_under by (under_combs below.colour region.attrs).rgb region)) (sym h.by)

pub within_contents : (above below : Context) (name : Name) (attr : Attr) → IsWithinComb above name attr below → (regions : List NamedRegion)
    → contents_in above (map (within_comb name attr) regions) ≡ contents_in below regions
within_contents above below name attr h [] = refl
within_contents above below name attr h (region ∷ regions) =
    ap (λ (c : Content). c ∷ contents_in above (map (within_comb name attr) regions)) (within_settled above below name attr h region)
    ∙ ap (λ (cs : List Content). settled_in below region ∷ cs) (within_contents above below name attr h regions)

-- a body by what a placement changes in it
abbrev body_of_parts : NamedRegion → Rgb → Mask → List Instance → RegionBody
body_of_parts region rgb tree instances = record { id = region.id; air = region.air; rgb = rgb; tree = tree; instances = instances }

-- the region of a member's that is placed is the member's where it stands
pub placed_settled : (above below : Context) (member : Placement) → IsPlacedIn above member below → (region : NamedRegion) → settled_in above (placed_region member region) ≡ settled_in below region
placed_settled above below member h region =
    ap (λ (p : List ℕ). content (p ++ path_text region) (body_under above.by (under_combs above.colour region.attrs).rgb (placed_region member region))) (sym h.path)
    ∙ ap (λ (c : Colour). content (arc_value below.path ++ path_text region) (body_under above.by (under_combs c region.attrs).rgb (placed_region member region))) (sym h.colour)
    ∙ ap (λ (t : Mask). content (arc_value below.path ++ path_text region) (body_of_parts region (under_combs below.colour region.attrs).rgb t (map in_world (solids_of (placed_tree above.by (placed_tree member region.tree))))))
    (numbered_placed 0 member region.tree)
    ∙ ap (λ (is : List Instance). content (arc_value below.path ++ path_text region) (body_of_parts region (under_combs below.colour region.attrs).rgb (numbered 0 region.tree) is))
    (sym (worlds_composed below.by above.by member h.by region.tree))

pub placed_contents : (above below : Context) (member : Placement) → IsPlacedIn above member below → (regions : List NamedRegion)
    → contents_in above (map (placed_region member) regions) ≡ contents_in below regions
placed_contents above below member h [] = refl
placed_contents above below member h (region ∷ regions) =
    ap (λ (c : Content). c ∷ contents_in above (map (placed_region member) regions)) (placed_settled above below member h region)
    ∙ ap (λ (cs : List Content). settled_in below region ∷ cs) (placed_contents above below member h regions)

-- ---- at the top
worlds_still : (by : Placement) → ((p : V3) → placed by p ≡ p) → (t : Expanded) → map in_world (solids_of (placed_tree by t)) ≡ map in_world (solids_of t)
worlds_still by still (Leaf None) = refl
worlds_still by still (Leaf (Some one)) = ap (λ (i : Instance). i ∷ []) (same_world one.solid (by ∷ one.placements) one.placements (λ p. still (point_under one.placements p)))
worlds_still by still (Join o l r) =
    worlds_joined o (placed_tree by l) (placed_tree by r)
    ∙ ap (λ (xs : List Instance). xs ++ map in_world (solids_of (placed_tree by r))) (worlds_still by still l)
    ∙ ap (λ (xs : List Instance). map in_world (solids_of l) ++ xs) (worlds_still by still r)
    ∙ sym (worlds_joined o l r)

top_settled : (top : Context) → IsTop top → (region : NamedRegion) → settled_in top region ≡ content (path_text region) (body_of region)
top_settled top h region =
    ap (λ (p : List ℕ). content (p ++ path_text region) (body_under top.by (under_combs top.colour region.attrs).rgb region)) h.path
    ∙ ap (λ (c : Colour). content (path_text region) (body_under top.by (under_combs c region.attrs).rgb region)) h.colour
    ∙ ap (λ (c : Rgb). content (path_text region) (body_under top.by c region)) (colour_is region.attrs)
    ∙ ap (λ (is : List Instance). content (path_text region) (body_of_parts region (body_of region).rgb (numbered 0 region.tree) is)) (worlds_still top.by h.by region.tree)

pub top_placed : (top : Context) → IsTop top → (place : ℕ) (regions : List NamedRegion) → placed_from place (contents_in top regions) ≡ map (λ e. region_at e.0 e.1) (enumerate_from place regions)
top_placed top h place [] = refl
top_placed top h place (region ∷ regions) =
    ap (λ (c : Content). region_from place c ∷ placed_from (place + 1) (contents_in top regions)) (top_settled top h region)
    ∙ ap (λ (rs : List Region). region_at place region ∷ rs) (top_placed top h (place + 1) regions)

-- ---- places
placed-append : (place : ℕ) (xs ys : List Content) → placed_from place (xs ++ ys) ≡ placed_from place xs ++ placed_from (place + length xs) ys
placed-append place [] ys = ap (λ (n : ℕ). placed_from n ys) (omega arith)
placed-append place (x ∷ xs) ys =
    ap (λ (rs : List Region). region_from place x ∷ rs) (placed-append (place + 1) xs ys)
    ∙ ap (λ (n : ℕ). region_from place x ∷ (placed_from (place + 1) xs ++ placed_from n ys)) (omega arith)

length-placed : (place : ℕ) (xs : List Content) → length (placed_from place xs) ≡ length xs
length-placed place [] = refl
length-placed place (x ∷ xs) = omega (arith, length-placed (place + 1) xs)

pub adds_none : (walk : Walk) → Adds walk walk []
adds_none walk = sym (append-nil walk.regions.items)

pub adds_counted : (old new : Walk) (xs : List Content) → Adds old new xs → vec_len new.regions ≡ vec_len old.regions + length xs
adds_counted old new xs h =
    omega (arith, ap length h, length-append old.regions.items (placed_from (vec_len old.regions + 1) xs), length-placed (vec_len old.regions + 1) xs, old.regions.ok.0, new.regions.ok.0)

pub adds_more : (old mid new : Walk) (xs ys : List Content) → Adds old mid xs → Adds mid new ys → Adds old new (xs ++ ys)
adds_more old mid new xs ys h k =
    let count : vec_len mid.regions + 1 ≡ vec_len old.regions + 1 + length xs = omega (arith, adds_counted old mid xs h) in
    k
    ∙ ap (λ (rs : List Region). rs ++ placed_from (vec_len mid.regions + 1) ys) h
    ∙ append_assoc old.regions.items (placed_from (vec_len old.regions + 1) xs) (placed_from (vec_len mid.regions + 1) ys)
    ∙ ap (λ (n : ℕ). old.regions.items ++ (placed_from (vec_len old.regions + 1) xs ++ placed_from n ys)) count
    ∙ ap (λ (rs : List Region). old.regions.items ++ rs) (sym (placed-append (vec_len old.regions + 1) xs ys))

pub adds_same : (old new : Walk) (xs ys : List Content) → xs ≡ ys → Adds old new xs → Adds old new ys
adds_same old new xs ys e h = h ∙ ap (λ (cs : List Content). old.regions.items ++ placed_from (vec_len old.regions + 1) cs) e
