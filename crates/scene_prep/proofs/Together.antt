-- The regions of a name together hold what its tree holds.
use Rattle.std.proofs.Common.{◌≡◌, ◌∙◌, ◌+◌, ℕ, zero, suc, List, [], ◌∷◌, ◌++◌, map, refl, ap, sym, Bool, true, false, ◌||◌}
use Rattle.std.specs.Prelude.{None, Some, Option, cond}
use Rattle.std.specs.List.{list_any}
use Rattle.tree_forms.specs.declared.Op.TheVariants.{U, N, Minus, X}
use Rattle.tree_forms.specs.Trees.{Tree, Leaf, Join, holds_by, joined}
use Rattle.lattice_core.specs.declared.placement.Placement.{Placement}
use Rattle.name_core.specs.declared.name.Name.{Name}
use Rattle.region_attr.specs.declared.attr.Attr.{Attr}
use Rattle.comb_tree.specs.Nodes.{Member}
use Rattle.object_set.specs.declared.object.Body.{Body}
use Rattle.object_set.specs.declared.object.Body.TheVariants as bodies
use Rattle.object_set.specs.Objects.{Parts}
use Rattle.directory.specs.Walks.{Entries, object_of}
use Rattle.scene_prep.specs.Solids.{Expanded, PlacedSolid, placed_solid, placed_tree}
use Rattle.scene_prep.specs.Expanding.{expanded, expanded_within, expanded_tree, expanded_body, expanded_object, most_levels}
use Rattle.scene_prep.specs.Regions.{NamedRegion, within_comb, placed_region, whole_region, united_parts, regions_united, regions_of_tree, regions_of_body, regions_of_object, regions_within, regions_of_name}
use Rattle.scene_prep.specs.Laws.{solid_value}

abbrev holds : (PlacedSolid → Bool) → Expanded → Bool
holds values tree = holds_by (solid_value values) tree

-- whether one of the regions holds
abbrev some_holds : (PlacedSolid → Bool) → List NamedRegion → Bool
some_holds values regions = list_any (λ region. holds_by (solid_value values) region.tree) regions

any-map : {A B : Type 0} (f : B → Bool) (g : A → B) (xs : List A) → list_any f (map g xs) ≡ list_any (λ x. f (g x)) xs
any-map f g [] = refl
any-map f g (x ∷ xs) = ap (λ b. f (g x) || b) (any-map f g xs)

or_assoc : (x y z : Bool) → (x || y) || z ≡ x || (y || z)
or_assoc true y z = refl
or_assoc false y z = refl

or_false : (x : Bool) → x || false ≡ x
or_false true = refl
or_false false = refl

any-append : {A : Type 0} (f : A → Bool) (xs ys : List A) → list_any f (xs ++ ys) ≡ list_any f xs || list_any f ys
any-append f [] ys = refl
any-append f (x ∷ xs) ys = ap (λ b. f x || b) (any-append f xs ys) ∙ sym (or_assoc (f x) (list_any f xs) (list_any f ys))

any-same : {A : Type 0} (f g : A → Bool) → ((x : A) → f x ≡ g x) → (xs : List A) → list_any f xs ≡ list_any g xs
any-same f g each [] = refl
any-same f g each (x ∷ xs) = ap (λ b. b || list_any f xs) (each x) ∙ ap (λ b. g x || b) (any-same f g each xs)

holds_placed : (by : Placement) (values : PlacedSolid → Bool) (tree : Expanded) → holds values (placed_tree by tree) ≡ holds (λ one. values (placed_solid by one)) tree
holds_placed by values (Leaf None) = refl
holds_placed by values (Leaf (Some one)) = refl
holds_placed by values (Join op l r) =
    ap (λ b. joined op b (holds values (placed_tree by r))) (holds_placed by values l)
    ∙ ap (λ b. joined op (holds (λ one. values (placed_solid by one)) l) b) (holds_placed by values r)

-- the regions of each name hold together what the name's tree holds
abbrev AreTogether : (Name → Expanded) → (Name → List NamedRegion) → Type 0
AreTogether expand below = (name : Name) (values : PlacedSolid → Bool) → some_holds values (below name) ≡ holds values (expand name)

of_member : (expand : Name → Expanded) (below : Name → List NamedRegion) → AreTogether expand below → (values : PlacedSolid → Bool) (by : Placement) (name : Name)
    → some_holds values (map (placed_region by) (below name)) ≡ holds values (placed_tree by (expand name))
of_member expand below each values by name =
    any-map (λ region. holds_by (solid_value values) region.tree) (placed_region by) (below name)
    ∙ any-same (λ region. holds values (placed_tree by region.tree)) (λ region. holds (λ one. values (placed_solid by one)) region.tree) (λ region. holds_placed by values region.tree) (below name)
    ∙ each name (λ one. values (placed_solid by one))
    ∙ sym (holds_placed by values (expand name))

of_parts : (expand : Name → Expanded) (below : Name → List NamedRegion) → AreTogether expand below → (values : PlacedSolid → Bool) (number : ℕ) (parts : List (Tree Member))
    → some_holds values (regions_united expand below number parts) ≡ list_any (λ part. holds values (expanded_tree expand part)) parts
of_parts expand below each values number [] = refl
of_parts expand below each values number (Leaf member ∷ parts) =
    any-append (λ region. holds_by (solid_value values) region.tree) (map (placed_region member.placement) (below member.name)) (regions_united expand below number parts)
    ∙ ap (λ b. b || some_holds values (regions_united expand below number parts)) (of_member expand below each values member.placement member.name)
    ∙ ap (λ b. holds values (placed_tree member.placement (expand member.name)) || b) (of_parts expand below each values number parts)
of_parts expand below each values number (Join op l r ∷ parts) =
    ap (λ b. holds values (expanded_tree expand (Join op l r)) || b) (of_parts expand below each values (number + 1) parts)

of_united : (expand : Name → Expanded) (values : PlacedSolid → Bool) (tree : Tree Member)
    → list_any (λ part. holds values (expanded_tree expand part)) (united_parts tree) ≡ holds values (expanded_tree expand tree)
of_united expand values (Leaf member) = or_false (holds values (expanded_tree expand (Leaf member)))
of_united expand values (Join U l r) =
    any-append (λ part. holds values (expanded_tree expand part)) (united_parts l) (united_parts r)
    ∙ ap (λ b. b || list_any (λ part. holds values (expanded_tree expand part)) (united_parts r)) (of_united expand values l)
    ∙ ap (λ b. holds values (expanded_tree expand l) || b) (of_united expand values r)
of_united expand values (Join N l r) = or_false (holds values (expanded_tree expand (Join N l r)))
of_united expand values (Join Minus l r) = or_false (holds values (expanded_tree expand (Join Minus l r)))
of_united expand values (Join X l r) = or_false (holds values (expanded_tree expand (Join X l r)))

of_choice : (expand : Name → Expanded) (below : Name → List NamedRegion) → AreTogether expand below → (values : PlacedSolid → Bool) (attr : Attr) (tree : Tree Member) (marked : Bool)
    → some_holds values (cond marked (whole_region expand attr tree ∷ []) (regions_united expand below 1 (united_parts tree))) ≡ holds values (expanded_tree expand tree)
of_choice expand below each values attr tree true = or_false (holds values (expanded_tree expand tree))
of_choice expand below each values attr tree false = of_parts expand below each values 1 (united_parts tree) ∙ of_united expand values tree

of_body : (expand : Name → Expanded) (below : Name → List NamedRegion) → AreTogether expand below → (values : PlacedSolid → Bool) (name : Name) (body : Body)
    → some_holds values (regions_of_body expand below name body) ≡ holds values (expanded_body expand body)
of_body expand below each values name (bodies.Solid solid) = or_false (values (record { solid = solid; placements = [] }))
of_body expand below each values name (bodies.Comb attr None) = refl
of_body expand below each values name (bodies.Comb attr (Some tree)) =
    any-map (λ region. holds_by (solid_value values) region.tree) (within_comb name attr) (regions_of_tree expand below attr tree)
    ∙ of_choice expand below each values attr tree attr.region

of_object : (expand : Name → Expanded) (below : Name → List NamedRegion) → AreTogether expand below → (values : PlacedSolid → Bool) (name : Name) (o : Option Parts)
    → some_holds values (regions_of_object expand below name o) ≡ holds values (expanded_object expand o)
of_object expand below each values name None = refl
of_object expand below each values name (Some object) = of_body expand below each values name object.body

together_within : (levels : ℕ) (directory : Entries) → AreTogether (expanded_within levels directory) (regions_within levels directory)
together_within zero directory name values = refl
together_within (suc levels) directory name values = of_object (expanded_within levels directory) (regions_within levels directory) (together_within levels directory) values name (object_of directory name)

pub regions_together : (directory : Entries) (name : Name) (values : PlacedSolid → Bool)
    → list_any (λ region. holds_by (solid_value values) region.tree) (regions_of_name directory name) ≡ holds_by (solid_value values) (expanded directory name)
unfolding regions_of_name expanded
regions_together directory name values = together_within most_levels directory name values
