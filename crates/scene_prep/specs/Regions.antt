-- The regions of a list of names.
use Rattle.std.specs.Prelude.{ℕ, zero, suc, ◌+◌, List, [], ◌∷◌, ◌++◌, map, flat_map, cond, Option, Some, None}
use Rattle.tree_forms.specs.declared.Op.TheVariants.{U, N, Minus, X}
use Rattle.tree_forms.specs.Trees.{Tree, Leaf, Join}
use Rattle.name_core.specs.declared.name.Name.{Name}
use Rattle.region_attr.specs.declared.attr.Attr.{Attr}
use Rattle.comb_tree.specs.Nodes.{Member, Comb as CombTree}
use Rattle.object_set.specs.declared.object.Body.{Body}
use Rattle.object_set.specs.declared.object.Body.TheVariants.{Solid, Comb}
use Rattle.object_set.specs.Objects.{Parts}
use Rattle.solid_set.specs.declared.solid.Solid.{Solid as AnySolid}
use Rattle.lattice_core.specs.declared.placement.Placement.{Placement}
use Rattle.directory.specs.Walks.{Entries, object_of}
use Rattle.scene_prep.specs.Solids.{Expanded, placed_tree}
use Rattle.scene_prep.specs.Expanding.{expanded_tree, expanded_within, most_levels}

-- a region, from the name at which its path begins
pub record NamedRegion : Type 0 where
  -- the names down to it, once the combinations above it are added
  pub names : List Name
  -- its number in the last of them, where it is a node of that combination's tree
  pub node : Option ℕ
  pub id : ℕ
  pub air : ℕ
  -- the attributes of the combinations on its path, the top one first, once those are added
  pub attrs : List Attr
  pub tree : Expanded

-- a solid
abbrev pub solid_region : Name → AnySolid → NamedRegion
solid_region name solid = record {
  names = name ∷ [];
  node = None;
  id = 0;
  air = 0;
  attrs = [];
  tree = Leaf (Some (record { solid = solid; placements = [] }));
}

-- the whole tree of a region combination, whatever marks there are below
abbrev pub whole_region : (Name → Expanded) → Attr → Tree Member → NamedRegion
whole_region expand attr tree = record {
  names = [];
  node = None;
  id = attr.id;
  air = attr.air;
  attrs = [];
  tree = expanded_tree expand tree;
}

-- the node of that number
abbrev pub node_region : (Name → Expanded) → ℕ → Tree Member → NamedRegion
node_region expand number tree = record {
  names = [];
  node = Some number;
  id = 0;
  air = 0;
  attrs = [];
  tree = expanded_tree expand tree;
}

-- the region of a combination's, whose path goes through that combination
abbrev pub within_comb : Name → Attr → NamedRegion → NamedRegion
within_comb name attr region = record region { names = name ∷ region.names; attrs = attr ∷ region.attrs }

-- the region of a member's, where the member is placed
abbrev pub placed_region : Placement → NamedRegion → NamedRegion
placed_region by region = record region { tree = placed_tree by region.tree }

-- what the unions at the root of a tree unite, from the left: leaves, and nodes that are no unions
abbrev pub united_parts : {A : Type 0} → Tree A → List (Tree A)
united_parts (Leaf a) = Leaf a ∷ []
united_parts (Join U l r) = united_parts l ++ united_parts r
united_parts (Join N l r) = Join N l r ∷ []
united_parts (Join Minus l r) = Join Minus l r ∷ []
united_parts (Join X l r) = Join X l r ∷ []

-- a leaf gives the regions of its member, placed; a node is one region, and the nodes are numbered from the left
abbrev pub regions_united : (Name → Expanded) → (Name → List NamedRegion) → ℕ → List (Tree Member) → List NamedRegion
regions_united expand below number [] = []
regions_united expand below number (Leaf member ∷ parts) =
    map (placed_region member.placement) (below member.name) ++ regions_united expand below number parts
regions_united expand below number (Join op l r ∷ parts) =
    node_region expand number (Join op l r) ∷ regions_united expand below (number + 1) parts

-- the regions of a combination's tree: one where it is a region, else those of what its tree unites
abbrev pub regions_of_tree : (Name → Expanded) → (Name → List NamedRegion) → Attr → Tree Member → List NamedRegion
regions_of_tree expand below attr tree =
    cond attr.region (whole_region expand attr tree ∷ []) (regions_united expand below 1 (united_parts tree))

-- an empty combination gives none
abbrev pub regions_of_comb : (Name → Expanded) → (Name → List NamedRegion) → Name → Attr → CombTree → List NamedRegion
regions_of_comb expand below name attr None = []
regions_of_comb expand below name attr (Some tree) = map (within_comb name attr) (regions_of_tree expand below attr tree)

abbrev pub regions_of_body : (Name → Expanded) → (Name → List NamedRegion) → Name → Body → List NamedRegion
regions_of_body expand below name (Solid solid) = solid_region name solid ∷ []
regions_of_body expand below name (Comb attr tree) = regions_of_comb expand below name attr tree

-- a missing name gives none
abbrev pub regions_of_object : (Name → Expanded) → (Name → List NamedRegion) → Name → Option Parts → List NamedRegion
regions_of_object expand below name None = []
regions_of_object expand below name (Some object) = regions_of_body expand below name object.body

-- the regions of a name, where at most `levels` objects lie one in the other
abbrev pub regions_within : ℕ → Entries → Name → List NamedRegion
regions_within zero directory name = []
regions_within (suc levels) directory name = regions_of_object (expanded_within levels directory) (regions_within levels directory) name (object_of directory name)

-- the regions of a name
unfoldable pub regions_of_name : Entries → Name → List NamedRegion
regions_of_name directory name = regions_within most_levels directory name

-- the regions of the names, in order
abbrev pub regions_of : Entries → List Name → List NamedRegion
regions_of directory names = flat_map (regions_of_name directory) names
