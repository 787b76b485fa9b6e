-- Words of the code: what a walk through names comes to as it goes down.
use Rattle.std.specs.Prelude.{◌≡◌, ℕ, ◌+◌, ◌-◌, ◌*◌, ◌<◌, ◌≤◌, ◌==◌, List, [], ◌∷◌, ◌++◌, length, map, flat_map, reverse, sum_by, cond, Option, Some, None, All, vec_len}
use Rattle.std.specs.Option.{option_map, option_to_list}
use Rattle.std.specs.Arc.{arc_value}
use Rattle.std.specs.HashMap.{get}
use Rattle.tree_forms.specs.Trees.{Tree, Leaf, Join}
use Rattle.lattice_core.specs.declared.placement.Placement.{Placement}
use Rattle.lattice_core.specs.declared.vector.V3.{V3}
use Rattle.lattice_core.specs.Placements.{placed, IsComposed}
use Rattle.lattice_core.specs.declared.limit.TheConstants.{COORD}
use Rattle.lattice_core.specs.Limits.{IsWithin}
use Rattle.name_core.specs.declared.name.Name.{Name}
use Rattle.region_attr.specs.declared.attr.Attr.{Attr}
use Rattle.region_attr.specs.declared.attr.Rgb.{Rgb}
use Rattle.comb_tree.specs.declared.node.CombNode.{CombNode}
use Rattle.comb_tree.specs.declared.node.CombNode.TheVariants as nodes
use Rattle.comb_tree.specs.Nodes.{Member, Comb as CombTree, comb_nodes, leaf}
use Rattle.object_set.specs.declared.object.Body.{Body}
use Rattle.object_set.specs.declared.object.Body.TheVariants as bodies
use Rattle.object_set.specs.Objects.{Parts, IsComb}
use Rattle.directory.specs.Walks.{Entries, object_of, most_depth}
use Rattle.shot_core.specs.Regions.{RegionBody, Region}
use Rattle.shot_core.specs.Prepared.{instance_of}
use Rattle.bool_weave.specs.Masks.{mask_nodes}
use Rattle.scene_prep.specs.Solids.{Expanded, placed_tree, solids_of, numbered, in_world}
use Rattle.scene_prep.specs.Expanding.{expanded, expanded_tree}
use Rattle.scene_prep.specs.Regions.{NamedRegion, solid_region, whole_region, node_region, united_parts, regions_of_name}
use Rattle.scene_prep.specs.Scenes.{path_text}
use Rattle.scene_prep.specs.Parts.{shown, parts_from}
use Rattle.scene_prep.specs.Sizes.{size_of_name}
use Rattle.scene_prep.specs.Levels.{IsShallow, StandsWithin, nodes_size}
use Rattle.scene_prep.specs.Steps.{under_comb, under_combs, no_colour, path_to}
use Rattle.scene_prep.specs.declared.colour.Colour.{Colour}
use Rattle.scene_prep.specs.declared.expansion.Expansion.{Expansion}
use Rattle.scene_prep.specs.declared.context.Context.{Context}
use Rattle.scene_prep.specs.declared.body.BodyKey.{BodyKey}
use Rattle.scene_prep.specs.contracts.body.BodyKeyPartialEq.TheImpl as keys
use Rattle.scene_prep.specs.declared.body.Bodies.{Bodies}
use Rattle.scene_prep.specs.declared.body.Shape.{Shape}
use Rattle.scene_prep.specs.declared.part.Part.{Part}
use Rattle.scene_prep.specs.declared.walk.Walk.{Walk}
use Rattle.scene_prep.specs.declared.walk.Task.{Task}
use Rattle.scene_prep.specs.declared.walk.Task.TheVariants as tasks

-- ---- what a region comes to
-- a region without its place
pub record Content : Type 0 where
  pub path : List ℕ
  pub body : RegionBody

abbrev pub content : List ℕ → RegionBody → Content
content path body = record { path = path; body = body }

-- a body of these numbers, of this colour and of this tree where it is placed
abbrev pub body_at : Placement → Rgb → ℕ → ℕ → Expanded → RegionBody
body_at by rgb id air tree = record { id = id; air = air; rgb = rgb; tree = numbered 0 tree; instances = map in_world (solids_of (placed_tree by tree)) }

abbrev pub body_under : Placement → Rgb → NamedRegion → RegionBody
body_under by rgb region = body_at by rgb region.id region.air region.tree

-- a region that stands under a path, placed, and in a colour
abbrev pub settled : List ℕ → Placement → Colour → NamedRegion → Content
settled path by colour region = content (path ++ path_text region) (body_under by (under_combs colour region.attrs).rgb region)

abbrev pub settled_in : Context → NamedRegion → Content
settled_in context region = settled (arc_value context.path) context.by context.colour region

abbrev pub contents_in : Context → List NamedRegion → List Content
contents_in context regions = map (settled_in context) regions

-- ---- contexts
-- where the names stand that are given
pub record IsTop (context : Context) : Type 0 where
  pub path : arc_value context.path ≡ []
  pub by : (p : V3) → placed context.by p ≡ p
  pub colour : context.colour ≡ no_colour
  pub levels : context.levels ≡ most_depth

-- where the same stands
pub record IsShare (context : Context) (share : Context) : Type 0 where
  pub path : arc_value share.path ≡ arc_value context.path
  pub by : share.by ≡ context.by
  pub colour : share.colour ≡ context.colour
  pub levels : share.levels ≡ context.levels

-- where a member stands that is placed
pub record IsPlacedIn (above : Context) (member : Placement) (below : Context) : Type 0 where
  pub path : arc_value below.path ≡ arc_value above.path
  pub by : IsComposed below.by above.by member
  pub colour : below.colour ≡ above.colour
  pub levels : below.levels + 1 ≡ above.levels

-- where the tree of a combination stands
pub record IsWithinComb (above : Context) (name : Name) (attr : Attr) (below : Context) : Type 0 where
  pub path : arc_value below.path ≡ path_to (arc_value above.path) name
  pub by : below.by ≡ above.by
  pub colour : below.colour ≡ under_comb above.colour attr
  pub levels : below.levels ≡ above.levels

-- ---- bodies
-- all that was written is the tree
pub record IsWritten (out : Expansion) (tree : Expanded) : Type 0 where
  pub nodes : out.nodes.items ≡ mask_nodes (numbered 0 tree)
  pub solids : map instance_of out.solids.items ≡ map in_world (solids_of tree)

abbrev pub finished : Rgb → ℕ → ℕ → Expanded → RegionBody
finished rgb id air tree = record { id = id; air = air; rgb = rgb; tree = numbered 0 tree; instances = map in_world (solids_of tree) }

-- the object of that name has that body
pub record HasBody (directory : Entries) (name : Name) (body : Body) : Type 0 where
  pub object : Parts
  pub there : object_of directory name ≡ Some object
  pub body_is : object.body ≡ body

-- a combination of that name has these attributes and the tree of these nodes, where there are any
pub record HasComb (directory : Entries) (name : Name) (attr : Attr) (nodes : List CombNode) : Type 0 where
  pub comb : CombTree
  pub nodes_are : comb_nodes comb ≡ nodes
  pub there : HasBody directory name (bodies.Comb attr comb)
  pub lawful : IsComb attr comb

-- and it has a tree
pub record HasTree (directory : Entries) (name : Name) (attr : Attr) (nodes : List CombNode) : Type 0 where
  pub tree : Tree Member
  pub nodes_are : comb_nodes (Some tree) ≡ nodes
  pub there : HasBody directory name (bodies.Comb attr (Some tree))

-- the node of that number among what a combination's tree unites
abbrev pub node_of : ℕ → ℕ → List (Tree Member) → Option (Tree Member)
node_of wanted number [] = None
node_of wanted number (Leaf member ∷ parts) = node_of wanted number parts
node_of wanted number (Join op l r ∷ parts) = cond (wanted == number) (Some (Join op l r)) (node_of wanted (number + 1) parts)

-- a region of an object's own: the whole of it, or a node of its tree
abbrev pub own_of_tree : (Name → Expanded) → Attr → Tree Member → Option ℕ → Option NamedRegion
own_of_tree expand attr tree None = Some (whole_region expand attr tree)
own_of_tree expand attr tree (Some number) = option_map (node_region expand number) (node_of number 1 (united_parts tree))

abbrev pub own_of_body : (Name → Expanded) → Name → Body → Option ℕ → Option NamedRegion
own_of_body expand name (bodies.Solid solid) place = Some (solid_region name solid)
own_of_body expand name (bodies.Comb attr None) place = None
own_of_body expand name (bodies.Comb attr (Some tree)) place = own_of_tree expand attr tree place

abbrev pub own_of_object : (Name → Expanded) → Name → Option Parts → Option ℕ → Option NamedRegion
own_of_object expand name None place = None
own_of_object expand name (Some object) place = own_of_body expand name object.body place

abbrev pub own_region : Entries → Name → Option ℕ → Option NamedRegion
own_region directory name place = own_of_object (expanded directory) name (object_of directory name) place

-- these are the nodes of the node of that number in a combination's tree
pub record HasNode (directory : Entries) (comb : Name) (number : ℕ) (nodes : List CombNode) : Type 0 where
  pub tree : Tree Member
  pub nodes_are : comb_nodes (Some tree) ≡ nodes
  pub own : own_region directory comb (Some number) ≡ Some (node_region (expanded directory) number tree)

-- the nodes of the shape are those of the own region's tree, and the region has the shape's number and air
pub record HasOwnShape (directory : Entries) (name : Name) (place : Option ℕ) (shape : Shape) : Type 0 where
  pub tree : Tree Member
  pub nodes : comb_nodes (Some tree) ≡ shape.nodes.now
  pub region : NamedRegion
  pub own : own_region directory name place ≡ Some region
  pub id : region.id ≡ shape.id
  pub air : region.air ≡ shape.air
  pub expands : region.tree ≡ expanded_tree (expanded directory) tree

-- the body that is known under a key
abbrev pub known_body : Bodies → BodyKey → Option RegionBody
known_body bodies key = option_map arc_value (get keys.eq-value.it bodies.known key)

-- each body that is known is the key's own region's, placed and coloured as the key says
abbrev pub AreBodies : Entries → Bodies → Type 0
AreBodies directory bodies = (key : BodyKey) (body : RegionBody) (region : NamedRegion) → known_body bodies key ≡ Some body
    → own_region directory key.name key.node ≡ Some region → body ≡ body_under key.by key.rgb region

-- ---- the walk
abbrev pub region_from : ℕ → Content → Region
region_from place c = record { place = place; path = c.path; body = c.body }

abbrev pub placed_from : ℕ → List Content → List Region
placed_from place [] = []
placed_from place (c ∷ cs) = region_from place c ∷ placed_from (place + 1) cs

-- the regions stand behind those of before, and have the next places
abbrev pub Adds : Walk → Walk → List Content → Type 0
Adds old new contents = new.regions.items ≡ old.regions.items ++ placed_from (vec_len old.regions + 1) contents

-- ---- the stack of a walk
-- where a node is a leaf, its shift is as small as that of a combination's leaf
abbrev pub IsNearNode : CombNode → Type 0
IsNearNode (nodes.Leaf name placement) = IsWithin COORD placement.shift
IsNearNode nodes.U = Unit {0}
IsNearNode nodes.N = Unit {0}
IsNearNode nodes.Minus = Unit {0}
IsNearNode nodes.X = Unit {0}

pub record IsNearLeaf (nodes : List CombNode) : Type 0 where
  pub member : Member
  pub nodes_are : nodes ≡ leaf member ∷ []
  pub near : IsWithin COORD member.placement.shift

-- what is still to come of a part that is a leaf: its member where it is placed
pub record IsLeafTask (context : Context) (part : Part) (name : Name) (below : Context) : Type 0 where
  pub number_is : part.number ≡ 0
  pub member : Member
  pub nodes_are : part.nodes.now ≡ leaf member ∷ []
  pub name_is : name ≡ member.name
  pub placed_is : IsPlacedIn context member.placement below

-- and of one that is none
pub record IsNodeTask (comb : Name) (context : Context) (part : Part) (owner : Name) (node : Part) (share : Context) : Type 0 where
  pub some : 0 < part.number
  pub owner_is : owner ≡ comb
  pub number_is : node.number ≡ part.number
  pub nodes_are : node.nodes.now ≡ part.nodes.now
  pub share_is : IsShare context share

abbrev pub IsTaskOf : Name → Context → Part → Task → Type 0
IsTaskOf comb context part (tasks.Name name below) = IsLeafTask context part name below
IsTaskOf comb context part (tasks.Node owner node share) = IsNodeTask comb context part owner node share

abbrev pub AreTasksOf : Name → Context → List Part → List Task → Type 0
AreTasksOf comb context [] [] = Unit {0}
AreTasksOf comb context [] (task ∷ rest) = ⊥
AreTasksOf comb context (part ∷ parts) [] = ⊥
AreTasksOf comb context (part ∷ parts) (task ∷ rest) = IsTaskOf comb context part task × AreTasksOf comb context parts rest

-- the tasks of what a tree unites are put on the stack, from the right
pub record PushesParts (comb : Name) (context : Context) (nodes : List CombNode) (before after : List Task) : Type 0 where
  pub parts : List Part
  pub parts_are : (tree : Tree Member) → comb_nodes (Some tree) ≡ nodes → map shown (reverse parts) ≡ parts_from 1 (united_parts tree)
  pub more : List Task
  pub after_is : after ≡ before ++ more
  pub each : AreTasksOf comb context parts more

-- what a task comes to
abbrev pub task_contents : Entries → Task → List Content
task_contents directory (tasks.Name name context) = contents_in context (regions_of_name directory name)
task_contents directory (tasks.Node comb node context) = contents_in context (option_to_list (own_region directory comb (Some node.number)))

-- what the tasks on a stack come to, the last of which is on top
abbrev pub pending : Entries → List Task → List Content
pending directory stack = flat_map (task_contents directory) (reverse stack)

pub record IsSoundNode (directory : Entries) (comb : Name) (node : Part) (levels : ℕ) : Type 0 where
  pub own : HasNode directory comb node.number node.nodes.now
  pub deep : 0 < levels
  pub within : All (StandsWithin directory (levels - 1)) node.nodes.now

-- a task that a walk can do
abbrev pub IsSoundTask : Entries → Task → Type 0
IsSoundTask directory (tasks.Name name context) = IsShallow directory context.levels name
IsSoundTask directory (tasks.Node comb node context) = IsSoundNode directory comb node context.levels

abbrev pub task_size : Entries → Task → ℕ
task_size directory (tasks.Name name context) = size_of_name directory name
task_size directory (tasks.Node comb node context) = nodes_size directory node.nodes.now

abbrev pub tasks_size : Entries → List Task → ℕ
tasks_size directory stack = sum_by (task_size directory) stack

-- a name weighs more than all tasks together of what its tree unites
abbrev pub task_weight : Entries → Task → ℕ
task_weight directory (tasks.Name name context) = size_of_name directory name * (context.levels + 1)
task_weight directory (tasks.Node comb node context) = nodes_size directory node.nodes.now * context.levels

abbrev pub tasks_weight : Entries → List Task → ℕ
tasks_weight directory stack = sum_by (task_weight directory) stack

-- one task is done: some regions are put in, and the tasks that are left of it are put on the stack
pub record ComesTo (directory : Entries) (task : Task) (old new : Walk) (before after : List Task) : Type 0 where
  pub done : List Content
  pub added : Adds old new done
  pub left : List Task
  pub after_is : after ≡ before ++ left
  pub whole : done ++ pending directory left ≡ task_contents directory task
  pub sound : All (IsSoundTask directory) left
  pub room : length done + tasks_size directory left ≤ task_size directory task
  pub lighter : tasks_weight directory left < task_weight directory task
