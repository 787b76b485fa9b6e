-- What the names of an object keep: that they are names.
use Rattle.std.specs.Prelude.{All}
use Rattle.name_core.specs.NameText.{IsName}
use Rattle.name_core.specs.declared.name.Name.{Name}
use Rattle.comb_tree.specs.Nodes.{comb_nodes}
use Rattle.comb_tree.specs.declared.node.CombNode.{CombNode}
use Rattle.comb_tree.specs.declared.node.CombNode.TheVariants as nodes
use Rattle.object_set.specs.declared.kept.KeptAttr.{KeptAttr}
use Rattle.object_set.specs.declared.object.Body.{Body}
use Rattle.object_set.specs.declared.object.Body.TheVariants as bodies
use Rattle.object_set.specs.Objects.{Parts, IsKept}

-- the name of a leaf is a name
abbrev pub HasName : CombNode → Type 0
HasName (nodes.Leaf name placement) = IsName name
HasName nodes.U = Unit {0}
HasName nodes.N = Unit {0}
HasName nodes.Minus = Unit {0}
HasName nodes.X = Unit {0}

-- the names of all members are names
abbrev pub HaveNames : Body → Type 0
HaveNames (bodies.Solid solid) = Unit {0}
HaveNames (bodies.Comb attr tree) = All HasName (comb_nodes tree)

-- the key of a kept attribute is a name
abbrev pub HasKey : KeptAttr → Type 0
HasKey attribute = IsName attribute.name

-- the names that stand in an object under its name are names, and its attributes can be kept
pub record IsNamedEntry (e : Name × Parts) : Type 0 where
  pub name : IsName e.0
  pub members : HaveNames e.1.body
  pub keys : All HasKey e.1.kept
  pub kept : IsKept e.1.kept
