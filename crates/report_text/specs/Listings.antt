-- Listings of trees: a line for each name, and below a combination's line those of its leaves.
use Rattle.std.specs.Prelude.{ℕ, zero, suc, ◌+◌, ◌*◌, List, [], ◌∷◌, ◌++◌, flat_map, replicate, Option, None, Some, codes}
use Rattle.name_core.specs.declared.name.Name.{Name}
use Rattle.tree_forms.specs.declared.Op.{Op}
use Rattle.tree_forms.specs.declared.Op.TheVariants.{U, N, Minus, X}
use Rattle.tree_forms.specs.Trees.{Tree, Leaf, Join}
use Rattle.comb_tree.specs.Nodes.{Comb as CombTree, Member}
use Rattle.object_set.specs.declared.object.Body.{Body}
use Rattle.object_set.specs.declared.object.Body.TheVariants.{Solid, Comb}
use Rattle.object_set.specs.Objects.{Parts}
use Rattle.directory.specs.Walks.{Entries, object_of, most_depth}
use Rattle.put_form.specs.Written.{object_lines}
use Rattle.report_text.specs.Names.{mark_of}

-- the mark of what a name stands for: ? where nothing is there
abbrev pub mark_in : Option Parts → List ℕ
mark_in None = codes "?"
mark_in (Some object) = mark_of object.body

-- a name with its mark
abbrev pub marked : Entries → Name → List ℕ
marked objects name = name ++ mark_in (object_of objects name)

-- the intersection is printed as +
abbrev pub operator_text : Op → List ℕ
operator_text U = codes "u"
operator_text N = codes "+"
operator_text Minus = codes "-"
operator_text X = codes "^"

-- a leaf, and the operator of the nearest node above it on whose right side it stands
pub record Listed : Type 0 where
  pub op : Op
  pub name : Name

abbrev pub listed : Op → Member → Listed
listed op m = record { op = op; name = m.name }

-- the leaves of a tree from left to right; those on the left side of a node have the operator from above
abbrev pub listed_from : Op → Tree Member → List Listed
listed_from op (Leaf m) = listed op m ∷ []
listed_from op (Join own l r) = listed_from op l ++ listed_from own r

abbrev pub listed_in : CombTree → List Listed
listed_in None = []
listed_in (Some t) = listed_from U t

abbrev pub body_leaves : Body → List Listed
body_leaves (Solid solid) = []
body_leaves (Comb attr tree) = listed_in tree

-- a missing name and a solid have none
abbrev pub leaves_of : Option Parts → List Listed
leaves_of None = []
leaves_of (Some object) = body_leaves object.body

-- two blanks for each level below the top, the operator, a blank, the name with its mark
abbrev pub leaf_line : Entries → ℕ → Listed → List ℕ
leaf_line objects level leaf = replicate (2 * level) 32 ++ (operator_text leaf.op ++ (codes " " ++ marked objects leaf.name))

abbrev pub with_below : Entries → ℕ → (ℕ → Name → List (List ℕ)) → Listed → List (List ℕ)
with_below objects level below leaf = leaf_line objects level leaf ∷ below (level + 1) leaf.name

-- the lines below a name, down to so many levels
abbrev pub lines_below : ℕ → Entries → ℕ → Name → List (List ℕ)
lines_below zero objects level name = []
lines_below (suc more) objects level name = flat_map (with_below objects level (lines_below more objects)) (leaves_of (object_of objects name))

-- the listing of a name: no combination lies deeper than 16
abbrev pub listing_of : Entries → Name → List (List ℕ)
listing_of objects name = marked objects name ∷ lines_below most_depth objects 1 name

-- the body of `tree`
abbrev pub listings : Entries → List Name → List (List ℕ)
listings objects names = flat_map (listing_of objects) names

abbrev pub lines_of : Name → Option Parts → List (List ℕ)
lines_of name None = []
lines_of name (Some object) = object_lines name object

-- the body of `l`: the written lines of each name; a name that is not there has none
abbrev pub written_lines : Entries → List Name → List (List ℕ)
written_lines objects names = flat_map (λ (name : Name). lines_of name (object_of objects name)) names
