-- Objects without line feeds, and what is made of them: their members and kept attributes have none again.
use Rattle.std.proofs.Common.{◌≡◌, ◌++◌, ◌∙◌, Bool, true, false, cond, List, [], ◌∷◌, Option, Some, None, map, filter, unwrap_or, refl, ap, sym, subst}
use Rattle.std.specs.List.{AllByRecursion}
use Rattle.transcript.specs.Lines.{Lacks}
use Rattle.name_core.specs.declared.name.Name.{Name}
use Rattle.name_core.specs.Same.{same_name}
use Rattle.lattice_core.specs.declared.placement.Placement.{Placement}
use Rattle.tree_forms.specs.Trees.{Tree, Leaf, Join, leaves, map_leaves}
use Rattle.region_attr.specs.declared.attr.Attr.{Attr}
use Rattle.comb_tree.specs.declared.node.ListEntry.{ListEntry}
use Rattle.comb_tree.specs.Nodes.{Comb as CombTree, Member, members}
use Rattle.comb_tree.specs.Lists.{member, tree_of_list}
use Rattle.comb_tree.specs.Changes.{map_members, renamed, placed, names_of, stays, without}
use Rattle.comb_tree.proofs.Written.{members_of_list}
use Rattle.object_set.specs.declared.kept.KeptAttr.{KeptAttr}
use Rattle.object_set.specs.declared.object.Body.{Body}
use Rattle.object_set.specs.declared.object.Body.TheVariants.{Solid, Comb}
use Rattle.object_set.specs.Objects.{Parts, member_names}
use Rattle.object_set.specs.Keeping.{with_kept, kept_after}
use Rattle.object_set.specs.Renaming.{renamed_body, renamed_object}
use Rattle.edit_core.specs.ListForms.{list_of}
use Rattle.edit_core.specs.Edits.{body_tree, tree_at, own_list, body_with, object_with, extended, with_tree}
use Rattle.edit_core.proofs.ListLaws.{list_is}
use Rattle.mged_words.specs.Readable.{ArePlain, ArePlainPairs, IsPlainObject}
use Rattle.put_form.proofs.MemberLaws.{AreNamed, first_named, rest_named, both_named}

-- of each of two lists, and so of both
module _ {X : Type 0} (P : X → Type 0) where
  pub all_both : (xs ys : List X) → AllByRecursion P xs → AllByRecursion P ys → AllByRecursion P (xs ++ ys)
  all_both [] ys h k = k
  all_both (x ∷ xs) ys h k = (h.0, all_both xs ys h.1 k)

  keep_step : (t : Bool) (x : X) (xs : List X) → P x → AllByRecursion P xs → AllByRecursion P (cond t (x ∷ xs) xs)
  keep_step true x xs h k = (h, k)
  keep_step false x xs h k = k

  pub all_filtered : (p : X → Bool) (xs : List X) → AllByRecursion P xs → AllByRecursion P (filter p xs)
  all_filtered p [] h = tt
  all_filtered p (x ∷ xs) h = keep_step (p x) x (filter p xs) h.0 (all_filtered p xs h.1)

-- trees whose members have no line feed
abbrev IsPlainTree : CombTree → Type 0
IsPlainTree tree = AreNamed (members tree)

-- the tree of a list, and the list of a tree
entries_named : (l : List ListEntry) → ArePlain (names_of l) → AreNamed (map member l)
entries_named [] h = tt
entries_named (e ∷ es) h = (h.0, entries_named es h.1)

named_entries : (l : List ListEntry) → AreNamed (map member l) → ArePlain (names_of l)
named_entries [] h = tt
named_entries (e ∷ es) h = (h.0, named_entries es h.1)

list_plain : (l : List ListEntry) → ArePlain (names_of l) → IsPlainTree (tree_of_list l)
list_plain l h = subst AreNamed (sym (members_of_list l)) (entries_named l h)

read_plain : (tree : CombTree) (list : Option (List ListEntry)) → list_of tree ≡ list → IsPlainTree tree → ArePlain (names_of (unwrap_or list []))
read_plain tree None is h = tt
read_plain tree (Some l) is h = named_entries l (subst AreNamed (ap members (sym (list_is tree l is).tree) ∙ members_of_list l) h)

entries_both : (one two : List ListEntry) → ArePlain (names_of one) → ArePlain (names_of two) → ArePlain (names_of (one ++ two))
entries_both [] two h k = k
entries_both (e ∷ es) two h k = (h.0, entries_both es two h.1 k)

entry_step : (t : Bool) (e : ListEntry) (es : List ListEntry) → Lacks 10 e.name → ArePlain (names_of es) → ArePlain (names_of (cond t (e ∷ es) es))
entry_step true e es h k = (h, k)
entry_step false e es h k = k

without_plain : (gone : Name → Bool) (l : List ListEntry) → ArePlain (names_of l) → ArePlain (names_of (without gone l))
without_plain gone [] h = tt
without_plain gone (e ∷ es) h = entry_step (stays gone e) e (without gone es) h.0 (without_plain gone es h.1)

-- a tree with each member changed
abbrev KeepsNames : (Member → Member) → Type 0
KeepsNames f = (m : Member) → Lacks 10 m.name → Lacks 10 (f m).name

leaves_changed : (f : Member → Member) (t : Tree Member) → KeepsNames f → AreNamed (leaves t) → AreNamed (leaves (map_leaves f t))
leaves_changed f (Leaf m) k h = (k m h.0, tt)
leaves_changed f (Join op l r) k h =
    both_named (leaves (map_leaves f l)) (leaves (map_leaves f r)) (leaves_changed f l k (first_named (leaves l) (leaves r) h)) (leaves_changed f r k (rest_named (leaves l) (leaves r) h))

tree_changed : (f : Member → Member) (tree : CombTree) → KeepsNames f → IsPlainTree tree → IsPlainTree (map_members f tree)
tree_changed f None k h = tt
tree_changed f (Some t) k h = leaves_changed f t k h

member_step : (t : Bool) (one other : Member) → Lacks 10 one.name → Lacks 10 other.name → Lacks 10 (cond t one other).name
member_step true one other h k = h
member_step false one other h k = k

placed_keeps : (name : Name) (by : Placement) → KeepsNames (placed name by)
placed_keeps name by m h = member_step (same_name m.name name) (record m { placement = by }) m h h

renamed_keeps : (old new : Name) → Lacks 10 new → KeepsNames (renamed old new)
renamed_keeps old new k m h = member_step (same_name m.name old) (record m { name = new }) m k h

-- the tree of an object, and an object with another one
body_plain : (body : Body) → ArePlain (member_names body) → IsPlainTree (body_tree body)
body_plain (Solid solid) h = tt
body_plain (Comb attr tree) h = h

tree_plain : (object : Parts) → IsPlainObject object → IsPlainTree (tree_at (Some object))
tree_plain object h = body_plain object.body h.members

own_plain : (object : Parts) → IsPlainObject object → ArePlain (names_of (own_list (Some object)))
own_plain object h = read_plain (tree_at (Some object)) (list_of (tree_at (Some object))) refl (tree_plain object h)

with_plain : (f : Attr → Attr) (tree : CombTree) (body : Body) → IsPlainTree tree → ArePlain (member_names (body_with f tree body))
with_plain f tree (Solid solid) h = tt
with_plain f tree (Comb attr old) h = h

object_with_plain : (f : Attr → Attr) (tree : CombTree) (object : Parts) → IsPlainObject object → IsPlainTree tree → IsPlainObject (object_with f tree object)
object_with_plain f tree object h k = record { members = with_plain f tree object.body k; kept = h.kept }

-- members appended, removed and placed, and attributes set
pub extended_plain : (fresh : Attr) (f : Attr → Attr) (list : List ListEntry) (object : Option Parts) → ArePlain (names_of list) → ((o : Parts) → object ≡ Some o → IsPlainObject o) → IsPlainObject (extended fresh f list object)
extended_plain fresh f list None h k = record { members = list_plain list h; kept = tt }
extended_plain fresh f list (Some object) h k =
    object_with_plain f (tree_of_list (own_list (Some object) ++ list)) object (k object refl)
    (list_plain (own_list (Some object) ++ list) (entries_both (own_list (Some object)) list (own_plain object (k object refl)) h))

pub removed_plain : (gone : Name → Bool) (object : Parts) → IsPlainObject object → IsPlainObject (with_tree (λ tree. tree_of_list (without gone (own_list (Some object)))) object)
removed_plain gone object h =
    object_with_plain _ (tree_of_list (without gone (own_list (Some object)))) object h (list_plain (without gone (own_list (Some object))) (without_plain gone (own_list (Some object)) (own_plain object h)))

pub placed_plain : (name : Name) (by : Placement) (object : Parts) → IsPlainObject object → IsPlainObject (with_tree (map_members (placed name by)) object)
placed_plain name by object h =
    object_with_plain _ (map_members (placed name by) (tree_at (Some object))) object h (tree_changed (placed name by) (tree_at (Some object)) (placed_keeps name by) (tree_plain object h))

pub set_attr_plain : (f : Attr → Attr) (object : Parts) → IsPlainObject object → IsPlainObject (object_with f (tree_at (Some object)) object)
set_attr_plain f object h = object_with_plain f (tree_at (Some object)) object h (tree_plain object h)

-- members renamed
renamed_body_plain : (old new : Name) (body : Body) → Lacks 10 new → ArePlain (member_names body) → ArePlain (member_names (renamed_body old new body))
renamed_body_plain old new (Solid solid) k h = tt
renamed_body_plain old new (Comb attr tree) k h = tree_changed (renamed old new) tree (renamed_keeps old new k) h

pub renamed_object_plain : (old new : Name) (object : Parts) → Lacks 10 new → IsPlainObject object → IsPlainObject (renamed_object old new object)
renamed_object_plain old new object k h = record { members = renamed_body_plain old new object.body k h.members; kept = h.kept }

-- attributes kept anew
kept_step : (t : Bool) (one other : KeptAttr) (ks rest : List KeptAttr) → Lacks 10 one.name × Lacks 10 one.value → Lacks 10 other.name × Lacks 10 other.value → ArePlainPairs ks → ArePlainPairs rest
    → ArePlainPairs (cond t (one ∷ ks) (other ∷ rest))
kept_step true one other ks rest h k l m = (h, l)
kept_step false one other ks rest h k l m = (k, m)

with_kept_plain : (kept : List KeptAttr) (pair : KeptAttr) → ArePlainPairs kept → Lacks 10 pair.name × Lacks 10 pair.value → ArePlainPairs (with_kept kept pair)
with_kept_plain [] pair h k = (k, tt)
with_kept_plain (a ∷ rest) pair h k = kept_step (same_name pair.name a.name) (record a { value = pair.value }) a rest (with_kept rest pair) (h.0.0, k.1) h.0 h.1 (with_kept_plain rest pair h.1 k)

kept_after_plain : (kept pairs : List KeptAttr) → ArePlainPairs kept → ArePlainPairs pairs → ArePlainPairs (kept_after kept pairs)
kept_after_plain kept [] h k = h
kept_after_plain kept (pair ∷ pairs) h k = kept_after_plain (with_kept kept pair) pairs (with_kept_plain kept pair h k.0) k.1

pub kept_plain : (pairs : List KeptAttr) (object : Parts) → ArePlainPairs pairs → IsPlainObject object → IsPlainObject (record object { kept = kept_after object.kept pairs })
kept_plain pairs object k h = record { members = h.members; kept = kept_after_plain object.kept pairs h.kept k }
