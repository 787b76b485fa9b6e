-- The written lines of plain names, and the listings of their trees, have no line feed.
use Rattle.std.proofs.Common.{◌≡◌, ◌+◌, ◌*◌, ℕ, zero, suc, List, [], ◌∷◌, Option, Some, None, codes, flat_map, replicate, refl, arith}
use Rattle.std.specs.List.{AllByRecursion}
use Rattle.transcript.specs.Lines.{Lacks}
use Rattle.transcript.proofs.LineLaws.{lacks_append}
use Rattle.transcript.proofs.TranscriptLaws.{computed}
use Rattle.name_core.specs.declared.name.Name.{Name}
use Rattle.tree_forms.specs.declared.Op.{Op}
use Rattle.tree_forms.specs.declared.Op.TheVariants.{U, N, Minus, X}
use Rattle.tree_forms.specs.Trees.{Tree, Leaf, Join, leaves}
use Rattle.comb_tree.specs.Nodes.{Comb as CombTree, Member, members}
use Rattle.object_set.specs.declared.object.Body.{Body}
use Rattle.object_set.specs.declared.object.Body.TheVariants.{Solid, Comb}
use Rattle.object_set.specs.Objects.{Parts, member_names}
use Rattle.directory.specs.Walks.{Entries, object_of, most_depth}
use Rattle.report_text.specs.Listings.{mark_in, marked, operator_text, Listed, listed_from, listed_in, body_leaves, leaves_of, leaf_line, with_below, lines_below, listing_of, listings, lines_of, written_lines}
use Rattle.mged_words.specs.Readable.{ArePlain, IsPlainObject}
use Rattle.put_form.proofs.MemberLaws.{AreNamed, first_named, rest_named}
use Rattle.put_form.proofs.OneLine.{plain_lines}
use Rattle.session_run.proofs.ObjectLaws.{all_both}
use Rattle.session_run.proofs.EditLaws.{AreEntriesPlain, object_plain, mark_lacks}

-- written lines
lines_plain : (name : Name) (object : Option Parts) → Lacks 10 name → ((o : Parts) → object ≡ Some o → IsPlainObject o) → AllByRecursion (Lacks 10) (lines_of name object)
lines_plain name None h k = tt
lines_plain name (Some object) h k = let plain = k object refl in plain_lines name object h plain.members plain.kept

pub written_plain : (es : Entries) (names : List Name) → AreEntriesPlain es → ArePlain names → AllByRecursion (Lacks 10) (written_lines es names)
written_plain es [] h k = tt
written_plain es (name ∷ names) h k =
    all_both (Lacks 10) (lines_of name (object_of es name)) (written_lines es names) (lines_plain name (object_of es name) k.0 (λ o e. object_plain es name o h e)) (written_plain es names h k.1)

-- names with their marks
mark_in_lacks : (object : Option Parts) → Lacks 10 (mark_in object)
mark_in_lacks None = computed 10 (codes "?") refl
mark_in_lacks (Some object) = mark_lacks object.body

marked_lacks : (es : Entries) (name : Name) → Lacks 10 name → Lacks 10 (marked es name)
marked_lacks es name h = lacks_append 10 name (mark_in (object_of es name)) h (mark_in_lacks (object_of es name))

-- the leaves of an object
abbrev AreLeavesPlain : List Listed → Type 0
AreLeavesPlain ls = AllByRecursion (λ (l : Listed). Lacks 10 l.name) ls

listed_plain : (op : Op) (t : Tree Member) → AreNamed (leaves t) → AreLeavesPlain (listed_from op t)
listed_plain op (Leaf m) h = (h.0, tt)
listed_plain op (Join own l r) h =
    all_both (λ (x : Listed). Lacks 10 x.name) (listed_from op l) (listed_from own r) (listed_plain op l (first_named (leaves l) (leaves r) h)) (listed_plain own r (rest_named (leaves l) (leaves r) h))

tree_leaves : (tree : CombTree) → AreNamed (members tree) → AreLeavesPlain (listed_in tree)
tree_leaves None h = tt
tree_leaves (Some t) h = listed_plain U t h

body_leaves_plain : (body : Body) → ArePlain (member_names body) → AreLeavesPlain (body_leaves body)
body_leaves_plain (Solid solid) h = tt
body_leaves_plain (Comb attr tree) h = tree_leaves tree h

leaves_plain : (object : Option Parts) → ((o : Parts) → object ≡ Some o → IsPlainObject o) → AreLeavesPlain (leaves_of object)
leaves_plain None k = tt
leaves_plain (Some object) k = body_leaves_plain object.body (k object refl).members

-- their lines
blanks_lack : (n : ℕ) → Lacks 10 (replicate n 32)
blanks_lack zero = tt
blanks_lack (suc n) = (λ e. omega (arith, e), blanks_lack n)

operator_lacks : (op : Op) → Lacks 10 (operator_text op)
operator_lacks U = computed 10 (codes "u") refl
operator_lacks N = computed 10 (codes "+") refl
operator_lacks Minus = computed 10 (codes "-") refl
operator_lacks X = computed 10 (codes "^") refl

leaf_lacks : (es : Entries) (level : ℕ) (leaf : Listed) → Lacks 10 leaf.name → Lacks 10 (leaf_line es level leaf)
leaf_lacks es level leaf h =
    lacks_append 10 (replicate (2 * level) 32) _ (blanks_lack (2 * level))
    (lacks_append 10 (operator_text leaf.op) _ (operator_lacks leaf.op) (lacks_append 10 (codes " ") (marked es leaf.name) (computed 10 (codes " ") refl) (marked_lacks es leaf.name h)))

each_plain : (es : Entries) (level : ℕ) (below : ℕ → Name → List (List ℕ)) (ls : List Listed) → AreLeavesPlain ls → ((n : ℕ) (name : Name) → AllByRecursion (Lacks 10) (below n name))
    → AllByRecursion (Lacks 10) (flat_map (with_below es level below) ls)
each_plain es level below [] h k = tt
each_plain es level below (l ∷ ls) h k =
    all_both (Lacks 10) (with_below es level below l) (flat_map (with_below es level below) ls) (leaf_lacks es level l h.0, k (level + 1) l.name) (each_plain es level below ls h.1 k)

below_plain : (levels : ℕ) (es : Entries) (level : ℕ) (name : Name) → AreEntriesPlain es → AllByRecursion (Lacks 10) (lines_below levels es level name)
below_plain zero es level name h = tt
below_plain (suc more) es level name h =
    each_plain es level (lines_below more es) (leaves_of (object_of es name)) (leaves_plain (object_of es name) (λ o e. object_plain es name o h e)) (λ n below. below_plain more es n below h)

listing_plain : (es : Entries) (name : Name) → AreEntriesPlain es → Lacks 10 name → AllByRecursion (Lacks 10) (listing_of es name)
listing_plain es name h k = (marked_lacks es name k, below_plain most_depth es 1 name h)

pub listings_plain : (es : Entries) (names : List Name) → AreEntriesPlain es → ArePlain names → AllByRecursion (Lacks 10) (listings es names)
listings_plain es [] h k = tt
listings_plain es (name ∷ names) h k = all_both (Lacks 10) (listing_of es name) (listings es names) (listing_plain es name h k.0) (listings_plain es names h k.1)
