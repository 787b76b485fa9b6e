-- Larger directories are sound where the directories are, and take the same edits.
use Rattle.std.proofs.Common.{◌≡◌, ◌≤◌, ◌∙◌, ◌+◌, ℕ, zero, suc, List, [], ◌∷◌, ◌++◌, length, map, refl, ap, sym, subst, Bool, true, false}
use Rattle.std.specs.Prelude.{None, Some, Option, cond, not, is_some, nat_le, Contains}
use Rattle.std.specs.List.{IsDistinct}
use Rattle.std.specs.Map.{keys_of}
use Rattle.std.specs.Option.{option_map}
use Rattle.std.proofs.lemmas.List.{map-append}
use Rattle.std.proofs.lemmas.Map.Made.{keys_of-map_values}
use Rattle.tree_forms.specs.Trees.{Tree, Leaf, Join, leaves, map_leaves}
use Rattle.name_core.specs.declared.name.Name.{Name}
use Rattle.name_core.specs.Same.{same_name}
use Rattle.comb_tree.specs.Nodes.{Member}
use Rattle.comb_tree.specs.Changes.{renamed}
use Rattle.object_set.specs.declared.object.Body.{Body}
use Rattle.object_set.specs.declared.object.Body.TheVariants as bodies
use Rattle.object_set.specs.Objects.{Parts, member_names}
use Rattle.object_set.specs.Renaming.{new_name, renamed_body, renamed_object}
use Rattle.directory.specs.declared.fault.DirFault.{DirFault}
use Rattle.directory.specs.declared.fault.DirFault.TheVariants.{Exists, Missing, Full}
use Rattle.directory.specs.Edits.{appended, replaced, removed, renamed_all, first_of, when, judged_by, judged, put_fault, replace_fault, rename_fault}
use Rattle.directory.specs.Walks.{Entries, object_of, members_of, body_weight, comb_weight, RefersToFirst, IsWalk, combinations, IsSound, most_objects, most_depth, greatest_of, body_depth, depth_over, depth_within, unbounded, deepest}
use Rattle.order_laws.proofs.Listed.{length_moved}
use Rattle.scale_laws.specs.Models.{larger_member, larger_body, larger_object, larger_directory}
use Rattle.scale_laws.specs.ModelLaws.{EditsStay}
use Rattle.scale_laws.proofs.Expanded.{object_larger}
use Rattle.scale_laws.proofs.Models.{is_there}

-- ---- who refers to whom
abbrev name_of : Member → Name
name_of member = member.name

names_same : (m : ℕ) (tree : Tree Member) → map name_of (leaves (map_leaves (larger_member m) tree)) ≡ map name_of (leaves tree)
names_same m (Leaf member) = refl
names_same m (Join op l r) =
    map-append name_of (leaves (map_leaves (larger_member m) l)) (leaves (map_leaves (larger_member m) r))
    ∙ (ap (λ (ns : List Name). ns ++ map name_of (leaves (map_leaves (larger_member m) r))) (names_same m l)
    ∙ (ap (λ (ns : List Name). map name_of (leaves l) ++ ns) (names_same m r) ∙ sym (map-append name_of (leaves l) (leaves r))))

body_names : (m : ℕ) (body : Body) → member_names (larger_body m body) ≡ member_names body
body_names m (bodies.Solid solid) = refl
body_names m (bodies.Comb attr None) = refl
body_names m (bodies.Comb attr (Some tree)) = names_same m tree

object_names : (m : ℕ) (object : Option Parts) → members_of (option_map (larger_object m) object) ≡ members_of object
object_names m None = refl
object_names m (Some object) = body_names m object.body

body_weighs : (m : ℕ) (body : Body) → body_weight (larger_body m body) ≡ body_weight body
body_weighs m (bodies.Solid solid) = refl
body_weighs m (bodies.Comb attr tree) = refl

object_weighs : (m : ℕ) (object : Option Parts) → comb_weight (option_map (larger_object m) object) ≡ comb_weight object
object_weighs m None = refl
object_weighs m (Some object) = body_weighs m object.body

-- ---- soundness
-- as many objects of the same names, of which the same are combinations, with the same members
record AreAlike (one other : Entries) : Type 0 where
  members : (a : Name) → members_of (object_of one a) ≡ members_of (object_of other a)
  weights : (a : Name) → comb_weight (object_of one a) ≡ comb_weight (object_of other a)
  keys : keys_of one ≡ keys_of other
  count : length one ≡ length other

first_alike : (one other : Entries) (a : Name) (rest : List Name) → AreAlike one other → RefersToFirst one a rest → RefersToFirst other a rest
first_alike one other a [] h walk = tt
first_alike one other a (b ∷ rest) h walk = subst (λ (ns : List Name). Contains ns b) (h.members a) walk

walk_alike : (one other : Entries) (walk : List Name) → AreAlike one other → IsWalk one walk → IsWalk other walk
walk_alike one other [] h is = tt
walk_alike one other (a ∷ rest) h is = (first_alike one other a rest h is.0, walk_alike one other rest h is.1)

combinations_alike : (one other : Entries) (walk : List Name) → AreAlike one other → combinations one walk ≡ combinations other walk
combinations_alike one other [] h = refl
combinations_alike one other (a ∷ rest) h = ap (λ n. n + combinations one rest) (h.weights a) ∙ ap (λ n. comb_weight (object_of other a) + n) (combinations_alike one other rest h)

turned_round : (one other : Entries) → AreAlike one other → AreAlike other one
turned_round one other h = record { members = λ a. sym (h.members a); weights = λ a. sym (h.weights a); keys = sym h.keys; count = sym h.count }

sound_alike : (one other : Entries) → AreAlike one other → IsSound one → IsSound other
sound_alike one other h sound =
    let back : AreAlike other one = turned_round one other h in
    record {
      acyclic = λ a cycle. sound.acyclic a (cycle.0, walk_alike other one ((a ∷ cycle.0) ++ a ∷ []) back cycle.1);
      shallow = λ walk is. subst (λ n. n ≤ most_depth) (combinations_alike one other walk h) (sound.shallow walk (walk_alike other one walk back is));
      small = subst (λ n. n ≤ most_objects) h.count sound.small;
      distinct = subst (λ (ns : List Name). IsDistinct same_name ns) h.keys sound.distinct;
    }

larger_alike : (m : ℕ) (directory : Entries) → AreAlike (larger_directory m directory) directory
larger_alike m directory = record {
  members = λ a. ap members_of (object_larger m directory a) ∙ object_names m (object_of directory a);
  weights = λ a. ap comb_weight (object_larger m directory a) ∙ object_weighs m (object_of directory a);
  keys = keys_of-map_values (larger_object m) directory;
  count = length_moved (λ (e : Name × Parts). (e.0, larger_object m e.1)) directory;
}

-- ---- depths
each_same : {A B : Type 0} (f g : A → B) (xs : List A) → ((x : A) → f x ≡ g x) → map f xs ≡ map g xs
each_same f g [] h = refl
each_same {A} {B} f g (x ∷ xs) h = ap (λ (y : B). y ∷ map f xs) (h x) ∙ ap (λ (ys : List B). g x ∷ ys) (each_same f g xs h)

abbrev over_names : (Name → ℕ) → List Name → ℕ
over_names below names = greatest_of (map below names) + 1

over_same : (below below' : Name → ℕ) (names names' : List Name) → names' ≡ names → ((a : Name) → below' a ≡ below a) → over_names below' names' ≡ over_names below names
over_same below below' names names' e h = ap (over_names below') e ∙ ap (λ (ns : List ℕ). greatest_of ns + 1) (each_same below' below names h)

body_depths : (m : ℕ) (below below' : Name → ℕ) (body : Body) → ((a : Name) → below' a ≡ below a) → body_depth (larger_body m body) below' ≡ body_depth body below
body_depths m below below' (bodies.Solid solid) h = refl
body_depths m below below' (bodies.Comb attr tree) h =
    over_same below below' (member_names (bodies.Comb attr tree)) (member_names (larger_body m (bodies.Comb attr tree))) (body_names m (bodies.Comb attr tree)) h

object_depths : (m : ℕ) (below below' : Name → ℕ) (object : Option Parts) → ((a : Name) → below' a ≡ below a) → depth_over (option_map (larger_object m) object) below' ≡ depth_over object below
object_depths m below below' None h = refl
object_depths m below below' (Some object) h = body_depths m below below' object.body h

depths_same : (m most : ℕ) (directory : Entries) (a : Name) → depth_within most (larger_directory m directory) a ≡ depth_within most directory a
depths_same m zero directory a = refl
depths_same m (suc most) directory a =
    ap (λ (o : Option Parts). depth_over o (depth_within most (larger_directory m directory))) (object_larger m directory a)
    ∙ object_depths m (depth_within most directory) (depth_within most (larger_directory m directory)) (object_of directory a) (depths_same m most directory)

deepest_same : (m : ℕ) (directory : Entries) → deepest (larger_directory m directory) ≡ deepest directory
deepest_same m directory =
    ap (λ (names : List Name). greatest_of (map (depth_within unbounded (larger_directory m directory)) names)) (keys_of-map_values (larger_object m) directory)
    ∙ ap greatest_of (each_same (depth_within unbounded (larger_directory m directory)) (depth_within unbounded directory) (keys_of directory) (depths_same m unbounded directory))

-- ---- what edits make
chosen : (m : ℕ) (b : Bool) (xs ys xs' ys' : Entries) → xs' ≡ larger_directory m xs → ys' ≡ larger_directory m ys → cond b xs' ys' ≡ larger_directory m (cond b xs ys)
chosen m true xs ys xs' ys' e f = e
chosen m false xs ys xs' ys' e f = f

appended_larger : (m : ℕ) (directory : Entries) (a : Name) (o : Parts) → appended (larger_directory m directory) a (larger_object m o) ≡ larger_directory m (appended directory a o)
appended_larger m directory a o = sym (map-append (λ (e : Name × Parts). (e.0, larger_object m e.1)) directory ((a, o) ∷ []))

replaced_larger : (m : ℕ) (directory : Entries) (a : Name) (o : Parts) → replaced (larger_directory m directory) a (larger_object m o) ≡ larger_directory m (replaced directory a o)
replaced_larger m [] a o = refl
replaced_larger m (e ∷ directory) a o =
    chosen m (same_name a e.0) ((e.0, o) ∷ directory) (e ∷ replaced directory a o)
    ((e.0, larger_object m o) ∷ larger_directory m directory) ((e.0, larger_object m e.1) ∷ replaced (larger_directory m directory) a (larger_object m o))
    refl (ap (λ (es : Entries). (e.0, larger_object m e.1) ∷ es) (replaced_larger m directory a o))

removed_larger : (m : ℕ) (directory : Entries) (a : Name) → removed (larger_directory m directory) a ≡ larger_directory m (removed directory a)
removed_larger m [] a = refl
removed_larger m (e ∷ directory) a =
    chosen m (same_name a e.0) directory (e ∷ removed directory a) (larger_directory m directory) ((e.0, larger_object m e.1) ∷ removed (larger_directory m directory) a)
    refl (ap (λ (es : Entries). (e.0, larger_object m e.1) ∷ es) (removed_larger m directory a))

member_by : (m : ℕ) (b : Bool) (x y : Member) → cond b (larger_member m x) (larger_member m y) ≡ larger_member m (cond b x y)
member_by m true x y = refl
member_by m false x y = refl

member_renamed : (m : ℕ) (a b : Name) (member : Member) → renamed a b (larger_member m member) ≡ larger_member m (renamed a b member)
member_renamed m a b member = member_by m (same_name member.name a) (record member { name = b }) member

tree_renamed : (m : ℕ) (a b : Name) (tree : Tree Member) → map_leaves (renamed a b) (map_leaves (larger_member m) tree) ≡ map_leaves (larger_member m) (map_leaves (renamed a b) tree)
tree_renamed m a b (Leaf member) = ap (λ (x : Member). Leaf x) (member_renamed m a b member)
tree_renamed m a b (Join op l r) =
    ap (λ (t : Tree Member). Join op t (map_leaves (renamed a b) (map_leaves (larger_member m) r))) (tree_renamed m a b l)
    ∙ ap (λ (t : Tree Member). Join op (map_leaves (larger_member m) (map_leaves (renamed a b) l)) t) (tree_renamed m a b r)

body_renamed : (m : ℕ) (a b : Name) (body : Body) → renamed_body a b (larger_body m body) ≡ larger_body m (renamed_body a b body)
body_renamed m a b (bodies.Solid solid) = refl
body_renamed m a b (bodies.Comb attr None) = refl
body_renamed m a b (bodies.Comb attr (Some tree)) = ap (λ (t : Tree Member). bodies.Comb attr (Some t)) (tree_renamed m a b tree)

renamed_larger : (m : ℕ) (directory : Entries) (a b : Name) → renamed_all (larger_directory m directory) a b ≡ larger_directory m (renamed_all directory a b)
renamed_larger m [] a b = refl
renamed_larger m (e ∷ directory) a b =
    ap (λ (body : Body). (new_name a b e.0, record e.1 { body = body }) ∷ renamed_all (larger_directory m directory) a b) (body_renamed m a b e.1.body)
    ∙ ap (λ (es : Entries). (new_name a b e.0, larger_object m (renamed_object a b e.1)) ∷ es) (renamed_larger m directory a b)

-- ---- why edits are refused
there_same : (m : ℕ) (directory : Entries) (a : Name) → is_some (object_of (larger_directory m directory) a) ≡ is_some (object_of directory a)
there_same m directory a = ap is_some (object_larger m directory a) ∙ is_there (larger_object m) (object_of directory a)

judged_same : (m : ℕ) (made larger : Entries) (a : Name) → larger ≡ larger_directory m made → judged larger a ≡ judged made a
judged_same m made larger a e = ap (λ (es : Entries). judged es a) e ∙ ap (λ n. judged_by n a) (deepest_same m made)

put_alike : (m : ℕ) (directory : Entries) (a : Name) (o : Parts) → put_fault (larger_directory m directory) a (larger_object m o) ≡ put_fault directory a o
put_alike m directory a o =
    let larger = larger_directory m directory in
    let after = judged (appended larger a (larger_object m o)) a in
    ap (λ b. first_of (when b Exists ∷ when (nat_le most_objects (length larger)) Full ∷ after ∷ [])) (there_same m directory a)
    ∙ (ap (λ n. first_of (when (is_some (object_of directory a)) Exists ∷ when (nat_le most_objects n) Full ∷ after ∷ [])) (length_moved (λ (e : Name × Parts). (e.0, larger_object m e.1)) directory)
    ∙ ap (λ (f : Option DirFault). first_of (when (is_some (object_of directory a)) Exists ∷ when (nat_le most_objects (length directory)) Full ∷ f ∷ []))
    (judged_same m (appended directory a o) (appended larger a (larger_object m o)) a (appended_larger m directory a o)))

replace_alike : (m : ℕ) (directory : Entries) (a : Name) (o : Parts) → replace_fault (larger_directory m directory) a (larger_object m o) ≡ replace_fault directory a o
replace_alike m directory a o =
    let larger = larger_directory m directory in
    ap (λ b. first_of (when (not b) Missing ∷ judged (replaced larger a (larger_object m o)) a ∷ [])) (there_same m directory a)
    ∙ ap (λ (f : Option DirFault). first_of (when (not (is_some (object_of directory a))) Missing ∷ f ∷ []))
    (judged_same m (replaced directory a o) (replaced larger a (larger_object m o)) a (replaced_larger m directory a o))

rename_alike : (m : ℕ) (directory : Entries) (a b : Name) → rename_fault (larger_directory m directory) a b ≡ rename_fault directory a b
rename_alike m directory a b =
    let larger = larger_directory m directory in
    ap (λ c. first_of (when c Exists ∷ when (not (is_some (object_of larger a))) Missing ∷ judged (renamed_all larger a b) b ∷ [])) (there_same m directory b)
    ∙ (ap (λ c. first_of (when (is_some (object_of directory b)) Exists ∷ when (not c) Missing ∷ judged (renamed_all larger a b) b ∷ [])) (there_same m directory a)
    ∙ ap (λ (f : Option DirFault). first_of (when (is_some (object_of directory b)) Exists ∷ when (not (is_some (object_of directory a))) Missing ∷ f ∷ []))
    (judged_same m (renamed_all directory a b) (renamed_all larger a b) b (renamed_larger m directory a b)))

pub edits_stay : EditsStay
edits_stay m directory =
    let larger = larger_directory m directory in
    let alike : AreAlike larger directory = larger_alike m directory in
    record {
      sound = (sound_alike larger directory alike, sound_alike directory larger (turned_round larger directory alike));
      put = λ a o. record { fault_is = put_alike m directory a o; made_is = appended_larger m directory a o };
      replace = λ a o. record { fault_is = replace_alike m directory a o; made_is = replaced_larger m directory a o };
      remove = λ a. record { fault_is = ap (λ b. when (not b) Missing) (there_same m directory a); made_is = removed_larger m directory a };
      rename = λ a b. record { fault_is = rename_alike m directory a b; made_is = renamed_larger m directory a b };
    }
