-- The list that an edit makes, beside the list that was there: only the edited name has new references, or none has.
use Rattle.std.proofs.Common.{◌≡◌, ◌≢◌, ◌⊎◌, inl, inr, ◌≤◌, ◌<◌, ◌∙◌, ℕ, List, [], ◌∷◌, length, Bool, true, false, not, cond, Option, None, Some, IsSome, refl, ap, sym, subst, arith, length-append, true≢false}
use Rattle.std.specs.Prelude.{is_some, nat_le, ◌&&◌, unwrap_or}
use Rattle.std.specs.List.{Contains, IsDistinct, AllByRecursion}
use Rattle.std.specs.Map.{keys_of}
use Rattle.std.proofs.lemmas.Bool.{leb-false}
use Rattle.std.proofs.lemmas.Map.{keys-set_value}
use Rattle.std.proofs.lemmas.Map.Keys.{IsDistinct-cons, IsDistinct-head, IsDistinct-tail}
use Rattle.name_core.specs.declared.name.Name.{Name}
use Rattle.name_core.specs.Same.{same_name}
use Rattle.lattice_core.specs.declared.placement.Placement.{Placement}
use Rattle.region_attr.specs.declared.attr.Attr.{Attr}
use Rattle.comb_tree.specs.declared.node.ListEntry.{ListEntry}
use Rattle.comb_tree.specs.Nodes.{Comb as Tree, members}
use Rattle.comb_tree.specs.Lists.{member, tree_of_list}
use Rattle.comb_tree.specs.Changes.{map_members, placed, without, is_among}
use Rattle.object_set.specs.declared.object.Body.{Body}
use Rattle.object_set.specs.declared.object.Body.TheVariants.{Solid, Comb}
use Rattle.object_set.specs.Objects.{Parts, member_names}
use Rattle.object_set.specs.Renaming.{new_name}
use Rattle.command_set.specs.declared.command.Edit.{Edit}
use Rattle.command_set.specs.declared.command.Edit.TheVariants.{Make, Region, Group, Remove, Kill, RenameAll, Place, Title, Keep, Set}
use Rattle.command_set.specs.declared.refusal.Refusal.{Refusal}
use Rattle.command_set.specs.declared.refusal.Refusal.TheVariants.{Exists, Full}
use Rattle.directory.specs.Listing.{Listing}
use Rattle.directory.specs.Walks.{Entries, object_of, members_of, body_weight, comb_weight, IsSound, most_objects}
use Rattle.directory.specs.Edits.{appended, replaced, renamed_all}
use Rattle.shared_pages.proofs.NameLemmas.{name_tells}
use Rattle.object_pages.proofs.EntryLemmas.{other, absent_head, renamed_apart, length-replaced, length-renamed_all}
use Rattle.directory.proofs.WalkLemmas.{AddsOnlyAt}
use Rattle.directory.proofs.EditLemmas.{push_adds, replace_adds, rename_adds}
use Rattle.directory.proofs.TellLemmas.{missing_then}
use Rattle.directory.proofs.TakeLemmas.{nothing_distinct}
use Rattle.directory.proofs.WholeLemmas.{without_sound}
use Rattle.edit_core.specs.ListForms.{list_of}
use Rattle.edit_core.specs.Edits.{body_with, object_with, same_attr, with_tree, tree_at, body_tree, own_list, set_object, change_object, setting_attr, made}
use Rattle.edit_core.specs.Refused.{first_refusal, when, edited_name}
use Rattle.edit_core.specs.Verdicts.{earlier_refusals, earlier}
use Rattle.edit_core.specs.Steps.{names_in}
use Rattle.edit_core.proofs.ListLaws.{list_is}
use Rattle.edit_core.proofs.TreeSteps.{fewer, names_listed, members_of as placed_members, names_placed, named}
use Rattle.edit_core.proofs.Answered.{less_sound}

-- ---- edits that add a reference: only at the edited name
set_adds_by : (b : Bool) (es : Entries) (a : Name) (o : Parts) → AddsOnlyAt a es (cond b (replaced es a o) (appended es a o))
set_adds_by true es a o = replace_adds es a o
set_adds_by false es a o = push_adds es a o

set_adds : (es : Entries) (a : Name) (o : Parts) → AddsOnlyAt a es (set_object es a o)
set_adds es a o = set_adds_by (is_some (object_of es a)) es a o

-- ---- objects with no new references
-- the second refers to nothing to which the first does not, and is a combination only where that is one
record IsLessObject (old new : Parts) : Type 0 where
  weight : comb_weight (Some new) ≤ comb_weight (Some old)
  names : (x : Name) → Contains (members_of (Some new)) x → Contains (members_of (Some old)) x

changed_by : (es : Entries) (a : Name) (f : Parts → Parts) (o : Option Parts) → object_of es a ≡ o → IsSound es → ((p : Parts) → IsLessObject p (f p)) → IsSound (change_object es a f o)
changed_by es a f None e sound less = sound
changed_by es a f (Some p) e sound less =
    let at : (q : Option Parts) → Type 0 = λ q. IsSome q × (comb_weight (Some (f p)) ≤ comb_weight q) × ((x : Name) → Contains (members_of (Some (f p))) x → Contains (members_of q) x) in
    let here = subst at (sym e) (refl, (less p).weight, (less p).names) in
    less_sound es a (f p) sound here.0 here.1 here.2

changed_sound : (es : Entries) (a : Name) (f : Parts → Parts) → IsSound es → ((p : Parts) → IsLessObject p (f p)) → IsSound (change_object es a f (object_of es a))
changed_sound es a f sound less = changed_by es a f (object_of es a) refl sound less

body_with_weight : (f : Attr → Attr) (t : Tree) (b : Body) → body_weight (body_with f t b) ≤ body_weight b
body_with_weight f t (Solid s) = omega arith
body_with_weight f t (Comb attr old) = omega arith

body_with_names : (f : Attr → Attr) (t : Tree) (b : Body) → ((x : Name) → Contains (names_in t) x → Contains (names_in (body_tree b)) x) → (x : Name) → Contains (member_names (body_with f t b)) x → Contains (member_names b) x
body_with_names f t (Solid s) h x c = c
body_with_names f t (Comb attr old) h x c = h x c

less_with : (f : Attr → Attr) (t : Tree) (p : Parts) → ((x : Name) → Contains (names_in t) x → Contains (names_in (tree_at (Some p))) x) → IsLessObject p (object_with f t p)
less_with f t p h = record { weight = body_with_weight f t p.body; names = body_with_names f t p.body h }

-- ---- trees with no new names
none_in : (x : Name) → Contains (names_in (tree_of_list [])) x → ⊥
none_in x c = let none : Contains [] x = subst (λ (ns : List Name). Contains ns x) (names_listed (tree_of_list []) [] refl) c in absurd (omega (arith, none.1))

names_left : (gone : Name → Bool) (t : Tree) (o : Option (List ListEntry)) → list_of t ≡ o → (x : Name) → Contains (names_in (tree_of_list (without gone (unwrap_or o [])))) x → Contains (names_in t) x
names_left gone t None e x c = absurd (none_in x c)
names_left gone t (Some l) e x c =
    let is = (list_is t l e).tree in
    subst (λ (ns : List Name). Contains ns x) (sym (names_listed t l (sym is)))
    (fewer gone l x (subst (λ (ns : List Name). Contains ns x) (names_listed (tree_of_list (without gone l)) (without gone l) refl) c))

names_moved : (name : Name) (by : Placement) (t : Tree) (x : Name) → Contains (names_in (map_members (placed name by) t)) x → Contains (names_in t) x
names_moved name by t x c = subst (λ (ns : List Name). Contains ns x) (ap named (placed_members (placed name by) t) ∙ names_placed name by (members t)) c

left_less : (names : List Name) (p : Parts) → IsLessObject p (with_tree (λ tree. tree_of_list (without (is_among names) (own_list (Some p)))) p)
left_less names p = less_with same_attr _ p (names_left (is_among names) (tree_at (Some p)) (list_of (tree_at (Some p))) refl)

placed_less : (name : Name) (by : Placement) (p : Parts) → IsLessObject p (with_tree (map_members (placed name by)) p)
placed_less name by p = less_with same_attr _ p (names_moved name by (tree_at (Some p)))

-- ---- the resulting list: sound too, where no name is edited, or with new references at the edited name alone
abbrev pub AddsAt : Listing → Edit → Name → Type 0
AddsAt d edit a = (edited_name edit ≡ Some a) × AddsOnlyAt a d.objects (made d edit).objects

abbrev pub Touches : Listing → Edit → Type 0
Touches d edit = ((edited_name edit ≡ None) × IsSound (made d edit).objects) ⊎ ((a : Name) × AddsAt d edit a)

pub touches : (d : Listing) (edit : Edit) → IsSound d.objects → Touches d edit
touches d (Make name object) sound = inr (name, (refl, push_adds d.objects name object))
touches d (Region name list) sound = inr (name, (refl, set_adds d.objects name _))
touches d (Group name list) sound = inr (name, (refl, set_adds d.objects name _))
touches d (Remove comb names) sound = inl (refl, changed_sound d.objects comb _ sound (left_less names))
touches d (Kill names) sound = inl (refl, without_sound d.objects names sound)
touches d (RenameAll old new) sound = inr (new, (refl, rename_adds d.objects old new))
touches d (Place comb member placement) sound = inl (refl, changed_sound d.objects comb _ sound (placed_less member placement))
touches d (Title text) sound = inl (refl, sound)
touches d (Keep name pairs) sound = inl (refl, changed_sound d.objects name _ sound (λ p. record { weight = omega arith; names = λ x c. c }))
touches d (Set name setting) sound = inl (refl, changed_sound d.objects name _ sound (λ p. less_with (setting_attr setting) (tree_at (Some p)) p (λ x c. c)))

-- ---- the earlier refusals, one by one
pub all_none : (xs : List (Option Refusal)) → first_refusal xs ≡ None → AllByRecursion (λ (r : Option Refusal). r ≡ None) xs
all_none [] e = tt
all_none (None ∷ xs) e = (refl, all_none xs e)
all_none (Some r ∷ xs) e = cc

not_held : (b : Bool) (r : Refusal) → when b r ≡ None → b ≡ false
not_held true r e = cc
not_held false r e = refl

fresh_name : (es : Entries) (a : Name) → when (is_some (object_of es a)) (Exists a) ≡ None → object_of es a ≡ None
fresh_name es a e = missing_then (object_of es a) (not_held (is_some (object_of es a)) (Exists a) e)

-- where the name is not there, there is room
room_by : (b : Bool) (n : ℕ) → b ≡ false → when (not b && nat_le most_objects n) Full ≡ None → n < most_objects
room_by true n is e = cc
room_by false n is e = leb-false most_objects n (not_held (nat_le most_objects n) Full e)

-- ---- the names of the resulting list differ
all_pushed : (k a : Name) (es : Entries) (o : Parts) → k ≢ a → AllByRecursion (λ y. same_name k y ≡ false) (keys_of es) → AllByRecursion (λ y. same_name k y ≡ false) (keys_of (appended es a o))
all_pushed k a [] o apart h = (other k a apart, tt)
all_pushed k a ((l, p) ∷ es) o apart h = (h.0, all_pushed k a es o apart h.1)

push_distinct : (es : Entries) (a : Name) (o : Parts) → object_of es a ≡ None → IsDistinct same_name (keys_of es) → IsDistinct same_name (keys_of (appended es a o))
push_distinct [] a o none h = IsDistinct-cons same_name a [] tt nothing_distinct
push_distinct ((k, p) ∷ es) a o none h =
    let rest = absent_head a k p es none in
    IsDistinct-cons same_name k (keys_of (appended es a o)) (all_pushed k a es o rest.0 (IsDistinct-head same_name k (keys_of es) h)) (push_distinct es a o rest.1 (IsDistinct-tail same_name k (keys_of es) h))

apart_by : (k l : Name) → same_name k l ≡ false → k ≢ l
apart_by k l e = elim (name_tells k l) [ inl t ↦ absurd (true≢false (sym t.0 ∙ e)) | inr t ↦ t.1 ]

all_renamed : (a b k : Name) (es : Entries) → k ≢ b → object_of es b ≡ None → AllByRecursion (λ y. same_name k y ≡ false) (keys_of es)
    → AllByRecursion (λ y. same_name (new_name a b k) y ≡ false) (keys_of (renamed_all es a b))
all_renamed a b k [] apart none h = tt
all_renamed a b k ((l, p) ∷ es) apart none h =
    let rest = absent_head b l p es none in
    (other _ _ (renamed_apart a b k l (apart_by k l h.0) apart rest.0), all_renamed a b k es apart rest.1 h.1)

rename_distinct : (es : Entries) (a b : Name) → object_of es b ≡ None → IsDistinct same_name (keys_of es) → IsDistinct same_name (keys_of (renamed_all es a b))
rename_distinct [] a b none h = nothing_distinct
rename_distinct ((k, p) ∷ es) a b none h =
    let rest = absent_head b k p es none in
    IsDistinct-cons same_name (new_name a b k) (keys_of (renamed_all es a b)) (all_renamed a b k es rest.0 rest.1 (IsDistinct-head same_name k (keys_of es) h)) (rename_distinct es a b rest.1 (IsDistinct-tail same_name k (keys_of es) h))

-- ---- and they are not too many
abbrev pub IsProper : Entries → Type 0
IsProper es = (length es ≤ most_objects) × IsDistinct same_name (keys_of es)

pushed_proper : (es : Entries) (a : Name) (o : Parts) → object_of es a ≡ None → length es < most_objects → IsSound es → IsProper (appended es a o)
pushed_proper es a o none room sound = (omega (arith, room, length-append es ((a, o) ∷ [])), push_distinct es a o none sound.distinct)

replaced_proper : (es : Entries) (a : Name) (o : Parts) → IsSound es → IsProper (replaced es a o)
replaced_proper es a o sound =
    (omega (arith, sound.small, length-replaced es a o), subst (λ (ks : List Name). IsDistinct same_name ks) (sym (keys-set_value (same_name a) es o)) sound.distinct)

set_proper_by : (b : Bool) (es : Entries) (a : Name) (o : Parts) → is_some (object_of es a) ≡ b → when (not b && nat_le most_objects (length es)) Full ≡ None → IsSound es
    → IsProper (cond b (replaced es a o) (appended es a o))
set_proper_by true es a o is e sound = replaced_proper es a o sound
set_proper_by false es a o is e sound = pushed_proper es a o (missing_then (object_of es a) is) (room_by false (length es) refl e) sound

set_proper : (es : Entries) (a : Name) (o : Parts) → when (not (is_some (object_of es a)) && nat_le most_objects (length es)) Full ≡ None → IsSound es → IsProper (set_object es a o)
set_proper es a o e sound = set_proper_by (is_some (object_of es a)) es a o refl e sound

-- where no earlier refusal holds
pub proper : (d : Listing) (edit : Edit) (a : Name) → edited_name edit ≡ Some a → earlier d edit ≡ None → IsSound d.objects → IsProper (made d edit).objects
proper d (Make name object) a is late sound =
    let none = all_none (earlier_refusals d (Make name object)) late in
    let fresh = fresh_name d.objects name none.0 in
    pushed_proper d.objects name object fresh (room_by (is_some (object_of d.objects name)) (length d.objects) (ap is_some fresh) none.1.1.1.1.1.1.1.0) sound
proper d (Region name list) a is late sound = set_proper d.objects name _ (all_none (earlier_refusals d (Region name list)) late).1.1.1.1.1.1.1.0 sound
proper d (Group name list) a is late sound = set_proper d.objects name _ (all_none (earlier_refusals d (Group name list)) late).1.1.1.1.1.1.1.0 sound
proper d (RenameAll old new) a is late sound =
    let fresh = fresh_name d.objects new (all_none (earlier_refusals d (RenameAll old new)) late).0 in
    (omega (arith, sound.small, length-renamed_all d.objects old new), rename_distinct d.objects old new fresh sound.distinct)
proper d (Remove comb names) a is late sound = cc
proper d (Kill names) a is late sound = cc
proper d (Place comb member placement) a is late sound = cc
proper d (Title text) a is late sound = cc
proper d (Keep name pairs) a is late sound = cc
proper d (Set name setting) a is late sound = cc
