-- Edits whose names and texts have no line feed: their refusals stand on one line, and the directory that they make has no
-- line feed in its names, members and kept attributes.
use Rattle.std.proofs.Common.{◌≡◌, ◌≤◌, ◌++◌, ◌∙◌, ◌&&◌, ◌||◌, inl, inr, ℕ, Bool, true, false, not, cond, nat_le, nat_lt, List, [], ◌∷◌, Option, Some, None, is_some, is_none, find, length, codes, decimal, refl, sym, subst, arith, length-append}
use Rattle.std.specs.List.{AllByRecursion, list_any}
use Rattle.std.specs.Option.{option_map}
use Rattle.std.specs.Result.{result_ok}
use Rattle.transcript.proofs.Readable.{IfSomeKeeps}
use Rattle.name_core.specs.declared.name.Name.{Name}
use Rattle.name_core.specs.Same.{same_name}
use Rattle.shared_pages.proofs.NameLemmas.{name_tells}
use Rattle.transcript.specs.Lines.{Lacks, text_of, ended}
use Rattle.transcript.proofs.LineLaws.{lacks_append}
use Rattle.transcript.proofs.TranscriptLaws.{computed}
use Rattle.comb_tree.specs.declared.node.ListEntry.{ListEntry}
use Rattle.comb_tree.specs.Nodes.{members}
use Rattle.comb_tree.specs.Changes.{names_of, is_among, first_absent, first_lost_head, first_lost, lost_head, or_next, stays}
use Rattle.comb_tree.specs.Lists.{products}
use Rattle.object_set.specs.declared.object.Body.{Body}
use Rattle.object_set.specs.declared.object.Body.TheVariants as bodies
use Rattle.object_set.specs.Objects.{Parts}
use Rattle.command_set.specs.declared.command.Edit.{Edit}
use Rattle.command_set.specs.declared.command.Edit.TheVariants.{Make, Region, Group, Remove, Kill, RenameAll, Place, Title, Keep, Set}
use Rattle.command_set.specs.declared.refusal.Refusal.{Refusal}
use Rattle.command_set.specs.declared.refusal.Refusal.TheVariants.{Exists, Missing, NotComb, NotList, Absent, Heads, Members, Full, Cycle, Deep, Instances}
use Rattle.directory.specs.declared.fault.DirFault.TheVariants as faults
use Rattle.directory.specs.Listing.{Listing}
use Rattle.directory.specs.Walks.{Entries, most_objects, most_depth, unbounded, deepest, object_of}
use Rattle.directory.specs.Edits.{judged, first_of, appended, replaced, renamed_all}
use Rattle.edit_core.specs.ListForms.{list_of}
use Rattle.edit_core.specs.Edits.{object_at, tree_at, own_list, made, set_object, change_object, setting_attr}
use Rattle.edit_core.specs.Refused.{refusal_of, edited, unless, first_refusal, exists, missing, not_comb, not_list, absent, heads, too_many, full, too_deep, at_name, when, is_there, is_solid, fresh, wanted, combination, listed, put, edited_name, over_members, of_judgement}
use Rattle.report_text.specs.Names.{names_lines, mark_of}
use Rattle.mged_words.specs.Readable.{IsPlainRefusal, ArePlain, IsPlainObject, IsPlainEdit}
use Rattle.report_text.proofs.ShotLaws.{number_lacks}
use Rattle.session_run.proofs.ObjectLaws.{all_both, all_filtered, extended_plain, removed_plain, placed_plain, set_attr_plain, renamed_object_plain, kept_plain}

abbrev pub MayBePlain : Option Refusal → Type 0
MayBePlain None = Unit {0}
MayBePlain (Some refusal) = IsPlainRefusal refusal

abbrev pub IsPlainName : Option Name → Type 0
IsPlainName None = Unit {0}
IsPlainName (Some name) = Lacks 10 name

-- refusals of a name and of a number
plain_exists : (name : Name) → Lacks 10 name → IsPlainRefusal (Exists name)
plain_exists name h = record { one_line = lacks_append 10 (codes "exists ") name (computed 10 (codes "exists ") refl) h; other = refl }

pub plain_missing : (name : Name) → Lacks 10 name → IsPlainRefusal (Missing name)
plain_missing name h = record { one_line = lacks_append 10 (codes "missing ") name (computed 10 (codes "missing ") refl) h; other = refl }

plain_not_comb : (name : Name) → Lacks 10 name → IsPlainRefusal (NotComb name)
plain_not_comb name h = record { one_line = lacks_append 10 (codes "not-comb ") name (computed 10 (codes "not-comb ") refl) h; other = refl }

plain_not_list : (name : Name) → Lacks 10 name → IsPlainRefusal (NotList name)
plain_not_list name h = record { one_line = lacks_append 10 (codes "not-list ") name (computed 10 (codes "not-list ") refl) h; other = refl }

plain_absent : (name : Name) → Lacks 10 name → IsPlainRefusal (Absent name)
plain_absent name h = record { one_line = lacks_append 10 (codes "absent ") name (computed 10 (codes "absent ") refl) h; other = refl }

plain_heads : (name : Name) → Lacks 10 name → IsPlainRefusal (Heads name)
plain_heads name h = record { one_line = lacks_append 10 (codes "heads ") name (computed 10 (codes "heads ") refl) h; other = refl }

plain_members : (n : ℕ) → IsPlainRefusal (Members n)
plain_members n = record { one_line = lacks_append 10 (codes "members ") (decimal n) (computed 10 (codes "members ") refl) (number_lacks n); other = refl }

plain_full : IsPlainRefusal Full
plain_full = record { one_line = computed 10 (codes "full") refl; other = refl }

plain_cycle : (name : Name) → Lacks 10 name → IsPlainRefusal (Cycle name)
plain_cycle name h = record { one_line = lacks_append 10 (codes "cycle ") name (computed 10 (codes "cycle ") refl) h; other = refl }

pub plain_instances : (n : ℕ) → IsPlainRefusal (Instances n)
plain_instances n = record { one_line = lacks_append 10 (codes "instances ") (decimal n) (computed 10 (codes "instances ") refl) (number_lacks n); other = refl }

plain_deep : (n : ℕ) → IsPlainRefusal (Deep n)
plain_deep n = record { one_line = lacks_append 10 (codes "deep ") (decimal n) (computed 10 (codes "deep ") refl) (number_lacks n); other = refl }

may_when : (t : Bool) (refusal : Refusal) → IsPlainRefusal refusal → MayBePlain (when t refusal)
may_when true refusal h = h
may_when false refusal h = tt

may_at : (name : Option Name) (case : Name → Option Refusal) → IsPlainName name → ((n : Name) → Lacks 10 n → MayBePlain (case n)) → MayBePlain (at_name name case)
may_at None case h k = tt
may_at (Some n) case h k = k n h

may_be : (name : Option Name) (refusal : Name → Refusal) → IsPlainName name → ((n : Name) → Lacks 10 n → IsPlainRefusal (refusal n)) → MayBePlain (option_map refusal name)
may_be None refusal h k = tt
may_be (Some n) refusal h k = k n h

find_step : (t : Bool) (name : Name) (rest : Option Name) → Lacks 10 name → IsPlainName rest → IsPlainName (cond t (Some name) rest)
find_step true name rest h k = h
find_step false name rest h k = k

pub find_plain : (p : Name → Bool) (names : List Name) → ArePlain names → IsPlainName (find p names)
find_plain p [] h = tt
find_plain p (n ∷ ns) h = find_step (p n) n (find p ns) h.0 (find_plain p ns h.1)

-- the names of an edit
fresh_plain : (edit : Edit) → IsPlainEdit edit → IsPlainName (fresh edit)
fresh_plain (Make name object) h = h.0
fresh_plain (Region name list) h = tt
fresh_plain (Group name list) h = tt
fresh_plain (Remove comb names) h = tt
fresh_plain (Kill names) h = tt
fresh_plain (RenameAll old new) h = h.1
fresh_plain (Place comb member placement) h = tt
fresh_plain (Title text) h = tt
fresh_plain (Keep name pairs) h = tt
fresh_plain (Set name setting) h = tt

wanted_plain : (edit : Edit) → IsPlainEdit edit → ArePlain (wanted edit)
wanted_plain (Make name object) h = tt
wanted_plain (Region name list) h = tt
wanted_plain (Group name list) h = tt
wanted_plain (Remove comb names) h = (h.0, tt)
wanted_plain (Kill names) h = h
wanted_plain (RenameAll old new) h = (h.0, tt)
wanted_plain (Place comb member placement) h = (h.0, tt)
wanted_plain (Title text) h = tt
wanted_plain (Keep name pairs) h = (h.0, tt)
wanted_plain (Set name setting) h = (h, tt)

combination_plain : (edit : Edit) → IsPlainEdit edit → IsPlainName (combination edit)
combination_plain (Make name object) h = tt
combination_plain (Region name list) h = h.0
combination_plain (Group name list) h = h.0
combination_plain (Remove comb names) h = h.0
combination_plain (Kill names) h = tt
combination_plain (RenameAll old new) h = tt
combination_plain (Place comb member placement) h = h.0
combination_plain (Title text) h = tt
combination_plain (Keep name pairs) h = tt
combination_plain (Set name setting) h = h

listed_plain : (edit : Edit) → IsPlainEdit edit → IsPlainName (listed edit)
listed_plain (Make name object) h = tt
listed_plain (Region name list) h = h.0
listed_plain (Group name list) h = h.0
listed_plain (Remove comb names) h = h.0
listed_plain (Kill names) h = tt
listed_plain (RenameAll old new) h = tt
listed_plain (Place comb member placement) h = tt
listed_plain (Title text) h = tt
listed_plain (Keep name pairs) h = tt
listed_plain (Set name setting) h = tt

put_plain : (edit : Edit) → IsPlainEdit edit → IsPlainName (put edit)
put_plain (Make name object) h = h.0
put_plain (Region name list) h = h.0
put_plain (Group name list) h = h.0
put_plain (Remove comb names) h = tt
put_plain (Kill names) h = tt
put_plain (RenameAll old new) h = tt
put_plain (Place comb member placement) h = tt
put_plain (Title text) h = tt
put_plain (Keep name pairs) h = tt
put_plain (Set name setting) h = tt

edited_plain : (edit : Edit) → IsPlainEdit edit → IsPlainName (edited_name edit)
edited_plain (Make name object) h = h.0
edited_plain (Region name list) h = h.0
edited_plain (Group name list) h = h.0
edited_plain (Remove comb names) h = tt
edited_plain (Kill names) h = tt
edited_plain (RenameAll old new) h = h.1
edited_plain (Place comb member placement) h = tt
edited_plain (Title text) h = tt
edited_plain (Keep name pairs) h = tt
edited_plain (Set name setting) h = tt

-- a name that is among plain names is plain
pub same_plain : (x y : Name) → Lacks 10 y → same_name x y ≡ true → Lacks 10 x
same_plain x y h e = elim (name_tells x y) [ inl t ↦ subst (Lacks 10) (sym t.1) h | inr t ↦ let wrong : true ≡ false = sym e ∙ t.0 in cc ]

either_plain : (t u : Bool) (x : Name) → (t ≡ true → Lacks 10 x) → (u ≡ true → Lacks 10 x) → (t || u) ≡ true → Lacks 10 x
either_plain true u x h k e = h refl
either_plain false u x h k e = k e

among_plain : (names : List Name) (x : Name) → ArePlain names → is_among names x ≡ true → Lacks 10 x
among_plain [] x h e = absurd cc
among_plain (n ∷ ns) x h e = either_plain (same_name x n) (list_any (same_name x) ns) x (same_plain x n h.0) (among_plain ns x h.1) e

lost_step : (t u : Bool) (x : Name) → (t ≡ true → Lacks 10 x) → IsPlainName (cond (t && u) (Some x) None)
lost_step true true x h = h refl
lost_step true false x h = tt
lost_step false u x h = tt

head_plain : (gone : Name → Bool) (l : List ListEntry) → ((x : Name) → gone x ≡ true → Lacks 10 x) → IsPlainName (lost_head gone l)
head_plain gone [] h = tt
head_plain gone (e ∷ es) h = lost_step (gone e.name) (list_any (stays gone) es) e.name (h e.name)

next_plain : (first next : Option Name) → IsPlainName first → IsPlainName next → IsPlainName (or_next first next)
next_plain None next h k = k
next_plain (Some x) next h k = h

heads_plain : (gone : Name → Bool) (ps : List (List ListEntry)) → ((x : Name) → gone x ≡ true → Lacks 10 x) → IsPlainName (first_lost gone ps)
heads_plain gone [] h = tt
heads_plain gone (p ∷ ps) h = next_plain (lost_head gone p) (first_lost gone ps) (head_plain gone p h) (heads_plain gone ps h)

judged_plain : (t u : Bool) (x : Name) (depth : ℕ) → Lacks 10 x
    → MayBePlain (of_judgement (first_of (cond t (Some (faults.Cycle x)) None ∷ cond u (Some (faults.Deep depth)) None ∷ [])))
judged_plain true u x depth h = plain_cycle x h
judged_plain false true x depth h = plain_deep depth
judged_plain false false x depth h = tt

absent_plain : (d : Listing) (edit : Edit) → IsPlainEdit edit → MayBePlain (absent d edit)
absent_plain d (Make name object) h = tt
absent_plain d (Region name list) h = tt
absent_plain d (Group name list) h = tt
absent_plain d (Remove comb names) h = may_be (first_absent names (own_list (object_at d comb))) Absent (find_plain (λ n. not (is_among (names_of (own_list (object_at d comb))) n)) names h.1) plain_absent
absent_plain d (Kill names) h = tt
absent_plain d (RenameAll old new) h = tt
absent_plain d (Place comb member placement) h = may_when (not (list_any (λ m. same_name m.name member) (members (tree_at (object_at d comb))))) (Absent member) (plain_absent member h.1)
absent_plain d (Title text) h = tt
absent_plain d (Keep name pairs) h = tt
absent_plain d (Set name setting) h = tt

lost_plain : (d : Listing) (edit : Edit) → IsPlainEdit edit → MayBePlain (heads d edit)
lost_plain d (Make name object) h = tt
lost_plain d (Region name list) h = tt
lost_plain d (Group name list) h = tt
lost_plain d (Remove comb names) h = may_be (first_lost_head (is_among names) (own_list (object_at d comb))) Heads (heads_plain (is_among names) (products (own_list (object_at d comb))) (λ x. among_plain names x h.1)) plain_heads
lost_plain d (Kill names) h = tt
lost_plain d (RenameAll old new) h = tt
lost_plain d (Place comb member placement) h = tt
lost_plain d (Title text) h = tt
lost_plain d (Keep name pairs) h = tt
lost_plain d (Set name setting) h = tt

over_plain : (n : ℕ) → MayBePlain (over_members n)
over_plain n = may_when (nat_lt 4096 n) (Members n) (plain_members n)

many_plain : (d : Listing) (edit : Edit) → MayBePlain (too_many d edit)
many_plain d (Make name object) = tt
many_plain d (Region name list) = over_plain (length (own_list (object_at d name) ++ list))
many_plain d (Group name list) = over_plain (length (own_list (object_at d name) ++ list))
many_plain d (Remove comb names) = tt
many_plain d (Kill names) = tt
many_plain d (RenameAll old new) = tt
many_plain d (Place comb member placement) = tt
many_plain d (Title text) = tt
many_plain d (Keep name pairs) = tt
many_plain d (Set name setting) = tt

first_plain : (faults : List (Option Refusal)) → AllByRecursion MayBePlain faults → MayBePlain (first_refusal faults)
first_plain [] h = tt
first_plain (None ∷ rest) h = first_plain rest h.1
first_plain (Some refusal ∷ rest) h = h.0

-- the refusal of an edit stands on one line, and does not say memory
pub refusal_plain : (d : Listing) (edit : Edit) → IsPlainEdit edit → MayBePlain (refusal_of d edit)
refusal_plain d edit h =
    first_plain (exists d edit ∷ missing d edit ∷ not_comb d edit ∷ not_list d edit ∷ absent d edit ∷ heads d edit ∷ too_many d edit ∷ full d edit ∷ too_deep d edit ∷ []) (
      may_at (fresh edit) (λ name. when (is_there d name) (Exists name)) (fresh_plain edit h) (λ n k. may_when (is_there d n) (Exists n) (plain_exists n k)),
      (
        may_be (find (λ name. not (is_there d name)) (wanted edit)) Missing (find_plain (λ name. not (is_there d name)) (wanted edit) (wanted_plain edit h)) plain_missing,
        (
          may_at (combination edit) (λ name. when (is_solid (object_at d name)) (NotComb name)) (combination_plain edit h) (λ n k. may_when (is_solid (object_at d n)) (NotComb n) (plain_not_comb n k)),
          (
            may_at (listed edit) (λ name. when (is_none (list_of (tree_at (object_at d name)))) (NotList name)) (listed_plain edit h) (λ n k. may_when (is_none (list_of (tree_at (object_at d n)))) (NotList n) (plain_not_list n k)),
            (
              absent_plain d edit h,
              (
                lost_plain d edit h,
                (
                  many_plain d edit,
                  (
                    may_at (put edit) (λ name. when (not (is_there d name) && nat_le most_objects (length d.objects)) Full) (put_plain edit h) (λ n k. may_when (not (is_there d n) && nat_le most_objects (length d.objects)) Full plain_full),
                    (
                      may_at (edited_name edit) (λ name. of_judgement (judged (made d edit).objects name)) (edited_plain edit h)
                          (λ n k. judged_plain (nat_le unbounded (deepest (made d edit).objects)) (nat_lt most_depth (deepest (made d edit).objects)) n (deepest (made d edit).objects) k),
                      tt,
                    ),
                  ),
                ),
              ),
            ),
          ),
        ),
      ),
    )

-- the names of a directory have no line feed
abbrev pub HasPlainNames : Entries → Type 0
HasPlainNames es = AllByRecursion (λ (e : Name × Parts). Lacks 10 e.0) es

-- its names, members and kept attributes have none
abbrev IsPlainEntry : Name × Parts → Type 0
IsPlainEntry e = Lacks 10 e.0 × IsPlainObject e.1

abbrev pub AreEntriesPlain : Entries → Type 0
AreEntriesPlain es = AllByRecursion IsPlainEntry es

abbrev pub IsPlainListing : Listing → Type 0
IsPlainListing d = AreEntriesPlain d.objects

pub plain_names : (es : Entries) → AreEntriesPlain es → HasPlainNames es
plain_names [] h = tt
plain_names (e ∷ es) h = (h.0.0, plain_names es h.1)

-- the object of a name
found_step : (t : Bool) (one o : Parts) (rest : Option Parts) → IsPlainObject one → (rest ≡ Some o → IsPlainObject o) → cond t (Some one) rest ≡ Some o → IsPlainObject o
found_step true one o rest h k e = let same : one ≡ o = cc in subst IsPlainObject same h
found_step false one o rest h k e = k e

pub object_plain : (es : Entries) (name : Name) (o : Parts) → AreEntriesPlain es → object_of es name ≡ Some o → IsPlainObject o
object_plain [] name o h e = absurd cc
object_plain (x ∷ es) name o h e = found_step (same_name name x.0) x.1 o (object_of es name) h.0.1 (object_plain es name o h.1) e

appended_plain : (es : Entries) (name : Name) (object : Parts) → AreEntriesPlain es → Lacks 10 name → IsPlainObject object → AreEntriesPlain (appended es name object)
appended_plain es name object h k l = all_both IsPlainEntry es ((name, object) ∷ []) h ((k, l), tt)

value_step : (t : Bool) (name : Name) (one other : Parts) (es rest : Entries) → Lacks 10 name → IsPlainObject one → IsPlainObject other → AreEntriesPlain es → AreEntriesPlain rest
    → AreEntriesPlain (cond t ((name, one) ∷ es) ((name, other) ∷ rest))
value_step true name one other es rest n h k l m = ((n, h), l)
value_step false name one other es rest n h k l m = ((n, k), m)

replaced_plain : (es : Entries) (name : Name) (object : Parts) → AreEntriesPlain es → IsPlainObject object → AreEntriesPlain (replaced es name object)
replaced_plain [] name object h k = tt
replaced_plain (e ∷ es) name object h k = value_step (same_name name e.0) e.0 object e.1 es (replaced es name object) h.0.0 k h.0.1 h.1 (replaced_plain es name object h.1 k)

set_step : (t : Bool) (one other : Entries) → AreEntriesPlain one → AreEntriesPlain other → AreEntriesPlain (cond t one other)
set_step true one other h k = h
set_step false one other h k = k

set_plain : (es : Entries) (name : Name) (object : Parts) → AreEntriesPlain es → Lacks 10 name → IsPlainObject object → AreEntriesPlain (set_object es name object)
set_plain es name object h k l = set_step (is_some (object_of es name)) (replaced es name object) (appended es name object) (replaced_plain es name object h l) (appended_plain es name object h k l)

changed_plain : (es : Entries) (name : Name) (f : Parts → Parts) (there : Option Parts) → object_of es name ≡ there → AreEntriesPlain es → ((o : Parts) → IsPlainObject o → IsPlainObject (f o)) → AreEntriesPlain (change_object es name f there)
changed_plain es name f None is h k = h
changed_plain es name f (Some object) is h k = replaced_plain es name (f object) h (k object (object_plain es name object h is))

name_step : (t : Bool) (new old : Name) → Lacks 10 new → Lacks 10 old → Lacks 10 (cond t new old)
name_step true new old h k = h
name_step false new old h k = k

renamed_plain : (es : Entries) (old new : Name) → AreEntriesPlain es → Lacks 10 new → AreEntriesPlain (renamed_all es old new)
renamed_plain [] old new h k = tt
renamed_plain (e ∷ es) old new h k = ((name_step (same_name e.0 old) new e.0 k h.0.0, renamed_object_plain old new e.1 k h.0.1), renamed_plain es old new h.1 k)

made_plain : (d : Listing) (edit : Edit) → IsPlainListing d → IsPlainEdit edit → IsPlainListing (made d edit)
made_plain d (Make name object) h k = appended_plain d.objects name object h k.0 k.1
made_plain d (Region name list) h k = set_plain d.objects name _ h k.0 (extended_plain _ _ list (object_at d name) k.1 (λ o e. object_plain d.objects name o h e))
made_plain d (Group name list) h k = set_plain d.objects name _ h k.0 (extended_plain _ _ list (object_at d name) k.1 (λ o e. object_plain d.objects name o h e))
made_plain d (Remove comb names) h k = changed_plain d.objects comb _ (object_at d comb) refl h (λ o l. removed_plain (is_among names) o l)
made_plain d (Kill names) h k = all_filtered IsPlainEntry _ d.objects h
made_plain d (RenameAll old new) h k = renamed_plain d.objects old new h k.1
made_plain d (Place comb member placement) h k = changed_plain d.objects comb _ (object_at d comb) refl h (λ o l. placed_plain member placement o l)
made_plain d (Title text) h k = h
made_plain d (Keep name pairs) h k = changed_plain d.objects name _ (object_at d name) refl h (λ o l. kept_plain pairs o k.1 l)
made_plain d (Set name setting) h k = changed_plain d.objects name _ (object_at d name) refl h (λ o l. set_attr_plain (setting_attr setting) o l)

kept_unless : (refusal : Option Refusal) (d : Listing) → IsPlainListing d → IfSomeKeeps IsPlainListing (result_ok (unless refusal d))
kept_unless None d h = h
kept_unless (Some refusal) d h = tt

-- the directory that an edit makes is plain again
pub edit_keeps : (d : Listing) (edit : Edit) → IsPlainListing d → IsPlainEdit edit → IfSomeKeeps IsPlainListing (result_ok (edited d edit))
edit_keeps d edit h k = kept_unless (refusal_of d edit) (made d edit) (made_plain d edit h k)

pub mark_lacks : (body : Body) → Lacks 10 (mark_of body)
mark_lacks (bodies.Solid solid) = tt
mark_lacks (bodies.Comb attr tree) = elim attr.region as (λ b. Lacks 10 (cond b (codes "/R") (codes "/"))) [ true ↦ computed 10 (codes "/R") refl | false ↦ computed 10 (codes "/") refl ]

-- their lines
pub names_plain : (es : Entries) → HasPlainNames es → AllByRecursion (Lacks 10) (names_lines es)
names_plain [] h = tt
names_plain (e ∷ es) h = (lacks_append 10 e.0 (mark_of (e.1).body) h.0 (mark_lacks (e.1).body), names_plain es h.1)

-- a text has no more lines than bytes
pub lines_few : (lines : List (List ℕ)) → length lines ≤ length (text_of lines)
lines_few [] = omega arith
lines_few (l ∷ ls) = omega (arith, lines_few ls, length-append (ended l) (text_of ls), length-append l (10 ∷ []))
