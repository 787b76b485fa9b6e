-- What the calls on a directory answer, in the words of the edits.
use Rattle.std.proofs.Common.{◌≡◌, ◌≤◌, ◌∙◌, ℕ, List, [], ◌∷◌, ◌++◌, length, Bool, true, false, not, Option, Some, None, IsSome, Result, Ok, Err, inl, inr, refl, ap, sym, subst, arith, Bor}
use Rattle.std.specs.Prelude.{◌≢◌, ◌⊎◌, ◌&&◌, nat_le, nat_lt, is_some, is_none}
use Rattle.std.specs.Option.{option_map, option_copied}
use Rattle.std.specs.List.{Contains, IsDistinct}
use Rattle.std.specs.Map.{keys_of}
use Rattle.std.proofs.lemmas.Map.{keys-set_value}
use Rattle.name_core.specs.declared.name.Name.{Name}
use Rattle.name_core.specs.Same.{same_name}
use Rattle.lattice_core.specs.declared.placement.Placement.{Placement}
use Rattle.region_attr.specs.declared.attr.Attr.{Attr}
use Rattle.comb_tree.specs.declared.node.ListEntry.{ListEntry}
use Rattle.comb_tree.specs.Nodes.{Comb as Tree}
use Rattle.comb_tree.specs.Lists.{tree_of_list}
use Rattle.comb_tree.specs.Changes.{map_members, placed, without, is_among, first_absent, first_lost_head}
use Rattle.object_set.specs.declared.object.Body.{Body}
use Rattle.object_set.specs.declared.object.Body.TheVariants.{Comb}
use Rattle.object_set.specs.Objects.{Parts}
use Rattle.command_set.specs.declared.command.Edit.{Edit}
use Rattle.command_set.specs.declared.command.Edit.TheVariants as edits
use Rattle.command_set.specs.declared.refusal.Refusal.{Refusal}
use Rattle.command_set.specs.declared.refusal.Refusal.TheVariants as why
use Rattle.directory.specs.declared.fault.DirFault.{DirFault}
use Rattle.directory.specs.declared.fault.DirFault.TheVariants as fault
use Rattle.directory.specs.Listing.{Listing}
use Rattle.directory.specs.Walks.{Entries, object_of, members_of, comb_weight, HasCycleThrough, IsSound, most_objects, most_depth, unbounded, deepest}
use Rattle.directory.specs.Edits.{first_of, judged_by, judged, appended, put_fault, replaced, replace_fault, Follows}
use Rattle.directory.specs.Edits as of_directory
use Rattle.object_pages.proofs.EntryLemmas.{same_or_apart}
use Rattle.directory.proofs.EditLemmas.{same_away, IsWithin, within_sound}
use Rattle.object_pages.proofs.EntryLemmas.{replace_there, replace_other, length-replaced}
use Rattle.directory.proofs.TellLemmas.{judged_cycle, judged_deep, replace_rest}
use Rattle.edit_core.specs.ListForms.{list_of}
use Rattle.edit_core.specs.Edits.{object_at, own_list, set_object, extended, tree_at, made}
use Rattle.edit_core.specs.Refused.{first_refusal, when, is_solid, over_members, full, too_deep, of_judgement, refusal_of, unless, edited}
use Rattle.edit_core.specs.Outcomes.{IsApplied, Tells}
use Rattle.edit_core.specs.Steps.{directory_refusal, directory_answer, Answers, list_or_empty, names_in, IsLess, remove_refusal, place_refusal, extension, new_attr, change_of_attr, extension_refusal, set_refusal, with_object, Changes, Exchanges, Becomes}

pub same_listing : (a b : Listing) → a.title ≡ b.title → a.objects ≡ b.objects → a ≡ b
same_listing a b t o =
    ap (λ x. let l : Listing = record { title = x; objects = a.objects } in l) t ∙ ap (λ x. let l : Listing = record { title = b.title; objects = x } in l) o

some_true : (o : Option Parts) → IsSome o → is_some o ≡ true
some_true None h = cc
some_true (Some x) h = refl

-- a look-up that lends what it found
pub lent_some : (o : Option (Bor Parts)) (p : Option Parts) (b : Bool) → option_copied o ≡ p → b ≡ is_some o → is_some p ≡ b
lent_some None p b e h = ap is_some (sym e) ∙ sym h
lent_some (Some x) p b e h = ap is_some (sym e) ∙ sym h

-- ---- a sound list is judged without a fault
others : (p q : Bool) (a : Name) (d : ℕ) (f : DirFault) → first_of (of_directory.when p (fault.Cycle a) ∷ of_directory.when q (fault.Deep d) ∷ []) ≡ Some f → (f ≡ fault.Cycle a) ⊎ (f ≡ fault.Deep d)
others true q a d f e = let same : fault.Cycle a ≡ f = cc in inl (sym same)
others false true a d f e = let same : fault.Deep d ≡ f = cc in inr (sym same)
others false false a d f e = cc

none_judged : (dir : Entries) (a : Name) (v : Option DirFault) → IsSound dir → judged dir a ≡ v → v ≡ None
none_judged dir a None sound e = refl
none_judged dir a (Some f) sound e =
    absurd (elim (others (nat_le unbounded (deepest dir)) (nat_lt most_depth (deepest dir)) a (deepest dir) f e) [
      | inl c ↦ sound.acyclic a (judged_cycle dir dir a a (same_away a dir dir (λ x apart. refl)) sound (e ∙ ap (λ (x : DirFault). Some x) c)).1
      | inr c ↦
          let deep = judged_deep dir a (deepest dir) (e ∙ ap (λ (x : DirFault). Some x) c) in
          let own = deep.2.attained in
          omega (arith, deep.1, own.attained, sound.shallow (deep.2.deepest ∷ own.after) own.walk)
    ])

pub sound_judged : (dir : Entries) (a : Name) → IsSound dir → judged dir a ≡ None
sound_judged dir a sound = none_judged dir a (judged dir a) sound refl

-- ---- an object that refers to nothing new
within : (dir : Entries) (a : Name) (o : Parts) → IsSome (object_of dir a) → comb_weight (Some o) ≤ comb_weight (object_of dir a)
    → ((x : Name) → Contains (members_of (Some o)) x → Contains (members_of (object_of dir a)) x) → IsWithin dir (replaced dir a o)
within dir a o there weight names = record {
  weight = λ x. elim (same_or_apart x a) [
    | inl e ↦ subst (λ (y : Name). comb_weight (object_of (replaced dir a o) y) ≤ comb_weight (object_of dir y)) (sym e) (subst (λ (p : Option Parts). comb_weight p ≤ comb_weight (object_of dir a)) (sym (replace_there dir a o there)) weight)
    | inr apart ↦ subst (λ (p : Option Parts). comb_weight p ≤ comb_weight (object_of dir x)) (sym (replace_other dir a o x apart)) (omega arith)
  ];
  refers = λ x y c. elim (same_or_apart x a) [
    | inl e ↦ subst (λ (z : Name). Contains (members_of (object_of (replaced dir a o) z)) y → Contains (members_of (object_of dir z)) y) (sym e) (λ k. names y (subst (λ (p : Option Parts). Contains (members_of p) y) (replace_there dir a o there) k)) c
    | inr apart ↦ subst (λ (p : Option Parts). Contains (members_of p) y) (replace_other dir a o x apart) c
  ];
}

pub less_sound : (dir : Entries) (a : Name) (o : Parts) → IsSound dir → IsSome (object_of dir a) → comb_weight (Some o) ≤ comb_weight (object_of dir a)
    → ((x : Name) → Contains (members_of (Some o)) x → Contains (members_of (object_of dir a)) x) → IsSound (replaced dir a o)
less_sound dir a o sound there weight names =
    let distinct : IsDistinct same_name (keys_of (replaced dir a o)) = subst (λ (ks : List Name). IsDistinct same_name ks) (sym (keys-set_value (same_name a) dir o)) sound.distinct in
    within_sound dir (replaced dir a o) (within dir a o there weight names) sound (omega (arith, sound.small, length-replaced dir a o)) distinct

pub less_fault : (dir : Entries) (a : Name) (o : Parts) → IsSound dir → IsSome (object_of dir a) → comb_weight (Some o) ≤ comb_weight (object_of dir a)
    → ((x : Name) → Contains (members_of (Some o)) x → Contains (members_of (object_of dir a)) x) → replace_fault dir a o ≡ None
less_fault dir a o sound there weight names =
    sym (replace_rest dir a o (some_true (object_of dir a) there)) ∙ sound_judged (replaced dir a o) a (less_sound dir a o sound there weight names)

pub exchanges : (d new : Listing) (name : Name) (object : Parts) (r : Result (Unit {0}) DirFault) → replace_fault d.objects name object ≡ None
    → Follows d.objects (replace_fault d.objects name object) (replaced d.objects name object) r new.objects → of_directory.Tells (replaced d.objects name object) name r → new.title ≡ d.title
    → Exchanges d name object (directory_answer name name r) new
exchanges d new name object (Ok u) none h t title = (same_listing new (with_object d name object) title h.1, subst IsSound (sym h.1) t)
exchanges d new name object (Err fault.Memory) none h t title = (refl, same_listing new d title h.1)
exchanges d new name object (Err fault.Exists) none h t title = let wrong : None ≡ Some fault.Exists = sym none ∙ h.0 in cc
exchanges d new name object (Err fault.Missing) none h t title = let wrong : None ≡ Some fault.Missing = sym none ∙ h.0 in cc
exchanges d new name object (Err fault.Full) none h t title = let wrong : None ≡ Some fault.Full = sym none ∙ h.0 in cc
exchanges d new name object (Err (fault.Cycle a)) none h t title = let wrong : None ≡ Some (fault.Cycle a) = sym none ∙ h.0 in cc
exchanges d new name object (Err (fault.Deep n)) none h t title = let wrong : None ≡ Some (fault.Deep n) = sym none ∙ h.0 in cc

-- ---- a directory's answer as an edit's
abbrev pub the_refusal : Name → Name → Option DirFault → Option Refusal
the_refusal new old v = option_map (directory_refusal new old) v

pub becomes : (old new : Listing) (objects : Entries) (a b : Name) (v : Option DirFault) (w : Option Refusal) (r : Result (Unit {0}) DirFault) → the_refusal a b v ≡ w
    → Follows old.objects v objects r new.objects → new.title ≡ old.title → Becomes w old objects (directory_answer a b r) new
becomes old new objects a b v w (Ok u) same h title = (sym same ∙ ap (the_refusal a b) h.0, same_listing new (record old { objects = objects }) title h.1)
becomes old new objects a b v w (Err fault.Memory) same h title = (inl refl, same_listing new old title h.1)
becomes old new objects a b v w (Err fault.Exists) same h title = (inr (sym same ∙ ap (the_refusal a b) h.0), same_listing new old title h.1)
becomes old new objects a b v w (Err fault.Missing) same h title = (inr (sym same ∙ ap (the_refusal a b) h.0), same_listing new old title h.1)
becomes old new objects a b v w (Err fault.Full) same h title = (inr (sym same ∙ ap (the_refusal a b) h.0), same_listing new old title h.1)
becomes old new objects a b v w (Err (fault.Cycle n)) same h title = (inr (sym same ∙ ap (the_refusal a b) h.0), same_listing new old title h.1)
becomes old new objects a b v w (Err (fault.Deep n)) same h title = (inr (sym same ∙ ap (the_refusal a b) h.0), same_listing new old title h.1)

pub tells : (d : Listing) (objects : Entries) (a b name : Name) (r : Result (Unit {0}) DirFault) → of_directory.Tells objects name r → Tells (directory_answer a b r) (record d { objects = objects })
tells d objects a b name (Ok u) h = h
tells d objects a b name (Err fault.Memory) h = tt
tells d objects a b name (Err fault.Exists) h = tt
tells d objects a b name (Err fault.Missing) h = tt
tells d objects a b name (Err fault.Full) h = tt
tells d objects a b name (Err (fault.Cycle n)) h = subst (λ (x : Name). HasCycleThrough objects x) (sym h.0) h.1
tells d objects a b name (Err (fault.Deep n)) h = h

-- ---- the refusals in order
put_or_not : (f p q : Bool) (name : Name) (depth : ℕ)
    → the_refusal name name (first_of (of_directory.when f fault.Full ∷ first_of (of_directory.when p (fault.Cycle name) ∷ of_directory.when q (fault.Deep depth) ∷ []) ∷ []))
    ≡ first_refusal (when f why.Full ∷ of_judgement (first_of (of_directory.when p (fault.Cycle name) ∷ of_directory.when q (fault.Deep depth) ∷ [])) ∷ [])
put_or_not true p q name depth = refl
put_or_not false true q name depth = refl
put_or_not false false true name depth = refl
put_or_not false false false name depth = refl

make_or_not : (e f p q : Bool) (name : Name) (depth : ℕ)
    → the_refusal name name (first_of (of_directory.when e fault.Exists ∷ of_directory.when f fault.Full ∷ first_of (of_directory.when p (fault.Cycle name) ∷ of_directory.when q (fault.Deep depth) ∷ []) ∷ []))
    ≡ first_refusal (when e (why.Exists name) ∷ None ∷ None ∷ None ∷ None ∷ None ∷ None ∷ when (not e && f) why.Full ∷ of_judgement (first_of (of_directory.when p (fault.Cycle name) ∷ of_directory.when q (fault.Deep depth) ∷ [])) ∷ [])
make_or_not true f p q name depth = refl
make_or_not false f p q name depth = put_or_not f p q name depth

pub make_refusal : (d : Listing) (name : Name) (object : Parts) → the_refusal name name (put_fault d.objects name object) ≡ refusal_of d (edits.Make name object)
make_refusal d name object =
    let depth = deepest (appended d.objects name object) in
    make_or_not (is_some (object_of d.objects name)) (nat_le most_objects (length d.objects)) (nat_le unbounded depth) (nat_lt most_depth depth) name depth

pub put_refusal : (es : Entries) (name : Name) (object : Parts) → is_some (object_of es name) ≡ false → the_refusal name name (put_fault es name object) ≡ set_refusal es name object
put_refusal es name object e =
    let depth = deepest (appended es name object) in
    rw e (put_or_not (nat_le most_objects (length es)) (nat_le unbounded depth) (nat_lt most_depth depth) name depth)

pub replace_refusal : (es : Entries) (name : Name) (object : Parts) → is_some (object_of es name) ≡ true → the_refusal name name (replace_fault es name object) ≡ set_refusal es name object
replace_refusal es name object e =
    let depth = deepest (replaced es name object) in
    rw e (put_or_not false (nat_le unbounded depth) (nat_lt most_depth depth) name depth)

pub set_there : (es : Entries) (name : Name) (object : Parts) → is_some (object_of es name) ≡ true → replaced es name object ≡ set_object es name object
set_there es name object e = rw e refl

pub set_absent : (es : Entries) (name : Name) (object : Parts) → is_some (object_of es name) ≡ false → appended es name object ≡ set_object es name object
set_absent es name object e = rw e refl

pub set_by_replace : (d new : Listing) (name : Name) (object : Parts) (r : Result (Unit {0}) DirFault) → is_some (object_of d.objects name) ≡ true
    → Follows d.objects (replace_fault d.objects name object) (replaced d.objects name object) r new.objects → new.title ≡ d.title
    → Becomes (set_refusal d.objects name object) d (set_object d.objects name object) (directory_answer name name r) new
set_by_replace d new name object r there h title =
    subst (λ (es : Entries). Becomes (set_refusal d.objects name object) d es (directory_answer name name r) new) (set_there d.objects name object there)
    (becomes d new (replaced d.objects name object) name name (replace_fault d.objects name object) (set_refusal d.objects name object) r (replace_refusal d.objects name object there) h title)

pub set_by_put : (d new : Listing) (name : Name) (object : Parts) (r : Result (Unit {0}) DirFault) → is_some (object_of d.objects name) ≡ false
    → Follows d.objects (put_fault d.objects name object) (appended d.objects name object) r new.objects → new.title ≡ d.title
    → Becomes (set_refusal d.objects name object) d (set_object d.objects name object) (directory_answer name name r) new
set_by_put d new name object r absent h title =
    subst (λ (es : Entries). Becomes (set_refusal d.objects name object) d es (directory_answer name name r) new) (set_absent d.objects name object absent)
    (becomes d new (appended d.objects name object) name name (put_fault d.objects name object) (set_refusal d.objects name object) r (put_refusal d.objects name object absent) h title)

pub set_tells : (d : Listing) (objects set : Entries) (name : Name) (r : Result (Unit {0}) DirFault) → objects ≡ set → of_directory.Tells objects name r → Tells (directory_answer name name r) (record d { objects = set })
set_tells d objects set name r same h = subst (λ (es : Entries). Tells (directory_answer name name r) (record d { objects = es })) same (tells d objects name name name r h)

-- ---- an edit by what it makes of the list
sure : (d : Listing) (edit : Edit) (r : Refusal) → r ≢ why.Memory → (r ≡ why.Memory) ⊎ (refusal_of d edit ≡ Some r) → edited d edit ≡ Err r
sure d edit r apart (inl e) = absurd (apart e)
sure d edit r apart (inr e) = ap (λ (w : Option Refusal). unless w (made d edit)) e

pub applied_or : (d new : Listing) (edit : Edit) (r : Refusal) → (r ≡ why.Memory) ⊎ (refusal_of d edit ≡ Some r) → new ≡ d → IsApplied (Err r) edit d new
applied_or d new edit why.Memory h same = same
applied_or d new edit why.Syntax h same = (sure d edit why.Syntax (λ e. cc) h, same)
applied_or d new edit (why.Name n) h same = (sure d edit (why.Name n) (λ e. cc) h, same)
applied_or d new edit (why.Number n) h same = (sure d edit (why.Number n) (λ e. cc) h, same)
applied_or d new edit (why.View v) h same = (sure d edit (why.View v) (λ e. cc) h, same)
applied_or d new edit (why.Shape s) h same = (sure d edit (why.Shape s) (λ e. cc) h, same)
applied_or d new edit (why.Exists n) h same = (sure d edit (why.Exists n) (λ e. cc) h, same)
applied_or d new edit (why.Missing n) h same = (sure d edit (why.Missing n) (λ e. cc) h, same)
applied_or d new edit (why.NotComb n) h same = (sure d edit (why.NotComb n) (λ e. cc) h, same)
applied_or d new edit (why.NotList n) h same = (sure d edit (why.NotList n) (λ e. cc) h, same)
applied_or d new edit (why.Absent n) h same = (sure d edit (why.Absent n) (λ e. cc) h, same)
applied_or d new edit (why.Heads n) h same = (sure d edit (why.Heads n) (λ e. cc) h, same)
applied_or d new edit (why.Members n) h same = (sure d edit (why.Members n) (λ e. cc) h, same)
applied_or d new edit why.Full h same = (sure d edit why.Full (λ e. cc) h, same)
applied_or d new edit (why.Cycle n) h same = (sure d edit (why.Cycle n) (λ e. cc) h, same)
applied_or d new edit (why.Deep n) h same = (sure d edit (why.Deep n) (λ e. cc) h, same)
applied_or d new edit (why.Instances n) h same = (sure d edit (why.Instances n) (λ e. cc) h, same)
applied_or d new edit why.Quota h same = (sure d edit why.Quota (λ e. cc) h, same)

pub applied : (d new : Listing) (edit : Edit) (objects : Entries) (r : Result (Unit {0}) Refusal) → made d edit ≡ record d { objects = objects } → Becomes (refusal_of d edit) d objects r new → IsApplied r edit d new
applied d new edit objects (Ok u) made_is h = ap (λ (w : Option Refusal). unless w (made d edit)) h.0 ∙ ap (λ (l : Listing). Ok l) (made_is ∙ sym h.1)
applied d new edit objects (Err r) made_is h = applied_or d new edit r h.0 h.1

-- ---- combinations that are extended
early : (a b c f t : Option Refusal) → first_refusal (a ∷ b ∷ c ∷ []) ≡ None → first_refusal (None ∷ None ∷ a ∷ b ∷ None ∷ None ∷ c ∷ f ∷ t ∷ []) ≡ first_refusal (f ∷ t ∷ [])
early None None None f t e = refl
early (Some r) b c f t e = cc
early None (Some r) c f t e = cc
early None None (Some r) f t e = cc

early_one : (a b c f t : Option Refusal) (r : Refusal) → first_refusal (a ∷ b ∷ c ∷ []) ≡ Some r → first_refusal (None ∷ None ∷ a ∷ b ∷ None ∷ None ∷ c ∷ f ∷ t ∷ []) ≡ Some r
early_one None None None f t r e = cc
early_one (Some s) b c f t r e = e
early_one None (Some s) c f t r e = e
early_one None None (Some s) f t r e = e

pub extension_made : (b : Bool) (d : Listing) (name : Name) (list : List ListEntry)
    → made d (extension b name list) ≡ record d { objects = set_object d.objects name (extended (new_attr b) (change_of_attr b) list (object_at d name)) }
extension_made true d name list = refl
extension_made false d name list = refl

pub extension_late : (b : Bool) (d : Listing) (name : Name) (list : List ListEntry) → extension_refusal name list (object_at d name) ≡ None
    → refusal_of d (extension b name list) ≡ set_refusal d.objects name (extended (new_attr b) (change_of_attr b) list (object_at d name))
extension_late true d name list e =
    early (when (is_solid (object_at d name)) (why.NotComb name)) (when (is_none (list_of (tree_at (object_at d name)))) (why.NotList name)) (over_members (length (own_list (object_at d name) ++ list)))
    (full d (extension true name list)) (too_deep d (extension true name list)) e
extension_late false d name list e =
    early (when (is_solid (object_at d name)) (why.NotComb name)) (when (is_none (list_of (tree_at (object_at d name)))) (why.NotList name)) (over_members (length (own_list (object_at d name) ++ list)))
    (full d (extension false name list)) (too_deep d (extension false name list)) e

pub extension_early : (b : Bool) (d : Listing) (name : Name) (list : List ListEntry) (r : Refusal) → extension_refusal name list (object_at d name) ≡ Some r → refusal_of d (extension b name list) ≡ Some r
extension_early true d name list r e =
    early_one (when (is_solid (object_at d name)) (why.NotComb name)) (when (is_none (list_of (tree_at (object_at d name)))) (why.NotList name)) (over_members (length (own_list (object_at d name) ++ list)))
    (full d (extension true name list)) (too_deep d (extension true name list)) r e
extension_early false d name list r e =
    early_one (when (is_solid (object_at d name)) (why.NotComb name)) (when (is_none (list_of (tree_at (object_at d name)))) (why.NotList name)) (over_members (length (own_list (object_at d name) ++ list)))
    (full d (extension false name list)) (too_deep d (extension false name list)) r e

abbrev pub Set_ : Bool → Listing → Name → List ListEntry → Parts → Type 0
Set_ b d name list object = object ≡ extended (new_attr b) (change_of_attr b) list (object_at d name)

pub extension_applied : (b : Bool) (d new : Listing) (name : Name) (list : List ListEntry) (object : Parts) (r : Result (Unit {0}) Refusal) → extension_refusal name list (object_at d name) ≡ None
    → Set_ b d name list object → Becomes (set_refusal d.objects name object) d (set_object d.objects name object) r new → IsApplied r (extension b name list) d new
extension_applied b d new name list object r none is h =
    let wanted = extended (new_attr b) (change_of_attr b) list (object_at d name) in
    let set : Becomes (set_refusal d.objects name wanted) d (set_object d.objects name wanted) r new = subst (λ (o : Parts). Becomes (set_refusal d.objects name o) d (set_object d.objects name o) r new) is h in
    applied d new (extension b name list) (set_object d.objects name wanted) r (extension_made b d name list)
    (subst (λ (w : Option Refusal). Becomes w d (set_object d.objects name wanted) r new) (sym (extension_late b d name list none)) set)

pub extension_tells : (b : Bool) (d : Listing) (name : Name) (list : List ListEntry) (object : Parts) (r : Result (Unit {0}) Refusal) → Set_ b d name list object
    → Tells r (record d { objects = set_object d.objects name object }) → Tells r (made d (extension b name list))
extension_tells b d name list object r is h =
    let wanted = extended (new_attr b) (change_of_attr b) list (object_at d name) in
    let P : Parts → Type 0 = λ o. Tells r (record d { objects = set_object d.objects name o }) in
    subst (λ (l : Listing). Tells r l) (sym (extension_made b d name list)) (subst P is h)

-- ---- combinations that are changed
comb_changes : (d : Listing) (edit : Edit) (name : Name) (object : Parts) (attr changed : Attr) (tree left : Tree) (r : Result Parts Refusal) → object_at d name ≡ Some object → object.body ≡ Comb attr tree
    → refusal_of d edit ≡ None → made d edit ≡ with_object d name (record { body = Comb changed left; kept = object.kept }) → ((x : Name) → Contains (names_in left) x → Contains (names_in tree) x)
    → Answers None (λ o. o ≡ record { body = Comb changed left; kept = object.kept }) r → Answers (refusal_of d edit) (Changes d edit name) r
comb_changes d edit name object attr changed tree left (Ok new) there body none made_is names h =
    let P : Body → Type 0 = λ b. (comb_weight (Some new) ≤ comb_weight (Some (record { body = b; kept = object.kept }))) × ((x : Name) → Contains (members_of (Some new)) x → Contains (members_of (Some (record { body = b; kept = object.kept }))) x) in
    let Q : Parts → Type 0 = λ o. (comb_weight (Some o) ≤ 1) × ((x : Name) → Contains (members_of (Some o)) x → Contains (names_in tree) x) in
    let less : Q new = subst Q (sym h.1) (omega arith, names) in
    let both : P object.body = subst P (sym body) less in (
      none,
      record {
        made = made_is ∙ ap (with_object d name) (sym h.1);
        there = subst (λ (o : Option Parts). IsSome o) (sym there) refl;
        weight = subst (λ (o : Option Parts). comb_weight (Some new) ≤ comb_weight o) (sym there) both.0;
        names = subst (λ (o : Option Parts). (x : Name) → Contains (members_of (Some new)) x → Contains (members_of o) x) (sym there) both.1;
      },
    )
comb_changes d edit name object attr changed tree left (Err r) there body none made_is names h =
    (h.0, elim h.1 [ inl e ↦ inl e | inr e ↦ let wrong : None ≡ Some r = e in cc ])

found : (d : Listing) (name : Name) (object : Parts) (attr : Attr) (tree : Tree) → object_at d name ≡ Some object → object.body ≡ Comb attr tree
    → object_at d name ≡ Some (record { body = Comb attr tree; kept = object.kept })
found d name object attr tree there body = there ∙ ap (λ (b : Body). Some (let o : Parts = record { body = b; kept = object.kept } in o)) body

trailing : (a b c : Option Refusal) → first_refusal (a ∷ b ∷ c ∷ None ∷ None ∷ None ∷ []) ≡ first_refusal (a ∷ b ∷ c ∷ [])
trailing (Some r) b c = refl
trailing None (Some r) c = refl
trailing None None (Some r) = refl
trailing None None None = refl

pub without_refusal : (d : Listing) (name : Name) (names : List Name) (object : Parts) (attr : Attr) (tree : Tree) → object_at d name ≡ Some object → object.body ≡ Comb attr tree
    → refusal_of d (edits.Remove name names) ≡ remove_refusal name names tree
without_refusal d name names object attr tree there body = rw (found d name object attr tree there body)
    (trailing (when (is_none (list_of tree)) (why.NotList name)) (option_map why.Absent (first_absent names (list_or_empty tree))) (option_map why.Heads (first_lost_head (is_among names) (list_or_empty tree))))

pub without_made : (d : Listing) (name : Name) (names : List Name) (object : Parts) (attr : Attr) (tree left : Tree) → object_at d name ≡ Some object → object.body ≡ Comb attr tree
    → left ≡ tree_of_list (without (is_among names) (list_or_empty tree)) → made d (edits.Remove name names) ≡ with_object d name (record { body = Comb attr left; kept = object.kept })
without_made d name names object attr tree left there body is =
    rw (found d name object attr tree there body) (ap (λ (t : Tree). with_object d name (record { body = Comb attr t; kept = object.kept })) (sym is))

pub without_changes : (d : Listing) (name : Name) (names : List Name) (object : Parts) (attr : Attr) (tree left : Tree) (r : Result Parts Refusal) → object_at d name ≡ Some object → object.body ≡ Comb attr tree
    → remove_refusal name names tree ≡ None → IsLess tree (tree_of_list (without (is_among names) (list_or_empty tree))) left
    → Answers None (λ o. o ≡ record { body = Comb attr left; kept = object.kept }) r → Answers (refusal_of d (edits.Remove name names)) (Changes d (edits.Remove name names) name) r
without_changes d name names object attr tree left r there body none less h =
    comb_changes d (edits.Remove name names) name object attr attr tree left r there body (without_refusal d name names object attr tree there body ∙ none)
    (without_made d name names object attr tree left there body less.is) less.names h

trailing_one : (a : Option Refusal) → first_refusal (a ∷ None ∷ None ∷ None ∷ None ∷ []) ≡ a
trailing_one (Some r) = refl
trailing_one None = refl

pub placed_refusal : (d : Listing) (name member : Name) (by : Placement) (object : Parts) (attr : Attr) (tree : Tree) → object_at d name ≡ Some object → object.body ≡ Comb attr tree
    → refusal_of d (edits.Place name member by) ≡ place_refusal member tree
placed_refusal d name member by object attr tree there body = rw (found d name object attr tree there body) (trailing_one (place_refusal member tree))

pub placed_made : (d : Listing) (name member : Name) (by : Placement) (object : Parts) (attr : Attr) (tree left : Tree) → object_at d name ≡ Some object → object.body ≡ Comb attr tree
    → left ≡ map_members (placed member by) tree → made d (edits.Place name member by) ≡ with_object d name (record { body = Comb attr left; kept = object.kept })
placed_made d name member by object attr tree left there body is =
    rw (found d name object attr tree there body) (ap (λ (t : Tree). with_object d name (record { body = Comb attr t; kept = object.kept })) (sym is))

pub placed_changes : (d : Listing) (name member : Name) (by : Placement) (object : Parts) (attr : Attr) (tree left : Tree) (r : Result Parts Refusal) → object_at d name ≡ Some object → object.body ≡ Comb attr tree
    → place_refusal member tree ≡ None → IsLess tree (map_members (placed member by) tree) left
    → Answers None (λ o. o ≡ record { body = Comb attr left; kept = object.kept }) r → Answers (refusal_of d (edits.Place name member by)) (Changes d (edits.Place name member by) name) r
placed_changes d name member by object attr tree left r there body none less h =
    comb_changes d (edits.Place name member by) name object attr attr tree left r there body (placed_refusal d name member by object attr tree there body ∙ none)
    (placed_made d name member by object attr tree left there body less.is) less.names h
