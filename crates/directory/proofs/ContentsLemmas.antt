use Rattle.std.proofs.Common.{Bor, ◌≡◌, inl, inr, ◌≤◌, ◌+◌, ◌<◌, ◌∙◌, ℕ, min, true, false, List, [], ◌∷◌, ◌++◌, take, length, get_or, refl, ap, sym, subst, arith, Option, None, Some, IsSome, Result}
use Rattle.std.specs.Prelude.{◌||◌, is_some, not, unwrap_or}
use Rattle.std.specs.List.{IsDistinct, list_any}
use Rattle.std.specs.Map.{keys_of}
use Rattle.std.specs.Option.{option_copied}
use Rattle.std.proofs.lemmas.Map.Keys.{IsDistinct-head, IsDistinct-tail}
use Rattle.std.proofs.lemmas.Grind.{take_at_read}
use Rattle.name_core.specs.declared.name.Name.{Name}
use Rattle.name_core.specs.Same.{same_name}
use Rattle.comb_tree.specs.Changes.{is_among}
use Rattle.object_set.specs.Objects.{Parts}
use Rattle.shared_pages.specs.Buckets.{Shelves, value_of}
use Rattle.shared_pages.proofs.NameLemmas.{name_tells}
use Rattle.object_pages.specs.Entries.{HoldsUsers}
use Rattle.object_pages.proofs.EntryLemmas.{none_left, push_here, same_or_apart}
use Rattle.object_pages.proofs.NamesLemmas.{in_or_not, in_head, in_left, in_right, not_in_cons, not_in_push}
use Rattle.object_pages.proofs.ReferenceLemmas.{apart_missing}
use Rattle.directory.specs.declared.fault.DirFault.{DirFault}
use Rattle.directory.specs.declared.fault.DirFault.TheVariants.{Missing}
use Rattle.directory.specs.Closed.{IsRelaxing, depth_step, moved_depths, relaxed}
use Rattle.directory.specs.Depths.{depth_kept, AreDepths}
use Rattle.directory.specs.Edits.{when, appended, replaced, removed, remove_fault, renamed_all, without_all, judged, judged_by, Makes}
use Rattle.directory.specs.Keeping.{IsKept}
use Rattle.directory.specs.Walks.{Entries, object_of, IsSound, depth_over, depth_within, most_depth, most_objects, unbounded, deepest}
use Rattle.directory.proofs.AloneLemmas.{judged_none_by}
use Rattle.directory.proofs.ClosedLemmas.{free_if, relaxed_away, relaxed_here, step_apart}
use Rattle.directory.proofs.EditLemmas.{remove_within, within_walk, within_combinations}
use Rattle.directory.proofs.RelaxLemmas.{copy_begins, put_begins, replace_begins, rename_begins, without_goes}
use Rattle.directory.proofs.TakeLemmas.{nothing_distinct}
use Rattle.directory.proofs.WalkLemmas.{depth_met, greatest_bound, missing_zero}
use Rattle.directory.proofs.WholeLemmas.{look_filtered, without_sound}
use Rattle.directory.proofs.TellLemmas.{nothing_sound, judged_sound}

-- Contents: a sound list with its depths, and edits of it.

-- ---- no objects
pub nothing_is_sound : (es : Entries) → es ≡ [] → IsSound es
nothing_is_sound es e = nothing_sound es e (subst (λ (l : Entries). IsDistinct same_name (keys_of l)) (sym e) nothing_distinct)

pub nothing_kept : (es : Entries) (levels : Shelves ℕ) → es ≡ [] → ((a : Name) → value_of levels a ≡ None) → IsKept es levels
nothing_kept es levels e none = record {
  sound = nothing_is_sound es e;
  known = λ a. ap (λ (d : Option ℕ). unwrap_or d 0) (none a) ∙ sym (ap (λ (l : Entries). depth_within unbounded l a) e);
}

-- ---- where an edit begins
-- which names are touched decides, and not their order
abbrev pub SameNames : List Name → List Name → Type 0
SameNames names others = (x : Name) → is_among others x ≡ is_among names x

touched_by : (es : Entries) (depths : Name → ℕ) (names others : List Name) → SameNames names others → IsRelaxing es depths names [] → IsRelaxing es depths others []
touched_by es depths names others same h = record { closed = λ a out. h.closed a (sym (same a) ∙ out); low = h.low }

pub begins_by : (made new : Entries) (levels now : Shelves ℕ) (names others : List Name) → new ≡ made → now ≡ levels → SameNames names others → IsRelaxing made (depth_kept levels) names []
    → IsRelaxing new (depth_kept now) others []
begins_by made new levels now names others is same touched h =
    subst (λ (l : Entries). IsRelaxing l (depth_kept now) others []) (sym is)
    (subst (λ (d : Shelves ℕ). IsRelaxing made (depth_kept d) others []) (sym same) (touched_by made (depth_kept levels) names others touched h))

pub begins : (es new : Entries) (levels now : Shelves ℕ) (touched : List Name) → IsKept es levels → new ≡ es → now ≡ levels → touched ≡ [] → IsRelaxing new (depth_kept now) touched []
begins es new levels now touched kept is same none =
    begins_by es new levels now [] touched is same (λ x. ap (λ (l : List Name). is_among l x) none) (copy_begins es (depth_kept levels) kept.sound kept.known)

-- what is as deep as its members make it need not be looked at
pub zero_begins : (es : Entries) (depths : Name → ℕ) (a : Name) (touched : List Name) → IsRelaxing es depths (a ∷ []) [] → depths a ≡ 0 → 0 ≡ depth_step es depths a → IsRelaxing es depths touched []
zero_begins es depths a touched h zero due = record {
  closed = λ x out. elim (same_or_apart x a) [
    | inl e ↦ ap depths e ∙ zero ∙ due ∙ ap (depth_step es depths) (sym e)
    | inr apart ↦ h.closed x (not_in_cons a [] x apart refl)
  ];
  low = h.low;
}

-- nor what nothing refers to, once it has its depth
pub set_begins : (es : Entries) (depths others : Name → ℕ) (a : Name) (depth : ℕ) (users : List Name) → IsRelaxing es depths (a ∷ []) [] → depth ≡ depth_step es depths a → depth ≤ most_depth → HoldsUsers es a users
    → length users ≡ 0 → ((x : Name) → others x ≡ relaxed depths a depth x) → IsRelaxing es others users []
set_begins es depths others a depth users h due low holds none set = record {
  closed = λ x out. elim (same_or_apart x a) [
    | inl e ↦ set x ∙ relaxed_here depths a depth x e ∙ due ∙ ap (depth_step es depths) (sym e) ∙ sym (step x out)
    | inr apart ↦ set x ∙ relaxed_away depths a depth x apart ∙ h.closed x (not_in_cons a [] x apart refl) ∙ sym (step x out)
  ];
  low = λ x out. elim (same_or_apart x a) [
    | inl e ↦ omega (arith, set x, relaxed_here depths a depth x e, low)
    | inr apart ↦ omega (arith, set x, relaxed_away depths a depth x apart, h.low x refl)
  ];
}
  where
    step : (x : Name) → is_among users x ≡ false → depth_step es others x ≡ depth_step es depths x
    step x out = step_apart es depths others a depth set x (free_if es a users x holds out)

-- a new object, and the depth that its members give it
pub append_begins : (es new : Entries) (a : Name) (o : Parts) (levels now : Shelves ℕ) → IsKept es levels → new ≡ appended es a o → now ≡ levels → IsRelaxing new (depth_kept now) (a ∷ []) []
append_begins es new a o levels now kept is same =
    begins_by (appended es a o) new levels now (a ∷ []) (a ∷ []) is same (λ x. refl) (put_begins es a o (depth_kept levels) kept.sound kept.known)

pub missed_zero : (es : Entries) (a : Name) (levels now : Shelves ℕ) → IsKept es levels → object_of es a ≡ None → now ≡ levels → depth_kept now a ≡ 0
missed_zero es a levels now kept none same = ap (λ (d : Shelves ℕ). depth_kept d a) same ∙ kept.known a ∙ missing_zero unbounded es a none

pub due_there : (es new : Entries) (a : Name) (o : Parts) (levels now : Shelves ℕ) (depth : ℕ) → object_of es a ≡ None → new ≡ appended es a o → now ≡ levels → depth ≡ min unbounded (depth_over (Some o) (depth_kept levels))
    → depth ≡ depth_step new (depth_kept now) a
due_there es new a o levels now depth none is same over =
    over ∙ ap (λ (p : Option Parts). min unbounded (depth_over p (depth_kept levels))) (sym (push_here es a o none))
    ∙ ap (λ (l : Entries). depth_step l (depth_kept levels) a) (sym is) ∙ ap (λ (d : Shelves ℕ). depth_step new (depth_kept d) a) (sym same)

pub exchange_begins : (es new : Entries) (a : Name) (o : Parts) (levels now : Shelves ℕ) (touched : List Name) → IsKept es levels → new ≡ replaced es a o → now ≡ levels → SameNames (a ∷ []) touched
    → IsRelaxing new (depth_kept now) touched []
exchange_begins es new a o levels now touched kept is same names =
    begins_by (replaced es a o) new levels now (a ∷ []) touched is same names (replace_begins es a o (depth_kept levels) kept.sound kept.known)

pub renaming_begins : (es new : Entries) (a b : Name) (levels again last : Shelves ℕ) (users : List Name) → IsKept es levels → object_of es b ≡ None → new ≡ renamed_all es a b
    → again ≡ levels → ((x : Name) → depth_kept last x ≡ moved_depths (depth_kept again) a b x)
    → HoldsUsers new b users → IsRelaxing new (depth_kept last) users []
renaming_begins es new a b levels again last users kept none is same moved holds =
    subst (λ (l : Entries). IsRelaxing l (depth_kept last) users []) (sym is)
    (rename_begins es a b users (depth_kept levels) (depth_kept last) kept.sound kept.known none (subst (λ (l : Entries). HoldsUsers l b users) is holds)
    (λ x. moved x ∙ ap (λ (d : Shelves ℕ). moved_depths (depth_kept d) a b x) same))

-- ---- a pair less, from any list that is being changed
pub without_step : (es new : Entries) (a : Name) (depths : Name → ℕ) (touched now : List Name) → IsRelaxing es depths touched [] → new ≡ removed es a
    → ((x : Name) → is_among now x ≡ (same_name x a || is_among touched x)) → IsRelaxing new depths now []
without_step es new a depths touched now h is names = subst (λ (l : Entries). IsRelaxing l depths now []) (sym is) (without_goes es a depths touched now h names)

-- ---- what an edit gives
pub none_got : {A : Type 0} (r : Option (Bor A)) (o : Option A) → option_copied r ≡ o → is_some r ≡ false → is_some o ≡ false
none_got None o is none = ap is_some (sym is)
none_got (Some p) o is none = cc

pub makes_by : (v w : Option DirFault) (made new : Entries) (r : Result Entries DirFault) → v ≡ w → new ≡ made → Makes v new r → Makes w made r
makes_by v w made new r e is h = subst (λ (x : Option DirFault). Makes x made r) e (subst (λ (l : Entries). Makes v l r) is h)

pub judged_kept : (es : Entries) (a : Name) (most : ℕ) (levels : Shelves ℕ) → judged es a ≡ judged_by most a → judged_by most a ≡ None → length es ≤ most_objects → IsDistinct same_name (keys_of es)
    → AreDepths es levels → IsKept es levels
judged_kept es a most levels is none small distinct known = record { sound = judged_sound es a (is ∙ none) small distinct; known = known }

removed_low : (es : Entries) (a : Name) → IsSound es → (x : Name) → depth_within unbounded (removed es a) x ≤ most_depth
removed_low es a sound x =
    let r = depth_met unbounded (removed es a) x in
    let within = remove_within es a sound.distinct in
    omega (arith, r.2, within_combinations es (removed es a) within (x ∷ r.0), sound.shallow (x ∷ r.0) (within_walk es (removed es a) within (x ∷ r.0) r.1))

pub removed_judged : (es : Entries) (a : Name) → IsSome (object_of es a) → IsSound es → judged (removed es a) a ≡ remove_fault es a
removed_judged es a there sound =
    judged_none_by (deepest (removed es a)) a (greatest_bound (depth_within unbounded (removed es a)) most_depth (removed_low es a sound) (keys_of (removed es a))) ∙ sym (by_object (object_of es a) there)
  where
    by_object : (o : Option Parts) → IsSome o → when (not (is_some o)) Missing ≡ None
    by_object None some = cc
    by_object (Some p) some = refl

-- ---- many pairs less
drops_one_more : (es : Entries) (names : List Name) (a : Name) → IsDistinct same_name (keys_of es) → removed (without_all es names) a ≡ without_all es (names ++ a ∷ [])
drops_one_more [] names a distinct = refl
drops_one_more ((k, o) ∷ es) names a distinct =
    let rest = drops_one_more es names a (IsDistinct-tail same_name k (keys_of es) distinct) in
    elim (in_or_not names k) [
      | inl inside ↦ let more : is_among (names ++ a ∷ []) k ≡ true = in_left names (a ∷ []) k inside in rw (inside, more) rest
      | inr away ↦ elim (name_tells a k) [
        | inl t ↦
            let more : is_among (names ++ a ∷ []) k ≡ true = in_right names (a ∷ []) k (ap (λ (x : Name). is_among (a ∷ []) x) (sym t.1) ∙ in_head a []) in
            let none : object_of es a ≡ None = ap (object_of es) t.1 ∙ none_left k es (IsDistinct-head same_name k (keys_of es) distinct) in
            rw (away, more, t.0) (sym (apart_missing (without_all es names) a (still_missing es names a none)) ∙ rest)
        | inr t ↦
            let more : is_among (names ++ a ∷ []) k ≡ false = not_in_push names a k (λ e. t.1 (sym e)) away in
            rw (away, more, t.0) (ap (λ (l : Entries). (k, o) ∷ l) rest)
      ]
    ]
  where
    still_missing : (fs : Entries) (gone : List Name) (x : Name) → object_of fs x ≡ None → object_of (without_all fs gone) x ≡ None
    still_missing fs gone x none = elim (look_filtered (λ k. not (list_any (same_name k) gone)) fs x) [ inl e ↦ e ∙ none | inr e ↦ e ]

pub nothing_dropped : (es : Entries) → without_all es [] ≡ es
nothing_dropped [] = refl
nothing_dropped (e ∷ es) = ap (λ (l : Entries). e ∷ l) (nothing_dropped es)

pub without_next : (es now new : Entries) (names : List Name) (i : ℕ) (name : Name) → IsDistinct same_name (keys_of es) → i < length names → name ≡ get_or names i name → now ≡ without_all es (take i names)
    → new ≡ removed now name → new ≡ without_all es (take (i + 1) names)
without_next es now new names i name distinct lt is before step =
    step ∙ ap (λ (l : Entries). removed l name) before ∙ drops_one_more es (take i names) name distinct
    ∙ ap (without_all es) (ap (λ (x : Name). take i names ++ x ∷ []) is ∙ sym (take_at_read names i name lt).1)

pub without_kept : (es new : Entries) (names : List Name) (levels : Shelves ℕ) → IsSound es → new ≡ without_all es names → AreDepths new levels → IsKept new levels
without_kept es new names levels sound is known = record { sound = subst (λ (l : Entries). IsSound l) (sym is) (without_sound es names sound); known = known }
