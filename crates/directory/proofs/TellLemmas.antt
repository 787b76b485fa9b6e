use Rattle.std.proofs.Common.{◌≡◌, ◌≢◌, inl, inr, ◌+◌, ◌<◌, ◌≤◌, ◌∙◌, ℕ, Bool, true, false, List, [], ◌∷◌, length, refl, ap, sym, subst, arith, Option, None, Some, Result, Ok, Err, length-append}
use Rattle.std.specs.Prelude.{nat_le, nat_lt, not, is_some}
use Rattle.std.specs.List.{IsDistinct}
use Rattle.std.specs.Map.{keys_of}
use Rattle.std.proofs.lemmas.Bool.{leb-false, lt-leb}
use Rattle.std.proofs.lemmas.Bool.Decides.{leb_tells}
use Rattle.name_core.specs.declared.name.Name.{Name}
use Rattle.name_core.specs.Same.{same_name}
use Rattle.object_set.specs.Objects.{Parts}
use Rattle.directory.specs.declared.fault.DirFault.{DirFault}
use Rattle.directory.specs.declared.fault.DirFault.TheVariants.{Exists, Missing, Full, Cycle, Deep, Memory}
use Rattle.directory.specs.Walks.{Entries, object_of, HasCycleThrough, IsGreatestDepth, IsSound, most_depth, most_objects, unbounded, deepest}
use Rattle.directory.specs.Edits.{first_of, when, judged_by, judged, appended, put_fault, replaced, replace_fault, renamed_all, rename_fault, Follows, Tells}
use Rattle.directory.proofs.WalkLemmas.{AddsOnlyAt, no_cycle, all_walks, greatest_depth, cycle_at_bound}
use Rattle.directory.proofs.EditLemmas.{push_adds, replace_adds, rename_adds}
use Rattle.object_pages.proofs.EntryLemmas.{length-replaced, length-renamed_all}

-- ---- the first fault
pub first_holds : (b : Bool) (f : DirFault) (rest : List (Option DirFault)) → b ≡ true → first_of (when b f ∷ rest) ≡ Some f
first_holds true f rest h = refl
first_holds false f rest h = cc

pub first_past : (b : Bool) (f : DirFault) (rest : List (Option DirFault)) → b ≡ false → first_of (when b f ∷ rest) ≡ first_of rest
first_past true f rest h = cc
first_past false f rest h = refl

last_one : (v : Option DirFault) → first_of (v ∷ []) ≡ v
last_one None = refl
last_one (Some f) = refl

past : (b : Bool) (f : DirFault) (rest : List (Option DirFault)) (r : Option DirFault) → Some f ≢ r → first_of (when b f ∷ rest) ≡ r → (b ≡ false) × (first_of rest ≡ r)
past true f rest r apart e = absurd (apart e)
past false f rest r apart e = (refl, e)

-- ---- the faults in order, for the code
pub put_exists : (es : Entries) (a : Name) (o : Parts) → is_some (object_of es a) ≡ true → put_fault es a o ≡ Some Exists
put_exists es a o h = first_holds (is_some (object_of es a)) Exists _ h

pub put_rest : (es : Entries) (a : Name) (o : Parts) → is_some (object_of es a) ≡ false → length es < most_objects → judged (appended es a o) a ≡ put_fault es a o
put_rest es a o h lt =
    sym (first_past (is_some (object_of es a)) Exists _ h ∙ first_past (nat_le most_objects (length es)) Full _ (lt-leb most_objects (length es) lt) ∙ last_one (judged (appended es a o) a))

pub replace_rest : (es : Entries) (a : Name) (o : Parts) → is_some (object_of es a) ≡ true → judged (replaced es a o) a ≡ replace_fault es a o
replace_rest es a o h = sym (first_past (not (is_some (object_of es a))) Missing _ (ap not h) ∙ last_one (judged (replaced es a o) a))

-- ---- what a test of a name tells
pub missing_then : (o : Option Parts) → is_some o ≡ false → o ≡ None
missing_then None e = refl
missing_then (Some p) e = cc

-- ---- what the verdict tells
judged_none : (d : ℕ) (a : Name) → judged_by d a ≡ None → d ≤ most_depth
judged_none d a e =
    let one = past (nat_le unbounded d) (Cycle a) _ None (λ x. cc) e in
    let two = past (nat_lt most_depth d) (Deep d) _ None (λ x. cc) one.1 in
    let le = leb-false (most_depth + 1) d two.0 in
    omega (arith, le)

by_cycle : (p q : Bool) (a b : Name) (d : ℕ) → first_of (when p (Cycle a) ∷ when q (Deep d) ∷ []) ≡ Some (Cycle b) → (p ≡ true) × (b ≡ a)
by_cycle true q a b d e = let same : a ≡ b = cc in (refl, sym same)
by_cycle false true a b d e = cc
by_cycle false false a b d e = cc

by_deep : (p q : Bool) (a : Name) (d n : ℕ) → first_of (when p (Cycle a) ∷ when q (Deep d) ∷ []) ≡ Some (Deep n) → (p ≡ false) × (q ≡ true) × (d ≡ n)
by_deep true q a d n e = cc
by_deep false true a d n e = let same : d ≡ n = cc in (refl, refl, same)
by_deep false false a d n e = cc

pub judged_sound : (new : Entries) (a : Name) → judged new a ≡ None → length new ≤ most_objects → IsDistinct same_name (keys_of new) → IsSound new
judged_sound new a e small distinct =
    let le = judged_none (deepest new) a e in
    record {
      acyclic = no_cycle unbounded new (omega (arith, le));
      shallow = λ w h. omega (arith, le, all_walks unbounded new (omega (arith, le)) w h);
      small = small;
      distinct = distinct;
    }

pub judged_cycle : (old new : Entries) (a b : Name) → AddsOnlyAt a old new → IsSound old → judged new a ≡ Some (Cycle b) → (b ≡ a) × HasCycleThrough new a
judged_cycle old new a b adds sound e =
    let r = by_cycle (nat_le unbounded (deepest new)) (nat_lt most_depth (deepest new)) a b (deepest new) e in
    (r.1, elim (leb_tells unbounded (deepest new)) [ inl t ↦ cycle_at_bound a old new adds sound t.1 | inr t ↦ let wrong : true ≡ false = sym r.0 ∙ t.0 in cc ])

pub judged_deep : (new : Entries) (a : Name) (n : ℕ) → judged new a ≡ Some (Deep n) → ((b : Name) → ¬ (HasCycleThrough new b)) × (most_depth < n) × IsGreatestDepth new n
judged_deep new a n e =
    let r = by_deep (nat_le unbounded (deepest new)) (nat_lt most_depth (deepest new)) a (deepest new) n e in
    let below = leb-false unbounded (deepest new) r.0 in
    let over : most_depth < deepest new = elim (leb_tells (most_depth + 1) (deepest new)) [ inl t ↦ omega (arith, t.1) | inr t ↦ let wrong : true ≡ false = sym r.1 ∙ t.0 in cc ] in
    (no_cycle unbounded new below, omega (arith, over, r.2), subst (λ (m : ℕ). IsGreatestDepth new m) r.2 (greatest_depth unbounded new below))

-- ---- what the answers tell
put_late : (es : Entries) (a : Name) (o : Parts) (r : Option DirFault) → Some Exists ≢ r → Some Full ≢ r → put_fault es a o ≡ r → (length es < most_objects) × (judged (appended es a o) a ≡ r)
put_late es a o r no_exists no_full e =
    let one = past (is_some (object_of es a)) Exists _ r no_exists e in
    let two = past (nat_le most_objects (length es)) Full _ r no_full one.1 in
    (leb-false most_objects (length es) two.0, sym (last_one (judged (appended es a o) a)) ∙ two.1)

pub put_tells : (es : Entries) (a : Name) (o : Parts) (r : Result (Unit {0}) DirFault) (after : Entries) → IsSound es → IsDistinct same_name (keys_of after)
    → Follows es (put_fault es a o) (appended es a o) r after → Tells (appended es a o) a r
put_tells es a o (Ok u) after sound distinct h =
    let late = put_late es a o None (λ x. cc) (λ x. cc) h.0 in
    judged_sound (appended es a o) a late.1 (omega (arith, late.0, length-append es ((a, o) ∷ []))) (subst (λ (l : Entries). IsDistinct same_name (keys_of l)) h.1 distinct)
put_tells es a o (Err (Cycle b)) after sound distinct h =
    judged_cycle es (appended es a o) a b (push_adds es a o) sound (put_late es a o (Some (Cycle b)) (λ x. cc) (λ x. cc) h.0).1
put_tells es a o (Err (Deep n)) after sound distinct h = judged_deep (appended es a o) a n (put_late es a o (Some (Deep n)) (λ x. cc) (λ x. cc) h.0).1
put_tells es a o (Err Exists) after sound distinct h = tt
put_tells es a o (Err Missing) after sound distinct h = tt
put_tells es a o (Err Full) after sound distinct h = tt
put_tells es a o (Err Memory) after sound distinct h = tt

replace_late : (es : Entries) (a : Name) (o : Parts) (r : Option DirFault) → Some Missing ≢ r → replace_fault es a o ≡ r → judged (replaced es a o) a ≡ r
replace_late es a o r no_missing e =
    let one = past (not (is_some (object_of es a))) Missing _ r no_missing e in
    sym (last_one (judged (replaced es a o) a)) ∙ one.1

pub replace_tells : (es : Entries) (a : Name) (o : Parts) (r : Result (Unit {0}) DirFault) (after : Entries) → IsSound es → IsDistinct same_name (keys_of after)
    → Follows es (replace_fault es a o) (replaced es a o) r after → Tells (replaced es a o) a r
replace_tells es a o (Ok u) after sound distinct h =
    judged_sound (replaced es a o) a (replace_late es a o None (λ x. cc) h.0) (omega (arith, sound.small, length-replaced es a o)) (subst (λ (l : Entries). IsDistinct same_name (keys_of l)) h.1 distinct)
replace_tells es a o (Err (Cycle b)) after sound distinct h =
    judged_cycle es (replaced es a o) a b (replace_adds es a o) sound (replace_late es a o (Some (Cycle b)) (λ x. cc) h.0)
replace_tells es a o (Err (Deep n)) after sound distinct h = judged_deep (replaced es a o) a n (replace_late es a o (Some (Deep n)) (λ x. cc) h.0)
replace_tells es a o (Err Exists) after sound distinct h = tt
replace_tells es a o (Err Missing) after sound distinct h = tt
replace_tells es a o (Err Full) after sound distinct h = tt
replace_tells es a o (Err Memory) after sound distinct h = tt

rename_late : (es : Entries) (a b : Name) (r : Option DirFault) → Some Exists ≢ r → Some Missing ≢ r → rename_fault es a b ≡ r → judged (renamed_all es a b) b ≡ r
rename_late es a b r no_exists no_missing e =
    let one = past (is_some (object_of es b)) Exists _ r no_exists e in
    let two = past (not (is_some (object_of es a))) Missing _ r no_missing one.1 in
    sym (last_one (judged (renamed_all es a b) b)) ∙ two.1

pub rename_tells : (es : Entries) (a b : Name) (r : Result (Unit {0}) DirFault) (after : Entries) → IsSound es → IsDistinct same_name (keys_of after)
    → Follows es (rename_fault es a b) (renamed_all es a b) r after → Tells (renamed_all es a b) b r
rename_tells es a b (Ok u) after sound distinct h =
    judged_sound (renamed_all es a b) b (rename_late es a b None (λ x. cc) (λ x. cc) h.0) (omega (arith, sound.small, length-renamed_all es a b)) (subst (λ (l : Entries). IsDistinct same_name (keys_of l)) h.1 distinct)
rename_tells es a b (Err (Cycle c)) after sound distinct h =
    judged_cycle es (renamed_all es a b) b c (rename_adds es a b) sound (rename_late es a b (Some (Cycle c)) (λ x. cc) (λ x. cc) h.0)
rename_tells es a b (Err (Deep n)) after sound distinct h = judged_deep (renamed_all es a b) b n (rename_late es a b (Some (Deep n)) (λ x. cc) (λ x. cc) h.0)
rename_tells es a b (Err Exists) after sound distinct h = tt
rename_tells es a b (Err Missing) after sound distinct h = tt
rename_tells es a b (Err Full) after sound distinct h = tt
rename_tells es a b (Err Memory) after sound distinct h = tt

pub nothing_sound : (es : Entries) → es ≡ [] → IsDistinct same_name (keys_of es) → IsSound es
nothing_sound [] e distinct = judged_sound [] [] refl (omega arith) distinct
nothing_sound (x ∷ es) e distinct = cc
