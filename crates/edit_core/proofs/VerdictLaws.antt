-- What an edit is refused for after the earlier reasons, by the walks of the list that it makes.
use Rattle.std.proofs.Common.{◌≡◌, ◌⊎◌, inl, inr, ◌≤◌, ◌<◌, ◌+◌, ◌∙◌, ℕ, suc, List, [], ◌∷◌, ◌++◌, Bool, true, false, Option, None, Some, Result, Ok, Err, refl, ap, sym, subst, arith}
use Rattle.std.specs.Prelude.{◌↔◌, nat_le, nat_lt}
use Rattle.std.specs.Option.{option_map}
use Rattle.std.specs.List.{Contains, AllByRecursion}
use Rattle.std.proofs.lemmas.Bool.{lt-leb, le-leb, leb-false}
use Rattle.std.proofs.lemmas.Bool.Decides.{leb_tells}
use Rattle.name_core.specs.declared.name.Name.{Name}
use Rattle.command_set.specs.declared.command.Edit.{Edit}
use Rattle.command_set.specs.declared.command.Edit.TheVariants.{Make, Region, Group, Remove, Kill, RenameAll, Place, Title, Keep, Set}
use Rattle.command_set.specs.declared.refusal.Refusal.{Refusal}
use Rattle.command_set.specs.declared.refusal.Refusal.TheVariants as why
use Rattle.directory.specs.declared.fault.DirFault.{DirFault}
use Rattle.directory.specs.declared.fault.DirFault.TheVariants as fault
use Rattle.directory.specs.Listing.{Listing}
use Rattle.directory.specs.Walks.{Entries, IsWalk, HasCycleThrough, IsGreatestDepth, IsSound, most_depth, unbounded, deepest}
use Rattle.directory.specs.Edits.{first_of, judged}
use Rattle.directory.specs.Edits as of_directory
use Rattle.object_pages.proofs.EntryLemmas.{same_or_apart}
use Rattle.directory.proofs.WalkLemmas.{AddsOnlyAt, Avoids, cycle_deep, within_all, cycle_at_bound, greatest_depth}
use Rattle.directory.proofs.TellLemmas.{first_holds, first_past, judged_sound, judged_cycle, judged_deep}
use Rattle.edit_core.specs.Edits.{made}
use Rattle.edit_core.specs.Refused.{first_refusal, when, at_name, fresh, combination, listed, put, edited_name, exists, missing, not_comb, not_list, absent, heads, too_many, full, of_judgement, too_deep, unless, edited}
use Rattle.edit_core.specs.Verdicts.{earlier_refusals, earlier, ClosesCycle, GoesTooDeep, StaysSound, PassesEdited}
use Rattle.edit_core.specs.Steps.{IsEarly}
use Rattle.edit_core.proofs.Answered.{sound_judged}
use Rattle.edit_core.proofs.Resulting.{Touches, touches, proper}

-- ---- the earlier refusals speak of neither a cycle nor a depth
abbrev IsEarlyIf : Option Refusal → Type 0
IsEarlyIf None = Unit {0}
IsEarlyIf (Some refusal) = IsEarly refusal

when_early : (b : Bool) (r : Refusal) → IsEarly r → IsEarlyIf (when b r)
when_early true r h = h
when_early false r h = tt

at_early : (n : Option Name) (f : Name → Option Refusal) → ((x : Name) → IsEarlyIf (f x)) → IsEarlyIf (at_name n f)
at_early None f h = tt
at_early (Some x) f h = h x

map_early : (f : Name → Refusal) (n : Option Name) → ((x : Name) → IsEarly (f x)) → IsEarlyIf (option_map f n)
map_early f None h = tt
map_early f (Some x) h = h x

exists_early : (d : Listing) (edit : Edit) → IsEarlyIf (exists d edit)
exists_early d edit = at_early (fresh edit) _ (λ x. when_early _ (why.Exists x) tt)

missing_early : (d : Listing) (edit : Edit) → IsEarlyIf (missing d edit)
missing_early d edit = map_early why.Missing _ (λ x. tt)

not_comb_early : (d : Listing) (edit : Edit) → IsEarlyIf (not_comb d edit)
not_comb_early d edit = at_early (combination edit) _ (λ x. when_early _ (why.NotComb x) tt)

not_list_early : (d : Listing) (edit : Edit) → IsEarlyIf (not_list d edit)
not_list_early d edit = at_early (listed edit) _ (λ x. when_early _ (why.NotList x) tt)

full_early : (d : Listing) (edit : Edit) → IsEarlyIf (full d edit)
full_early d edit = at_early (put edit) _ (λ x. when_early _ why.Full tt)

absent_early : (d : Listing) (edit : Edit) → IsEarlyIf (absent d edit)
absent_early d (Make name object) = tt
absent_early d (Region name list) = tt
absent_early d (Group name list) = tt
absent_early d (Remove comb names) = map_early why.Absent _ (λ x. tt)
absent_early d (Kill names) = tt
absent_early d (RenameAll old new) = tt
absent_early d (Place comb member placement) = when_early _ (why.Absent member) tt
absent_early d (Title text) = tt
absent_early d (Keep name pairs) = tt
absent_early d (Set name setting) = tt

heads_early : (d : Listing) (edit : Edit) → IsEarlyIf (heads d edit)
heads_early d (Make name object) = tt
heads_early d (Region name list) = tt
heads_early d (Group name list) = tt
heads_early d (Remove comb names) = map_early why.Heads _ (λ x. tt)
heads_early d (Kill names) = tt
heads_early d (RenameAll old new) = tt
heads_early d (Place comb member placement) = tt
heads_early d (Title text) = tt
heads_early d (Keep name pairs) = tt
heads_early d (Set name setting) = tt

too_many_early : (d : Listing) (edit : Edit) → IsEarlyIf (too_many d edit)
too_many_early d (Make name object) = tt
too_many_early d (Region name list) = when_early _ (why.Members _) tt
too_many_early d (Group name list) = when_early _ (why.Members _) tt
too_many_early d (Remove comb names) = tt
too_many_early d (Kill names) = tt
too_many_early d (RenameAll old new) = tt
too_many_early d (Place comb member placement) = tt
too_many_early d (Title text) = tt
too_many_early d (Keep name pairs) = tt
too_many_early d (Set name setting) = tt

first_early : (xs : List (Option Refusal)) → AllByRecursion IsEarlyIf xs → IsEarlyIf (first_refusal xs)
first_early [] h = tt
first_early (None ∷ xs) h = first_early xs h.1
first_early (Some r ∷ xs) h = h.0

earlier_early : (d : Listing) (edit : Edit) → IsEarlyIf (earlier d edit)
earlier_early d edit =
    first_early (earlier_refusals d edit)
    (exists_early d edit, (missing_early d edit, (not_comb_early d edit, (not_list_early d edit, (absent_early d edit, (heads_early d edit, (too_many_early d edit, (full_early d edit, tt))))))))

-- ---- one after the others
last_left : (xs : List (Option Refusal)) (y : Option Refusal) → first_refusal xs ≡ None → first_refusal (xs ++ y ∷ []) ≡ y
last_left [] None e = refl
last_left [] (Some r) e = refl
last_left (None ∷ xs) y e = last_left xs y e
last_left (Some r ∷ xs) y e = cc

one_holds : (xs : List (Option Refusal)) (y : Option Refusal) (r : Refusal) → first_refusal xs ≡ Some r → first_refusal (xs ++ y ∷ []) ≡ Some r
one_holds [] y r e = cc
one_holds (None ∷ xs) y r e = one_holds xs y r e
one_holds (Some s ∷ xs) y r e = e

-- an earlier refusal is the answer
pub earlier_is : (d : Listing) (edit : Edit) (refusal : Refusal) → earlier d edit ≡ Some refusal → edited d edit ≡ Err refusal
earlier_is d edit refusal e = ap (λ (w : Option Refusal). unless w (made d edit)) (one_holds (earlier_refusals d edit) (too_deep d edit) refusal e)

-- and else the judgement of the resulting list decides
abbrev judgement : Listing → Edit → Name → Option Refusal
judgement d edit a = of_judgement (judged (made d edit).objects a)

late_at : (d : Listing) (edit : Edit) (name : Option Name) → edited_name edit ≡ name → earlier d edit ≡ None → edited d edit ≡ unless (at_name name (judgement d edit)) (made d edit)
late_at d edit name is late =
    ap (λ (w : Option Refusal). unless w (made d edit)) (last_left (earlier_refusals d edit) (too_deep d edit) late ∙ ap (λ (n : Option Name). at_name n (judgement d edit)) is)

-- ---- the judgement, read back
refused_by : (w : Option Refusal) (d : Listing) (r : Refusal) → unless w d ≡ Err r → w ≡ Some r
refused_by None d r e = cc
refused_by (Some s) d r e = let same : s ≡ r = cc in ap (λ (x : Refusal). Some x) same

accepted_by : (w : Option Refusal) (d new : Listing) → unless w d ≡ Ok new → (w ≡ None) × (new ≡ d)
accepted_by None d new e = let same : d ≡ new = cc in (refl, sym same)
accepted_by (Some s) d new e = cc

read_cycle : (v : Option DirFault) (a : Name) → of_judgement v ≡ Some (why.Cycle a) → v ≡ Some (fault.Cycle a)
read_cycle None a e = cc
read_cycle (Some (fault.Cycle b)) a e = let same : b ≡ a = cc in ap (λ (x : Name). Some (fault.Cycle x)) same
read_cycle (Some (fault.Deep n)) a e = cc
read_cycle (Some fault.Exists) a e = cc
read_cycle (Some fault.Missing) a e = cc
read_cycle (Some fault.Full) a e = cc
read_cycle (Some fault.Memory) a e = cc

read_deep : (v : Option DirFault) (n : ℕ) → of_judgement v ≡ Some (why.Deep n) → v ≡ Some (fault.Deep n)
read_deep None n e = cc
read_deep (Some (fault.Cycle b)) n e = cc
read_deep (Some (fault.Deep m)) n e = let same : m ≡ n = cc in ap (λ (x : ℕ). Some (fault.Deep x)) same
read_deep (Some fault.Exists) n e = cc
read_deep (Some fault.Missing) n e = cc
read_deep (Some fault.Full) n e = cc
read_deep (Some fault.Memory) n e = cc

read_none : (p q : Bool) (a : Name) (n : ℕ) → of_judgement (first_of (of_directory.when p (fault.Cycle a) ∷ of_directory.when q (fault.Deep n) ∷ [])) ≡ None
    → first_of (of_directory.when p (fault.Cycle a) ∷ of_directory.when q (fault.Deep n) ∷ []) ≡ None
read_none true q a n e = cc
read_none false true a n e = cc
read_none false false a n e = refl

-- ---- what is judged for a cycle, and what for a depth
pub cycle_judged : (new : Entries) (a b : Name) → HasCycleThrough new b → judged new a ≡ Some (fault.Cycle a)
cycle_judged new a b cycle =
    first_holds (nat_le unbounded (deepest new)) (fault.Cycle a) _ (le-leb unbounded (deepest new) (omega (arith, cycle_deep unbounded new b cycle, within_all unbounded new b)))

-- there is one greatest depth
one_greatest : (dir : Entries) (n m : ℕ) → IsGreatestDepth dir n → IsGreatestDepth dir m → n ≡ m
one_greatest dir n m g h =
    let up : n ≤ m = omega (arith, g.attained.attained, h.greatest (g.deepest ∷ g.attained.after) g.attained.walk) in
    let down : m ≤ n = omega (arith, h.attained.attained, g.greatest (h.deepest ∷ h.attained.after) h.attained.walk) in
    omega (arith, up, down)

below_bound : (a : Name) (old new : Entries) → AddsOnlyAt a old new → IsSound old → ((b : Name) → ¬ (HasCycleThrough new b)) → deepest new < unbounded
below_bound a old new adds sound acyclic =
    elim (leb_tells unbounded (deepest new)) [
      | inl t ↦ absurd (acyclic a (cycle_at_bound a old new adds sound t.1))
      | inr t ↦ leb-false unbounded (deepest new) t.0
    ]

deep_judged : (a : Name) (old new : Entries) (n : ℕ) → AddsOnlyAt a old new → IsSound old → ((b : Name) → ¬ (HasCycleThrough new b)) → IsGreatestDepth new n → most_depth < n → judged new a ≡ Some (fault.Deep n)
deep_judged a old new n adds sound acyclic greatest over =
    let lt = below_bound a old new adds sound acyclic in
    let same : deepest new ≡ n = one_greatest new (deepest new) n (greatest_depth unbounded new lt) greatest in
    first_past (nat_le unbounded (deepest new)) (fault.Cycle a) _ (lt-leb unbounded (deepest new) lt)
    ∙ first_holds (nat_lt most_depth (deepest new)) (fault.Deep (deepest new)) _ (le-leb (most_depth + 1) (deepest new) (omega (arith, over, same)))
    ∙ ap (λ (m : ℕ). Some (fault.Deep m)) same

-- a sound list is not too deep
not_deep : (dir : Entries) (n : ℕ) → IsSound dir → IsGreatestDepth dir n → most_depth < n → ⊥
not_deep dir n sound g over = absurd (omega (arith, over, g.attained.attained, sound.shallow (g.deepest ∷ g.attained.after) g.attained.walk))

-- ---- a cycle
abbrev refused_for : Refusal → Result Listing Refusal
refused_for r = Err r

same_refusal : (r s : Refusal) → refused_for r ≡ refused_for s → r ≡ s
same_refusal r s e = cc

early_or_late : (d : Listing) (edit : Edit) (r : Refusal) (w : Option Refusal) → earlier d edit ≡ w → IsEarlyIf w → (IsEarly r → ⊥) → edited d edit ≡ Err r → earlier d edit ≡ None
early_or_late d edit r None e h never is = e
early_or_late d edit r (Some s) e h never is = absurd (never (subst (λ (x : Refusal). IsEarly x) (same_refusal s r (sym (earlier_is d edit s e) ∙ is)) h))

late_if : (d : Listing) (edit : Edit) (r : Refusal) → (IsEarly r → ⊥) → edited d edit ≡ Err r → earlier d edit ≡ None
late_if d edit r never is = early_or_late d edit r (earlier d edit) refl (earlier_early d edit) never is

late_accepted_by : (d new : Listing) (edit : Edit) (w : Option Refusal) → earlier d edit ≡ w → edited d edit ≡ Ok new → earlier d edit ≡ None
late_accepted_by d new edit None e is = e
late_accepted_by d new edit (Some s) e is = let wrong : Err s ≡ Ok new = sym (earlier_is d edit s e) ∙ is in cc

late_accepted : (d new : Listing) (edit : Edit) → edited d edit ≡ Ok new → earlier d edit ≡ None
late_accepted d new edit is = late_accepted_by d new edit (earlier d edit) refl is

cycle_closes : (d : Listing) (edit : Edit) (name : Name) → IsSound d.objects → Touches d edit → edited d edit ≡ Err (why.Cycle name) → ClosesCycle d edit name
cycle_closes d edit name sound (inl t) e =
    let late = late_if d edit (why.Cycle name) (λ x. x) e in
    let wrong : Ok (made d edit) ≡ Err (why.Cycle name) = sym (late_at d edit None t.0 late) ∙ e in cc
cycle_closes d edit name sound (inr t) e =
    let late = late_if d edit (why.Cycle name) (λ x. x) e in
    let is = refused_by (judgement d edit t.0) (made d edit) (why.Cycle name) (sym (late_at d edit (Some t.0) t.1.0 late) ∙ e) in
    let r = judged_cycle d.objects (made d edit).objects t.0 name t.1.1 sound (read_cycle (judged (made d edit).objects t.0) name is) in
    record { late = late; is = t.1.0 ∙ ap (λ (x : Name). Some x) (sym r.0); cycle = subst (λ (x : Name). HasCycleThrough (made d edit).objects x) (sym r.0) r.1 }

closes_cycle : (d : Listing) (edit : Edit) (name : Name) → ClosesCycle d edit name → edited d edit ≡ Err (why.Cycle name)
closes_cycle d edit name h =
    late_at d edit (Some name) h.is h.late ∙ ap (λ (v : Option DirFault). unless (of_judgement v) (made d edit)) (cycle_judged (made d edit).objects name name h.cycle)

pub cycle_law : (d : Listing) (edit : Edit) (name : Name) → IsSound d.objects → (edited d edit ≡ Err (why.Cycle name)) ↔ ClosesCycle d edit name
cycle_law d edit name sound = (cycle_closes d edit name sound (touches d edit sound), closes_cycle d edit name)

-- ---- a depth
goes_deep : (d : Listing) (edit : Edit) (depth : ℕ) → Touches d edit → edited d edit ≡ Err (why.Deep depth) → GoesTooDeep d edit depth
goes_deep d edit depth (inl t) e =
    let late = late_if d edit (why.Deep depth) (λ x. x) e in
    let wrong : Ok (made d edit) ≡ Err (why.Deep depth) = sym (late_at d edit None t.0 late) ∙ e in cc
goes_deep d edit depth (inr t) e =
    let late = late_if d edit (why.Deep depth) (λ x. x) e in
    let is = refused_by (judgement d edit t.0) (made d edit) (why.Deep depth) (sym (late_at d edit (Some t.0) t.1.0 late) ∙ e) in
    let r = judged_deep (made d edit).objects t.0 depth (read_deep (judged (made d edit).objects t.0) depth is) in
    record { late = late; acyclic = r.0; greatest = r.2; over = r.1 }

deep_goes : (d : Listing) (edit : Edit) (depth : ℕ) → IsSound d.objects → Touches d edit → GoesTooDeep d edit depth → edited d edit ≡ Err (why.Deep depth)
deep_goes d edit depth sound (inl t) h = absurd (not_deep (made d edit).objects depth t.1 h.greatest h.over)
deep_goes d edit depth sound (inr t) h =
    late_at d edit (Some t.0) t.1.0 h.late
    ∙ ap (λ (v : Option DirFault). unless (of_judgement v) (made d edit)) (deep_judged t.0 d.objects (made d edit).objects depth t.1.1 sound h.acyclic h.greatest h.over)

pub deep_law : (d : Listing) (edit : Edit) (depth : ℕ) → IsSound d.objects → (edited d edit ≡ Err (why.Deep depth)) ↔ GoesTooDeep d edit depth
deep_law d edit depth sound = (goes_deep d edit depth (touches d edit sound), deep_goes d edit depth sound (touches d edit sound))

-- ---- soundness
stays_sound : (d new : Listing) (edit : Edit) → IsSound d.objects → Touches d edit → edited d edit ≡ Ok new → StaysSound d edit new
stays_sound d new edit sound (inl t) e =
    let late = late_accepted d new edit e in
    let r = accepted_by None (made d edit) new (sym (late_at d edit None t.0 late) ∙ e) in
    record { late = late; is = r.1; sound = subst (λ (l : Listing). IsSound l.objects) (sym r.1) t.1 }
stays_sound d new edit sound (inr t) e =
    let late = late_accepted d new edit e in
    let r = accepted_by (judgement d edit t.0) (made d edit) new (sym (late_at d edit (Some t.0) t.1.0 late) ∙ e) in
    let depth = deepest (made d edit).objects in
    let fits = proper d edit t.0 t.1.0 late sound in
    let after = judged_sound (made d edit).objects t.0 (read_none (nat_le unbounded depth) (nat_lt most_depth depth) t.0 depth r.0) fits.0 fits.1 in
    record { late = late; is = r.1; sound = subst (λ (l : Listing). IsSound l.objects) (sym r.1) after }

sound_stays : (d new : Listing) (edit : Edit) → Touches d edit → StaysSound d edit new → edited d edit ≡ Ok new
sound_stays d new edit (inl t) h = late_at d edit None t.0 h.late ∙ ap (λ (l : Listing). Ok l) (sym h.is)
sound_stays d new edit (inr t) h =
    late_at d edit (Some t.0) t.1.0 h.late
    ∙ ap (λ (v : Option DirFault). unless (of_judgement v) (made d edit)) (sound_judged (made d edit).objects t.0 (subst (λ (l : Listing). IsSound l.objects) h.is h.sound))
    ∙ ap (λ (l : Listing). Ok l) (sym h.is)

pub sound_law : (d new : Listing) (edit : Edit) → IsSound d.objects → (edited d edit ≡ Ok new) ↔ StaysSound d edit new
sound_law d new edit sound = (stays_sound d new edit sound (touches d edit sound), sound_stays d new edit (touches d edit sound))

-- ---- walks that end where they began
among_or_not : (a : Name) (w : List Name) → Contains w a ⊎ Avoids a w
among_or_not a [] = inr tt
among_or_not a (x ∷ w) =
    elim (same_or_apart x a) [
      | inl e ↦ inl (0, omega arith, e)
      | inr apart ↦ elim (among_or_not a w) [ inl c ↦ inl (suc c.0, omega (arith, c.1), c.2) | inr v ↦ inr (apart, v) ]
    ]

avoids_both : (a : Name) (u v : List Name) → Avoids a u → Avoids a v → Avoids a (u ++ v)
avoids_both a [] v h k = k
avoids_both a (x ∷ u) v h k = (h.0, avoids_both a u v h.1 k)

old_walk : (a : Name) (old new : Entries) → AddsOnlyAt a old new → (w : List Name) → IsWalk new w → Avoids a w → IsWalk old w
old_walk a old new h [] k v = tt
old_walk a old new h (x ∷ []) k v = (tt, tt)
old_walk a old new h (x ∷ y ∷ w) k v = (h.refers x y v.0 v.1.0 k.0, old_walk a old new h (y ∷ w) k.1 v.1)

passes_by : (d : Listing) (edit : Edit) (name : Name) (between : List Name) → IsSound d.objects → Touches d edit → IsWalk (made d edit).objects ((name ∷ between) ++ name ∷ []) → PassesEdited edit (name ∷ between)
passes_by d edit name between sound (inl t) walk = absurd (t.1.acyclic name (between, walk))
passes_by d edit name between sound (inr t) walk =
    elim (among_or_not t.0 (name ∷ between)) [
      | inl c ↦ (t.0, t.1.0, c)
      | inr v ↦ absurd (sound.acyclic name (between, old_walk t.0 d.objects (made d edit).objects t.1.1 ((name ∷ between) ++ name ∷ []) walk (avoids_both t.0 (name ∷ between) (name ∷ []) v (v.0, tt))))
    ]

pub passes_law : (d : Listing) (edit : Edit) (name : Name) (between : List Name) → IsSound d.objects → IsWalk (made d edit).objects ((name ∷ between) ++ name ∷ []) → PassesEdited edit (name ∷ between)
passes_law d edit name between sound walk = passes_by d edit name between sound (touches d edit sound) walk
