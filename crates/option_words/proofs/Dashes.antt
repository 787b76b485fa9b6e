-- A value that begins with `-` is no name and no number, so it does not matter who refuses it.
use Rattle.std.proofs.Common.{◌≡◌, ◌∙◌, ap, refl, sym, true, false, true≢false, Bool, cond, ℕ, List, [], ◌∷◌, length, Option, Some, None, Err, Result, arith}
use Rattle.std.specs.Prelude.{◌==◌, ◌&&◌, ◌||◌, not, is_ok, nat_le, nat_lt}
use Rattle.std.specs.List.{list_any}
use Rattle.std.proofs.lemmas.Bool.Decides.{nat_tests}
use Rattle.name_core.specs.NameText.{read_with}
use Rattle.name_core.specs.declared.name.NameFault.{NameFault}
use Rattle.name_core.specs.declared.name.NameFault.TheVariants.{Empty, Long}
use Rattle.std.specs.Option.{option_and_then, option_map}
use Rattle.option_words.specs.Numbers.{number_of, value}
use Rattle.option_words.specs.Grammar.{Given, allowed_workers, are_distinct, asked_by, asked_with, begins_with_dash, demo_asked, file_asked, is_among, is_same, name_asked, options_for, replay_asked, value_of, workers_asked}
use Rattle.option_words.specs.declared.options.Key.{Key}
use Rattle.option_words.specs.declared.options.Key.TheVariants.{Load, Demo, Replay, Workers}
use Rattle.option_words.specs.declared.options.Model.{Model}
use Rattle.option_words.specs.declared.options.Model.TheVariants.{OfDemo, OfFile}
use Rattle.option_words.proofs.Rows.{same_itself, same_key}

-- one of the values begins so
abbrev pub has_dash : List Given → Bool
has_dash gs = list_any (λ (g : Given). begins_with_dash g.value) gs

no_name : (value : List ℕ) → begins_with_dash value ≡ true → name_asked value ≡ None
no_name [] e = cc
no_name (x ∷ xs) e = let same : x ≡ 45 = grind (arith, nat_tests) in ap (λ (b : ℕ). name_asked (b ∷ xs)) same ∙ tried (length (45 ∷ xs) == 0) (nat_lt 64 (length (45 ∷ xs)))
  where
    named : Result (List ℕ) NameFault → Option (List ℕ)
    named name = cond (is_ok name) (Some (45 ∷ xs)) None

    tried : (none long : Bool) → named (cond none (Err Empty) (cond long (Err Long) (read_with (Some 0) (45 ∷ xs)))) ≡ None
    tried true long = refl
    tried false true = refl
    tried false false = refl

no_file : (value : List ℕ) → begins_with_dash value ≡ true → file_asked value ≡ None
no_file value dash = ap (option_map OfFile) (no_name value dash)

no_replay : (value : List ℕ) → begins_with_dash value ≡ true → replay_asked (Some value) ≡ None
no_replay value dash = ap (option_map (λ (n : List ℕ). Some n)) (no_name value dash)

no_number : (value : List ℕ) → begins_with_dash value ≡ true → number_of value ≡ None
no_number [] e = cc
no_number (x ∷ xs) e = let same : x ≡ 45 = grind (arith, nat_tests) in ap (λ (b : ℕ). number_of (b ∷ xs)) same ∙ tried (nat_lt 0 (length (45 ∷ xs))) (nat_le (length (45 ∷ xs)) 9)
  where
    tried : (some few : Bool) → cond (some && (few && false)) (Some (value (45 ∷ xs))) None ≡ None
    tried true true = refl
    tried true false = refl
    tried false few = refl

no_demo : (value : List ℕ) → begins_with_dash value ≡ true → demo_asked value ≡ None
no_demo value dash = ap (option_map OfDemo) (no_number value dash)

no_workers : (value : List ℕ) → begins_with_dash value ≡ true → workers_asked (Some value) ≡ None
no_workers value dash = ap (option_and_then allowed_workers) (no_number value dash)

-- an option whose value begins so
record Dashed (gs : List Given) : Type 0 where
  key : Key
  value : List ℕ
  is : value_of key gs ≡ Some value
  dash : begins_with_dash value ≡ true

among : (k : Key) (v : List ℕ) (gs : List Given) → value_of k gs ≡ Some v → is_among k gs ≡ true
among k v [] is = cc
among k v (g ∷ gs) is = by (is_same k g.key) is (among k v gs)
  where
    by : (t : Bool) → cond t (Some g.value) (value_of k gs) ≡ Some v → (value_of k gs ≡ Some v → is_among k gs ≡ true) → (t || is_among k gs) ≡ true
    by true _ _ = refl
    by false e others = others e

dashed : (gs : List Given) → are_distinct gs ≡ true → has_dash gs ≡ true → Dashed gs
dashed [] distinct some = cc
dashed (g ∷ gs) distinct some = by (begins_with_dash g.value) refl (is_among g.key gs) refl distinct some (dashed gs)
  where
    is_there : (k : Key) → is_same k g.key ≡ true → is_among k gs ≡ is_among g.key gs
    is_there k same = ap (λ (j : Key). is_among j gs) (same_key k g.key same)

    later : (d : Dashed gs) → is_among g.key gs ≡ false → (t : Bool) → is_same d.key g.key ≡ t → Dashed (g ∷ gs)
    later d apart true same = absurd (true≢false (sym (among d.key d.value gs d.is) ∙ is_there d.key same ∙ apart))
    later d _ false other = record { key = d.key; value = d.value; is = ap (λ (t : Bool). cond t (Some g.value) (value_of d.key gs)) other ∙ d.is; dash = d.dash }

    by : (t : Bool) → begins_with_dash g.value ≡ t → (a : Bool) → is_among g.key gs ≡ a → (not a && are_distinct gs) ≡ true → (t || has_dash gs) ≡ true
        → (are_distinct gs ≡ true → has_dash gs ≡ true → Dashed gs) → Dashed (g ∷ gs)
    by true dash a _ _ _ _ = record { key = g.key; value = g.value; is = ap (λ (t : Bool). cond t (Some g.value) (value_of g.key gs)) (same_itself g.key); dash = dash }
    by false _ true _ bad _ _ = cc
    by false _ false apart fine more others = later (others fine more) apart (is_same (others fine more).key g.key) refl

pub dash_asks_nothing : (gs : List Given) → are_distinct gs ≡ true → has_dash gs ≡ true → asked_by gs ≡ None
dash_asks_nothing gs distinct some = by (dashed gs distinct some)
  where
    with_file : (v : List ℕ) → begins_with_dash v ≡ true → (demo : Option (List ℕ)) → asked_with (Some v) demo ≡ None
    with_file v dash None = no_file v dash
    with_file v dash (Some number) = refl

    with_demo : (v : List ℕ) → begins_with_dash v ≡ true → (file : Option (List ℕ)) → asked_with file (Some v) ≡ None
    with_demo v dash None = no_demo v dash
    with_demo v dash (Some name) = refl

    without_replay : (model : Option Model) (workers : Option ℕ) → options_for model None workers ≡ None
    without_replay None workers = refl
    without_replay (Some m) workers = refl

    without_workers : (model : Option Model) (replay : Option (Option (List ℕ))) → options_for model replay None ≡ None
    without_workers None replay = refl
    without_workers (Some m) None = refl
    without_workers (Some m) (Some r) = refl

    model : Option Model
    model = asked_with (value_of Load gs) (value_of Demo gs)

    replay : Option (Option (List ℕ))
    replay = replay_asked (value_of Replay gs)

    workers : Option ℕ
    workers = workers_asked (value_of Workers gs)

    by_key : (k : Key) (v : List ℕ) → value_of k gs ≡ Some v → begins_with_dash v ≡ true → asked_by gs ≡ None
    by_key Load v is dash = ap (λ (m : Option Model). options_for m replay workers) (ap (λ (o : Option (List ℕ)). asked_with o (value_of Demo gs)) is ∙ with_file v dash (value_of Demo gs))
    by_key Demo v is dash = ap (λ (m : Option Model). options_for m replay workers) (ap (asked_with (value_of Load gs)) is ∙ with_demo v dash (value_of Load gs))
    by_key Replay v is dash = ap (λ (r : Option (Option (List ℕ))). options_for model r workers) (ap replay_asked is ∙ no_replay v dash) ∙ without_replay model workers
    by_key Workers v is dash = ap (options_for model replay) (ap workers_asked is ∙ no_workers v dash) ∙ without_workers model replay

    by : Dashed gs → asked_by gs ≡ None
    by d = by_key d.key d.value d.is d.dash
