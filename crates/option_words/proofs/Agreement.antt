-- What clap takes is what the grammar takes.
use Rattle.std.proofs.Common.{◌≡◌, ◌∙◌, ◌⊎◌, inl, inr, ap, ap₂, refl, sym, subst, true, false, Bool, cond, List, [], ◌∷◌, ◌++◌, Option, Some, None, append_assoc}
use Rattle.std.specs.Prelude.{◌||◌}
use Rattle.clap.specs.Kinds.{Kinds, or_else}
use Rattle.clap.specs.Words.{Row, Text}
use Rattle.clap.specs.Faults.{turn_fault}
use Rattle.clap.specs.Walk.{Walk, finished, idle, option, walked}
use Rattle.clap.specs.declared.error.kind.ErrorKind.TheVariants.{ArgumentConflict, InvalidValue, UnknownArgument}
use Rattle.clap.specs.declared.error.kind.ErrorKind.{ErrorKind}
use Rattle.option_words.specs.Grammar.{Given, are_distinct, begins_with_dash, begun, given, given_from, is_among, name_of, option_of, with_given}
use Rattle.option_words.specs.Reading.{NoneEnds}
use Rattle.option_words.specs.declared.options.Key.{Key}
use Rattle.option_words.specs.declared.options.Key.TheVariants.{Load, Demo, Replay, Workers}
use Rattle.option_words.proofs.ClapSteps.{after, app, attached, conflict, from_both, from_holding, from_settled, holding, holding_attached, holding_end, holding_finished, holding_named, id_of, is_used, named, named_attached, named_end, named_named, rest_fault, rules, settled_at, settled_attached, settled_end, settled_finished, settled_named, to_settled, turn_fails, turn_passes, used}
use Rattle.option_words.proofs.Dashes.{has_dash}
use Rattle.option_words.proofs.Rows.{clash, rows_of, still_distinct, used_is, used_row}
use Rattle.option_words.proofs.Spelling.{IsWord, is_named, is_attached, is_loose, is_unknown, classify}
use Rattle.option_words.proofs.WordKinds.{IsLoose, IsUnknown, loose_held, loose_idle, loose_named}

abbrev Texts : Type 0
Texts = List Text

-- some kind comes
abbrev pub Comes : Kinds → Type 0
Comes [] = ⊥
Comes (k ∷ ks) = Unit {0}

-- the grammar has these options, or it refuses one whose value begins with `-`
abbrev pub IsSaid : List Given → Option (List Given) → Type 0
IsSaid hs said = (said ≡ Some hs) ⊎ ((said ≡ None) × (has_dash hs ≡ true))

-- the grammar has no options, or one that is given twice, these others being given
abbrev pub IsUnsaid : List Given → Option (List Given) → Type 0
IsUnsaid gs None = Unit {0}
IsUnsaid gs (Some hs) = are_distinct (gs ++ hs) ≡ false

-- where some options are given, clap takes the words and has what the grammar has, or both refuse them
pub data Agrees (w : Walk) (gs : List Given) (waiting : Option Key) (words : Texts) : Type 0 where
  taken : (hs : List Given) → rest_fault w words ≡ [] → finished rules (after w words).held ≡ rows_of (gs ++ hs) → are_distinct (gs ++ hs) ≡ true → IsSaid hs (given_from words waiting) → Agrees w gs waiting words
  refused : Comes (rest_fault w words) → IsUnsaid gs (given_from words waiting) → Agrees w gs waiting words

-- ---- a word that passes

module _ (w next : Walk) (gs : List Given) (waiting : Option Key) (word : Text) (rest : Texts) (fine : turn_fault app.top [] w word ≡ []) (to : walked rules [] w word ≡ next) where
  same_rows : finished rules (after w (word ∷ rest)).held ≡ finished rules (after next rest).held
  same_rows = ap (λ (x : Walk). finished rules (after x rest).held) to

  comes_too : Comes (rest_fault next rest) → Comes (rest_fault w (word ∷ rest))
  comes_too = subst Comes (sym (turn_passes w next word rest fine to))

  -- it gives no option yet
  passes : (waits : Option Key) → given_from (word ∷ rest) waiting ≡ given_from rest waits → Agrees next gs waits rest → Agrees w gs waiting (word ∷ rest)
  passes waits is (taken hs none rows distinct said) = taken hs (turn_passes w next word rest fine to ∙ none) (same_rows ∙ rows) distinct (subst (IsSaid hs) (sym is) said)
  passes waits is (refused comes unsaid) = refused (comes_too comes) (subst (IsUnsaid gs) (sym is) unsaid)

  -- it gives an option
  gives : (g : Given) (dash : Bool) → (dash ≡ true → begins_with_dash g.value ≡ true) → given_from (word ∷ rest) waiting ≡ cond dash None (with_given g (given_from rest None)) → Agrees next (gs ++ g ∷ []) None rest → Agrees w gs waiting (word ∷ rest)
  gives g dash begins is (taken hs none rows distinct said) =
      let whole : (gs ++ g ∷ []) ++ hs ≡ gs ++ g ∷ hs = append_assoc gs (g ∷ []) hs in
      taken (g ∷ hs) (turn_passes w next word rest fine to ∙ none) (same_rows ∙ rows ∙ ap rows_of whole) (ap are_distinct (sym whole) ∙ distinct)
      (subst (IsSaid (g ∷ hs)) (sym is) (by dash begins said))
    where
      either_true : (t : Bool) → (t || true) ≡ true
      either_true true = refl
      either_true false = refl

      by : (dash : Bool) → (dash ≡ true → begins_with_dash g.value ≡ true) → IsSaid hs (given_from rest None) → IsSaid (g ∷ hs) (cond dash None (with_given g (given_from rest None)))
      by true begins _ = inr (refl, ap (λ (t : Bool). t || has_dash hs) (begins refl))
      by false _ (inl same) = inl (ap (with_given g) same)
      by false _ (inr bad) = inr (ap (with_given g) bad.0, ap (λ (t : Bool). begins_with_dash g.value || t) bad.1 ∙ either_true (begins_with_dash g.value))
  gives g dash begins is (refused comes unsaid) = refused (comes_too comes) (subst (IsUnsaid gs) (sym is) (by dash (given_from rest None) unsaid))
    where
      by : (dash : Bool) (said : Option (List Given)) → IsUnsaid (gs ++ g ∷ []) said → IsUnsaid gs (cond dash None (with_given g said))
      by true said _ = tt
      by false None _ = tt
      by false (Some hs) twice = ap are_distinct (sym (append_assoc gs (g ∷ []) hs)) ∙ twice

-- ---- a word that clap refuses

comes : (w : Walk) (word : Text) (rest : Texts) (k : ErrorKind) → turn_fault app.top [] w word ≡ k ∷ [] → Comes (rest_fault w (word ∷ rest))
comes w word rest k e = subst Comes (sym (turn_fails w word rest k e)) tt

-- an option is given that was given
given_twice : (k : Key) (v : Text) (gs : List Given) (said : Option (List Given)) → is_among k gs ≡ true → IsUnsaid (gs ++ given k v ∷ []) said
given_twice k v gs None there = tt
given_twice k v gs (Some hs) there = clash k v gs hs there

given_again : (k : Key) (v : Text) (gs : List Given) (said : Option (List Given)) → is_among k gs ≡ true → IsUnsaid gs (with_given (given k v) said)
given_again k v gs None there = tt
given_again k v gs (Some hs) there = ap are_distinct (sym (append_assoc gs (given k v ∷ []) hs)) ∙ clash k v gs hs there

-- ---- the states, by the options that are given and used, and what is pending

pub data Pending : Type 0 where
  nothing : Pending
  a_name : Key → Pending
  a_value : Key → Text → Pending

abbrev pub walk_of : List Given → Pending → Walk
walk_of gs nothing = settled_at (rows_of gs)
walk_of gs (a_name k) = named k (rows_of gs)
walk_of gs (a_value k v) = holding k v (rows_of gs)

abbrev pub all_given : List Given → Pending → List Given
all_given gs nothing = gs
all_given gs (a_name k) = gs
all_given gs (a_value k v) = gs ++ given k v ∷ []

abbrev pub waits_for : Pending → Option Key
waits_for nothing = None
waits_for (a_name k) = Some k
waits_for (a_value k v) = None

abbrev pub Agree : List Given → Pending → Texts → Type 0
Agree gs p words = Agrees (walk_of gs p) (all_given gs p) (waits_for p) words

no_more : (gs : List Given) → gs ++ [] ≡ gs
no_more [] = refl
no_more (g ∷ gs) = ap (λ (l : List Given). g ∷ l) (no_more gs)

at_end : (gs : List Given) (p : Pending) → are_distinct gs ≡ true → Agree gs p []
at_end gs nothing distinct = taken [] (settled_end (rows_of gs)) (settled_finished (rows_of gs) ∙ ap rows_of (sym (no_more gs))) (ap are_distinct (no_more gs) ∙ distinct) (inl refl)
at_end gs (a_name k) distinct = refused (subst Comes (sym (named_end k (rows_of gs))) tt) tt
at_end gs (a_value k v) distinct = by (is_among k gs) refl
  where
    all : List Given
    all = gs ++ given k v ∷ []

    by : (again : Bool) → is_among k gs ≡ again → Agree gs (a_value k v) []
    by true there = refused (subst Comes (sym (holding_end k v (rows_of gs) ∙ ap conflict (used_is k gs ∙ there))) tt) (given_twice k v gs (Some []) there)
    by false fresh =
        taken [] (holding_end k v (rows_of gs) ∙ ap conflict (used_is k gs ∙ fresh))
        (holding_finished k v (rows_of gs) ∙ used_row k v gs fresh ∙ ap rows_of (sym (no_more all)))
        (ap are_distinct (no_more all) ∙ still_distinct k v gs distinct fresh) (inl refl)

name_is_option : (j : Key) → option_of (name_of j) ≡ Some (j, None)
name_is_option Load = refl
name_is_option Demo = refl
name_is_option Replay = refl
name_is_option Workers = refl

attached_is_option : (j : Key) (x : Text) → option_of (attached j x) ≡ Some (j, Some x)
attached_is_option Load x = refl
attached_is_option Demo x = refl
attached_is_option Replay x = refl
attached_is_option Workers x = refl

name_dash : (j : Key) → begins_with_dash (name_of j) ≡ true
name_dash Load = refl
name_dash Demo = refl
name_dash Replay = refl
name_dash Workers = refl

attached_dash : (j : Key) (x : Text) → begins_with_dash (attached j x) ≡ true
attached_dash Load x = refl
attached_dash Demo x = refl
attached_dash Replay x = refl
attached_dash Workers x = refl

module _ (rest : Texts) (others : (gs : List Given) (p : Pending) → are_distinct gs ≡ true → Agree gs p rest) where
  -- what is no option
  none_said : (word : Text) → option_of word ≡ None → given_from (word ∷ rest) None ≡ None
  none_said word none = ap (begun (given_from rest)) none

  dash_said : (k : Key) (word : Text) → begins_with_dash word ≡ true → given_from (word ∷ rest) (Some k) ≡ None
  dash_said k word dash = ap (λ (b : Bool). cond b None (with_given (given k word) (given_from rest None))) dash

  attached_said : (j : Key) (x : Text) → given_from (attached j x ∷ rest) None ≡ with_given (given j x) (given_from rest None)
  attached_said j x = ap (begun (given_from rest)) (attached_is_option j x)

  unsaid : (gs : List Given) {said : Option (List Given)} → said ≡ None → IsUnsaid gs said
  unsaid gs is = subst (IsUnsaid gs) (sym is) tt

  on_name : (gs : List Given) (p : Pending) (j : Key) → are_distinct gs ≡ true → Agree gs p (name_of j ∷ rest)
  on_name gs nothing j distinct =
      passes (settled_at (rows_of gs)) (named j (rows_of gs)) gs None (name_of j) rest (settled_named j (rows_of gs)) (from_settled j (rows_of gs)) (Some j) (ap (begun (given_from rest)) (name_is_option j)) (others gs (a_name j) distinct)
  on_name gs (a_name k) j distinct = refused (comes (named k (rows_of gs)) (name_of j) rest InvalidValue (named_named k j (rows_of gs))) (unsaid gs (dash_said k (name_of j) (name_dash j)))
  on_name gs (a_value k v) j distinct = by (is_among k gs) refl
    where
      w : Walk
      w = holding k v (rows_of gs)

      by : (again : Bool) → is_among k gs ≡ again → Agree gs (a_value k v) (name_of j ∷ rest)
      by true there =
          refused (subst Comes (sym (turn_fails w (name_of j) rest _ (holding_named k j v (rows_of gs) ∙ ap conflict (used_is k gs ∙ there)))) tt)
          (given_twice k v gs (given_from (name_of j ∷ rest) None) there)
      by false fresh =
          passes w (named j (rows_of (gs ++ given k v ∷ []))) (gs ++ given k v ∷ []) None (name_of j) rest
          (holding_named k j v (rows_of gs) ∙ ap conflict (used_is k gs ∙ fresh)) (from_holding k j v (rows_of gs) ∙ ap (named j) (used_row k v gs fresh))
          (Some j) (ap (begun (given_from rest)) (name_is_option j)) (others (gs ++ given k v ∷ []) (a_name j) (still_distinct k v gs distinct fresh))

  on_attached : (gs : List Given) (p : Pending) (j : Key) (x : Text) → are_distinct gs ≡ true → Agree gs p (attached j x ∷ rest)
  on_attached gs nothing j x distinct = by (is_among j gs) refl
    where
      w : Walk
      w = settled_at (rows_of gs)

      by : (again : Bool) → is_among j gs ≡ again → Agree gs nothing (attached j x ∷ rest)
      by true there =
          refused (comes w (attached j x) rest ArgumentConflict (settled_attached j x (rows_of gs) ∙ ap conflict (used_is j gs ∙ there)))
          (subst (IsUnsaid gs) (sym (attached_said j x)) (given_again j x gs (given_from rest None) there))
      by false fresh =
          gives w (settled_at (rows_of (gs ++ given j x ∷ []))) gs None (attached j x) rest
          (settled_attached j x (rows_of gs) ∙ ap conflict (used_is j gs ∙ fresh)) (to_settled j x (rows_of gs) ∙ ap settled_at (used_row j x gs fresh))
          (given j x) false (λ e. absurd cc) (attached_said j x) (others (gs ++ given j x ∷ []) nothing (still_distinct j x gs distinct fresh))
  on_attached gs (a_name k) j x distinct = refused (comes (named k (rows_of gs)) (attached j x) rest InvalidValue (named_attached k j x (rows_of gs))) (unsaid gs (dash_said k (attached j x) (attached_dash j x)))
  on_attached gs (a_value k v) j x distinct = by (is_among k gs) refl
    where
      w : Walk
      w = holding k v (rows_of gs)

      all : List Given
      all = gs ++ given k v ∷ []

      met : (again more : Bool) → is_among k gs ≡ again → is_used j (used k v (rows_of gs)) ≡ more → turn_fault app.top [] w (attached j x) ≡ or_else (conflict again) (conflict more)
      met again more there later = holding_attached k j v x (rows_of gs) ∙ ap₂ (λ (a b : Bool). or_else (conflict a) (conflict b)) (used_is k gs ∙ there) later

      second : is_among k gs ≡ false → (again : Bool) → is_among j all ≡ again → Agree gs (a_value k v) (attached j x ∷ rest)
      second fresh true there =
          refused (comes w (attached j x) rest ArgumentConflict (met false true fresh (ap (is_used j) (used_row k v gs fresh) ∙ used_is j all ∙ there)))
          (subst (IsUnsaid all) (sym (attached_said j x)) (given_again j x all (given_from rest None) there))
      second fresh false new =
          gives w (settled_at (rows_of (all ++ given j x ∷ []))) all None (attached j x) rest
          (met false false fresh (ap (is_used j) (used_row k v gs fresh) ∙ used_is j all ∙ new))
          (from_both k j v x (rows_of gs) ∙ ap (λ (rows : List Row). settled_at (used j x rows)) (used_row k v gs fresh) ∙ ap settled_at (used_row j x all new))
          (given j x) false (λ e. absurd cc) (attached_said j x) (others (all ++ given j x ∷ []) nothing (still_distinct j x all (still_distinct k v gs distinct fresh) new))

      by : (again : Bool) → is_among k gs ≡ again → Agree gs (a_value k v) (attached j x ∷ rest)
      by true there = refused (comes w (attached j x) rest ArgumentConflict (met true (is_used j (used k v (rows_of gs))) there refl)) (given_twice k v gs (given_from (attached j x ∷ rest) None) there)
      by false fresh = second fresh (is_among j all) refl

  on_unknown : (gs : List Given) (p : Pending) (word : Text) → IsUnknown word → option_of word ≡ None → begins_with_dash word ≡ true → Agree gs p (word ∷ rest)
  on_unknown gs nothing word is none dash = refused (comes (settled_at (rows_of gs)) word rest UnknownArgument (is (rows_of gs) None idle)) (unsaid gs (none_said word none))
  on_unknown gs (a_name k) word is none dash = refused (comes (named k (rows_of gs)) word rest UnknownArgument (is (rows_of gs) (Some (id_of k, [])) (option (id_of k)))) (unsaid gs (dash_said k word dash))
  on_unknown gs (a_value k v) word is none dash = refused (comes (holding k v (rows_of gs)) word rest UnknownArgument (is (rows_of gs) (Some (id_of k, v ∷ [])) idle)) (unsaid (gs ++ given k v ∷ []) (none_said word none))

  on_loose : (gs : List Given) (p : Pending) (word : Text) → IsLoose word → option_of word ≡ None → are_distinct gs ≡ true → Agree gs p (word ∷ rest)
  on_loose gs nothing word is none distinct = refused (comes (settled_at (rows_of gs)) word rest UnknownArgument (loose_idle word is (rows_of gs) None)) (unsaid gs (none_said word none))
  on_loose gs (a_name k) word is none distinct =
      gives (named k (rows_of gs)) (holding k word (rows_of gs)) gs (Some k) word rest (loose_named word is k (rows_of gs)) (loose_held word is k (rows_of gs))
      (given k word) (begins_with_dash word) (λ e. e) refl (others gs (a_value k word) distinct)
  on_loose gs (a_value k v) word is none distinct = refused (comes (holding k v (rows_of gs)) word rest UnknownArgument (loose_idle word is (rows_of gs) (Some (id_of k, v ∷ [])))) (unsaid (gs ++ given k v ∷ []) (none_said word none))

  on_word : (gs : List Given) (p : Pending) (word : Text) → IsWord word → are_distinct gs ≡ true → Agree gs p (word ∷ rest)
  on_word gs p word (is_named j e) distinct = subst (λ (x : Text). Agree gs p (x ∷ rest)) (sym e) (on_name gs p j distinct)
  on_word gs p word (is_attached j x e) distinct = subst (λ (y : Text). Agree gs p (y ∷ rest)) (sym e) (on_attached gs p j x distinct)
  on_word gs p word (is_unknown unknown none dash) distinct = on_unknown gs p word unknown none dash
  on_word gs p word (is_loose loose none) distinct = on_loose gs p word loose none distinct

agree : (words : Texts) → NoneEnds words → (gs : List Given) (p : Pending) → are_distinct gs ≡ true → Agree gs p words
agree [] none gs p distinct = at_end gs p distinct
agree (word ∷ rest) none gs p distinct = on_word rest (agree rest none.1) gs p word (classify word none.0) distinct

pub agrees : (words : Texts) → NoneEnds words → Agrees (settled_at []) [] None words
agrees words none = agree words none [] nothing refl
