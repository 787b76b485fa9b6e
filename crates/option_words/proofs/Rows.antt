-- The rows that clap keeps, and the options that are given.
use Rattle.std.proofs.Common.{◌≡◌, ◌∙◌, ap, ap₂, refl, sym, true, false, Bool, cond, List, [], ◌∷◌, ◌++◌, Option, Some, None}
use Rattle.std.specs.Prelude.{◌&&◌, ◌||◌, find, not, bytes_eq, slice_get}
use Rattle.std.specs.Option.{option_and_then}
use Rattle.clap.specs.Words.{Row, Text, first_of}
use Rattle.clap.specs.Walk.{more_values, with_values, without}
use Rattle.clap.specs.declared.parser.matches.ValueSource.TheVariants.{CommandLine}
use Rattle.clap.specs.declared.builder.value_parser.Reading.TheVariants.{AsWritten}
use Rattle.option_words.specs.Grammar.{Given, are_distinct, given, is_among, is_same, value_of}
use Rattle.option_words.specs.declared.options.Key.{Key}
use Rattle.option_words.specs.declared.options.Key.TheVariants.{Load, Demo, Replay, Workers}
use Rattle.option_words.proofs.ClapSteps.{id_of, is_used, used}

abbrev pub row : Given → Row
row g = record { id = id_of g.key; values = g.value ∷ []; count = None; source = Some CommandLine; reading = AsWritten }

abbrev pub rows_of : List Given → List Row
rows_of [] = []
rows_of (g ∷ gs) = row g ∷ rows_of gs

same_id : (k j : Key) → bytes_eq (id_of j) (id_of k) ≡ is_same k j
same_id Load Load = refl
same_id Load Demo = refl
same_id Load Replay = refl
same_id Load Workers = refl
same_id Demo Load = refl
same_id Demo Demo = refl
same_id Demo Replay = refl
same_id Demo Workers = refl
same_id Replay Load = refl
same_id Replay Demo = refl
same_id Replay Replay = refl
same_id Replay Workers = refl
same_id Workers Load = refl
same_id Workers Demo = refl
same_id Workers Replay = refl
same_id Workers Workers = refl

same_back : (k j : Key) → is_same k j ≡ is_same j k
same_back Load Load = refl
same_back Load Demo = refl
same_back Load Replay = refl
same_back Load Workers = refl
same_back Demo Load = refl
same_back Demo Demo = refl
same_back Demo Replay = refl
same_back Demo Workers = refl
same_back Replay Load = refl
same_back Replay Demo = refl
same_back Replay Replay = refl
same_back Replay Workers = refl
same_back Workers Load = refl
same_back Workers Demo = refl
same_back Workers Replay = refl
same_back Workers Workers = refl

pub same_itself : (k : Key) → is_same k k ≡ true
same_itself Load = refl
same_itself Demo = refl
same_itself Replay = refl
same_itself Workers = refl

pub same_key : (k j : Key) → is_same k j ≡ true → k ≡ j
same_key Load Load e = refl
same_key Load Demo e = cc
same_key Load Replay e = cc
same_key Load Workers e = cc
same_key Demo Load e = cc
same_key Demo Demo e = refl
same_key Demo Replay e = cc
same_key Demo Workers e = cc
same_key Replay Load e = cc
same_key Replay Demo e = cc
same_key Replay Replay e = refl
same_key Replay Workers e = cc
same_key Workers Load e = cc
same_key Workers Demo e = cc
same_key Workers Replay e = cc
same_key Workers Workers e = refl

pub used_is : (k : Key) (gs : List Given) → is_used k (rows_of gs) ≡ is_among k gs
used_is k [] = refl
used_is k (g ∷ gs) = ap₂ (λ (a b : Bool). a || b) (same_id k g.key) (used_is k gs)

neither : (a b : Bool) → (a || b) ≡ false → (a ≡ false) × (b ≡ false)
neither true b e = cc
neither false b e = (refl, e)

pub used_row : (k : Key) (v : Text) (gs : List Given) → is_among k gs ≡ false → used k v (rows_of gs) ≡ rows_of (gs ++ given k v ∷ [])
used_row k v [] none = refl
used_row k v (g ∷ gs) none =
    let apart = neither (is_same k g.key) (is_among k gs) none in
    let other : bytes_eq (id_of g.key) (id_of k) ≡ false = same_id k g.key ∙ apart.0 in
    ap (λ (t : Bool). with_values (id_of k) AsWritten CommandLine (v ∷ []) (cond t (rows_of gs) (row g ∷ without (id_of k) (rows_of gs)))) other
    ∙ ap (λ (t : Bool). cond t (more_values CommandLine (v ∷ []) (row g) ++ without (id_of k) (rows_of gs)) (row g ∷ used k v (rows_of gs))) other
    ∙ ap (λ (l : List Row). row g ∷ l) (used_row k v gs apart.1)

pub first_is : (k : Key) (gs : List Given) → first_of (id_of k) (rows_of gs) ≡ value_of k gs
first_is k [] = refl
first_is k (g ∷ gs) = by (is_same k g.key) (same_id k g.key) (first_is k gs)
  where
    found : Bool → Option Text
    found t = option_and_then (λ (r : Row). slice_get r.values 0) (cond t (Some (row g)) (find (λ (r : Row). bytes_eq r.id (id_of k)) (rows_of gs)))

    by : (t : Bool) → bytes_eq (id_of g.key) (id_of k) ≡ t → first_of (id_of k) (rows_of gs) ≡ value_of k gs → first_of (id_of k) (row g ∷ rows_of gs) ≡ cond t (Some g.value) (value_of k gs)
    by true is others = ap found is
    by false is others = ap found is ∙ others

-- ---- options that are given more

either_true : (a b : Bool) → (a || true) ≡ true
either_true true b = refl
either_true false b = refl

grown : (a b c : Bool) → ((a || b) || c) ≡ (a || (b || c))
grown true b c = refl
grown false b c = refl

pub among_both : (k : Key) (gs hs : List Given) → is_among k (gs ++ hs) ≡ (is_among k gs || is_among k hs)
among_both k [] hs = refl
among_both k (g ∷ gs) hs = ap (λ (t : Bool). is_same k g.key || t) (among_both k gs hs) ∙ sym (grown (is_same k g.key) (is_among k gs) (is_among k hs))

both_parts : (a b : Bool) → (a && b) ≡ true → (a ≡ true) × (b ≡ true)
both_parts true b e = (refl, e)
both_parts false b e = cc

pub still_distinct : (k : Key) (v : Text) (gs : List Given) → are_distinct gs ≡ true → is_among k gs ≡ false → are_distinct (gs ++ given k v ∷ []) ≡ true
still_distinct k v [] distinct none = refl
still_distinct k v (g ∷ gs) distinct none =
    let parts = both_parts (not (is_among g.key gs)) (are_distinct gs) distinct in
    let apart = neither (is_same k g.key) (is_among k gs) none in
    let fresh : (is_among g.key gs || (is_same g.key k || false)) ≡ (is_among g.key gs || false) = ap (λ (t : Bool). is_among g.key gs || (t || false)) (same_back g.key k ∙ apart.0) in
    ap₂ (λ (a b : Bool). not a && b) (among_both g.key gs (given k v ∷ []) ∙ fresh) (still_distinct k v gs parts.1 apart.1)
    ∙ by (is_among g.key gs) parts.0
  where
    by : (t : Bool) → not t ≡ true → (not (t || false) && true) ≡ true
    by true e = cc
    by false e = refl

-- an option that is given twice
pub clash : (k : Key) (v : Text) (gs hs : List Given) → is_among k gs ≡ true → are_distinct ((gs ++ given k v ∷ []) ++ hs) ≡ false
clash k v [] hs there = cc
clash k v (g ∷ gs) hs there = by (is_same k g.key) refl (is_among k gs) refl there (clash k v gs hs)
  where
    later : (t : Bool) → (not t && false) ≡ false
    later true = refl
    later false = refl

    among : is_same g.key k ≡ true → is_among g.key ((gs ++ given k v ∷ []) ++ hs) ≡ true
    among same =
        among_both g.key (gs ++ given k v ∷ []) hs
        ∙ ap (λ (t : Bool). t || is_among g.key hs) (among_both g.key gs (given k v ∷ []) ∙ ap (λ (t : Bool). is_among g.key gs || (t || false)) same ∙ either_true (is_among g.key gs) true)

    by : (a : Bool) → is_same k g.key ≡ a → (b : Bool) → is_among k gs ≡ b → (a || b) ≡ true → (is_among k gs ≡ true → are_distinct ((gs ++ given k v ∷ []) ++ hs) ≡ false) → are_distinct (g ∷ ((gs ++ given k v ∷ []) ++ hs)) ≡ false
    by true here b _ _ _ = ap (λ (t : Bool). not t && are_distinct ((gs ++ given k v ∷ []) ++ hs)) (among (same_back g.key k ∙ here))
    by false _ true here _ more = ap (λ (t : Bool). not (is_among g.key ((gs ++ given k v ∷ []) ++ hs)) && t) (more here) ∙ later (is_among g.key ((gs ++ given k v ∷ []) ++ hs))
    by false _ false _ e _ = cc
