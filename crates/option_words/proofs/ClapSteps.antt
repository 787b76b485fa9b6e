-- What clap makes of the words, word by word.
use Rattle.std.proofs.Common.{◌≡◌, ◌∙◌, ap, ap₂, refl, true, false, Bool, cond, List, [], ◌∷◌, ◌++◌, Option, Some, None, codes}
use Rattle.std.specs.Prelude.{◌&&◌, ◌||◌, fold, is_some}
use Rattle.clap.specs.Kinds.{Kinds, or_else}
use Rattle.clap.specs.Words.{App, Row, Rule, Text, fault_of, is_simple, is_simple_and_free, matches_of}
use Rattle.clap.specs.Faults.{check_fault, defaults_fault, entered_fault, settle_fault, turn_fault, walk_fault}
use Rattle.clap.specs.Simple.{built, entered}
use Rattle.clap.specs.Walk.{Waiting, Walk, finished, has_row, idle, option, settled, walked, with_values, without}
use Rattle.clap.specs.declared.error.kind.ErrorKind.TheVariants as kind
use Rattle.clap.specs.declared.error.kind.ErrorKind.{ErrorKind}
use Rattle.clap.specs.declared.parser.matches.ValueSource.TheVariants.{CommandLine}
use Rattle.clap.specs.declared.builder.value_parser.Reading.TheVariants.{AsWritten}
use Rattle.clap.proofs.OnLiterals.{clap_on_literals}
use Rattle.option_words.specs.Command.{options_app}
use Rattle.option_words.specs.Grammar.{name_of}
use Rattle.option_words.specs.declared.options.Key.{Key}
use Rattle.option_words.specs.declared.options.Key.TheVariants.{Load, Demo, Replay, Workers}

abbrev pub app : App
app = built options_app

abbrev pub rules : List Rule
rules = app.top.rules

abbrev pub id_of : Key → Text
id_of Load = codes "load"
id_of Demo = codes "demo"
id_of Replay = codes "replay"
id_of Workers = codes "workers"

pub simple_and_free : is_simple_and_free options_app ≡ true
unfolding clap_on_literals
simple_and_free = refl

pub simple : is_simple options_app ≡ true
unfolding clap_on_literals
simple = refl

-- what is held between two words
abbrev pub at : List Row → Option (Text × List Text) → Waiting → Walk
at rows pending waiting = record {
  held = record { rows = rows; pending = pending; skip = 0 };
  waiting = waiting;
  position = 1;
  is_trailing = false;
  stopped = None;
}

abbrev pub after : Walk → List Text → Walk
after w words = fold (walked rules []) w words

-- the kinds that the rest of the words may give
abbrev pub end_fault : Walk → Kinds
end_fault w = or_else (entered_fault app w.stopped) (or_else (settle_fault rules false w.held)
    (or_else (defaults_fault (settled rules w.held).rows rules)
    (check_fault app.top (finished rules w.held) (is_some (entered app w.stopped)))))

abbrev pub rest_fault : Walk → List Text → Kinds
rest_fault w words = or_else (walk_fault app.top [] w words) (end_fault (after w words))

pub whole_fault : (words : List Text) → fault_of options_app words ≡ rest_fault (at [] None idle) words
unfolding clap_on_literals
whole_fault words = refl

pub whole_rows : (words : List Text) → matches_of options_app words ≡ finished rules (after (at [] None idle) words).held
unfolding clap_on_literals
whole_rows words = refl

-- ---- one word

pub turn_fails : (w : Walk) (word : Text) (words : List Text) (k : ErrorKind) → turn_fault app.top [] w word ≡ k ∷ [] → rest_fault w (word ∷ words) ≡ k ∷ []
unfolding clap_on_literals
turn_fails w word words k e = ap (λ (t : Kinds). or_else (or_else t (walk_fault app.top [] (walked rules [] w word) words)) (end_fault (after w (word ∷ words)))) e

pub turn_passes : (w next : Walk) (word : Text) (words : List Text) → turn_fault app.top [] w word ≡ [] → walked rules [] w word ≡ next → rest_fault w (word ∷ words) ≡ rest_fault next words
unfolding clap_on_literals
turn_passes w next word words e to =
    ap (λ (t : Kinds). or_else (or_else t (walk_fault app.top [] (walked rules [] w word) words)) (end_fault (after w (word ∷ words)))) e
    ∙ ap (λ (x : Walk). rest_fault x words) to

-- ---- the states: nothing is pending; an option was named, and waits for its value; an option has its value, and is used at
-- the next word

abbrev pub settled_at : List Row → Walk
settled_at rows = at rows None idle

abbrev pub named : Key → List Row → Walk
named k rows = at rows (Some (id_of k, [])) (option (id_of k))

abbrev pub holding : Key → Text → List Row → Walk
holding k v rows = at rows (Some (id_of k, v ∷ [])) idle

-- the rows behind a use of an option
abbrev pub used : Key → Text → List Row → List Row
used k v rows = with_values (id_of k) AsWritten CommandLine (v ∷ []) (without (id_of k) rows)

-- the option was used before
abbrev pub is_used : Key → List Row → Bool
is_used k rows = has_row (id_of k) rows

abbrev pub conflict : Bool → Kinds
conflict again = cond again (kind.ArgumentConflict ∷ []) []

abbrev pub attached : Key → Text → Text
attached k value = name_of k ++ 61 ∷ value

-- what the use of an option may fail by
abbrev one_use : Bool → Kinds
one_use again = or_else (cond (again && true) (kind.ArgumentConflict ∷ []) []) []

used_once : (again : Bool) → or_else (one_use again) [] ≡ conflict again
used_once true = refl
used_once false = refl

used_twice : (again other : Bool) → or_else (or_else (one_use again) (one_use other)) [] ≡ or_else (conflict again) (conflict other)
used_twice true other = refl
used_twice false true = refl
used_twice false false = refl

pub settled_named : (k : Key) (rows : List Row) → turn_fault app.top [] (settled_at rows) (name_of k) ≡ []
unfolding clap_on_literals
settled_named Load rows = refl
settled_named Demo rows = refl
settled_named Replay rows = refl
settled_named Workers rows = refl

pub from_settled : (k : Key) (rows : List Row) → walked rules [] (settled_at rows) (name_of k) ≡ named k rows
unfolding clap_on_literals
from_settled Load rows = refl
from_settled Demo rows = refl
from_settled Replay rows = refl
from_settled Workers rows = refl

pub named_named : (k j : Key) (rows : List Row) → turn_fault app.top [] (named k rows) (name_of j) ≡ kind.InvalidValue ∷ []
unfolding clap_on_literals
named_named Load Load rows = refl
named_named Load Demo rows = refl
named_named Load Replay rows = refl
named_named Load Workers rows = refl
named_named Demo Load rows = refl
named_named Demo Demo rows = refl
named_named Demo Replay rows = refl
named_named Demo Workers rows = refl
named_named Replay Load rows = refl
named_named Replay Demo rows = refl
named_named Replay Replay rows = refl
named_named Replay Workers rows = refl
named_named Workers Load rows = refl
named_named Workers Demo rows = refl
named_named Workers Replay rows = refl
named_named Workers Workers rows = refl

pub named_attached : (k j : Key) (x : Text) (rows : List Row) → turn_fault app.top [] (named k rows) (attached j x) ≡ kind.InvalidValue ∷ []
unfolding clap_on_literals
named_attached Load Load x rows = refl
named_attached Load Demo x rows = refl
named_attached Load Replay x rows = refl
named_attached Load Workers x rows = refl
named_attached Demo Load x rows = refl
named_attached Demo Demo x rows = refl
named_attached Demo Replay x rows = refl
named_attached Demo Workers x rows = refl
named_attached Replay Load x rows = refl
named_attached Replay Demo x rows = refl
named_attached Replay Replay x rows = refl
named_attached Replay Workers x rows = refl
named_attached Workers Load x rows = refl
named_attached Workers Demo x rows = refl
named_attached Workers Replay x rows = refl
named_attached Workers Workers x rows = refl

pub holding_named : (k j : Key) (v : Text) (rows : List Row) → turn_fault app.top [] (holding k v rows) (name_of j) ≡ conflict (is_used k rows)
unfolding clap_on_literals
holding_named Load Load v rows = used_once (is_used Load rows)
holding_named Load Demo v rows = used_once (is_used Load rows)
holding_named Load Replay v rows = used_once (is_used Load rows)
holding_named Load Workers v rows = used_once (is_used Load rows)
holding_named Demo Load v rows = used_once (is_used Demo rows)
holding_named Demo Demo v rows = used_once (is_used Demo rows)
holding_named Demo Replay v rows = used_once (is_used Demo rows)
holding_named Demo Workers v rows = used_once (is_used Demo rows)
holding_named Replay Load v rows = used_once (is_used Replay rows)
holding_named Replay Demo v rows = used_once (is_used Replay rows)
holding_named Replay Replay v rows = used_once (is_used Replay rows)
holding_named Replay Workers v rows = used_once (is_used Replay rows)
holding_named Workers Load v rows = used_once (is_used Workers rows)
holding_named Workers Demo v rows = used_once (is_used Workers rows)
holding_named Workers Replay v rows = used_once (is_used Workers rows)
holding_named Workers Workers v rows = used_once (is_used Workers rows)

pub from_holding : (k j : Key) (v : Text) (rows : List Row) → walked rules [] (holding k v rows) (name_of j) ≡ named j (used k v rows)
unfolding clap_on_literals
from_holding Load Load v rows = refl
from_holding Load Demo v rows = refl
from_holding Load Replay v rows = refl
from_holding Load Workers v rows = refl
from_holding Demo Load v rows = refl
from_holding Demo Demo v rows = refl
from_holding Demo Replay v rows = refl
from_holding Demo Workers v rows = refl
from_holding Replay Load v rows = refl
from_holding Replay Demo v rows = refl
from_holding Replay Replay v rows = refl
from_holding Replay Workers v rows = refl
from_holding Workers Load v rows = refl
from_holding Workers Demo v rows = refl
from_holding Workers Replay v rows = refl
from_holding Workers Workers v rows = refl

pub settled_attached : (j : Key) (x : Text) (rows : List Row) → turn_fault app.top [] (settled_at rows) (attached j x) ≡ conflict (is_used j rows)
unfolding clap_on_literals
settled_attached Load x rows = used_once (is_used Load rows)
settled_attached Demo x rows = used_once (is_used Demo rows)
settled_attached Replay x rows = used_once (is_used Replay rows)
settled_attached Workers x rows = used_once (is_used Workers rows)

pub to_settled : (j : Key) (x : Text) (rows : List Row) → walked rules [] (settled_at rows) (attached j x) ≡ settled_at (used j x rows)
unfolding clap_on_literals
to_settled Load x rows = refl
to_settled Demo x rows = refl
to_settled Replay x rows = refl
to_settled Workers x rows = refl

pub holding_attached : (k j : Key) (v x : Text) (rows : List Row) → turn_fault app.top [] (holding k v rows) (attached j x) ≡ or_else (conflict (is_used k rows)) (conflict (is_used j (used k v rows)))
unfolding clap_on_literals
holding_attached Load Load v x rows = used_twice (is_used Load rows) (is_used Load (used Load v rows))
holding_attached Load Demo v x rows = used_twice (is_used Load rows) (is_used Demo (used Load v rows))
holding_attached Load Replay v x rows = used_twice (is_used Load rows) (is_used Replay (used Load v rows))
holding_attached Load Workers v x rows = used_twice (is_used Load rows) (is_used Workers (used Load v rows))
holding_attached Demo Load v x rows = used_twice (is_used Demo rows) (is_used Load (used Demo v rows))
holding_attached Demo Demo v x rows = used_twice (is_used Demo rows) (is_used Demo (used Demo v rows))
holding_attached Demo Replay v x rows = used_twice (is_used Demo rows) (is_used Replay (used Demo v rows))
holding_attached Demo Workers v x rows = used_twice (is_used Demo rows) (is_used Workers (used Demo v rows))
holding_attached Replay Load v x rows = used_twice (is_used Replay rows) (is_used Load (used Replay v rows))
holding_attached Replay Demo v x rows = used_twice (is_used Replay rows) (is_used Demo (used Replay v rows))
holding_attached Replay Replay v x rows = used_twice (is_used Replay rows) (is_used Replay (used Replay v rows))
holding_attached Replay Workers v x rows = used_twice (is_used Replay rows) (is_used Workers (used Replay v rows))
holding_attached Workers Load v x rows = used_twice (is_used Workers rows) (is_used Load (used Workers v rows))
holding_attached Workers Demo v x rows = used_twice (is_used Workers rows) (is_used Demo (used Workers v rows))
holding_attached Workers Replay v x rows = used_twice (is_used Workers rows) (is_used Replay (used Workers v rows))
holding_attached Workers Workers v x rows = used_twice (is_used Workers rows) (is_used Workers (used Workers v rows))

pub from_both : (k j : Key) (v x : Text) (rows : List Row) → walked rules [] (holding k v rows) (attached j x) ≡ settled_at (used j x (used k v rows))
unfolding clap_on_literals
from_both Load Load v x rows = refl
from_both Load Demo v x rows = refl
from_both Load Replay v x rows = refl
from_both Load Workers v x rows = refl
from_both Demo Load v x rows = refl
from_both Demo Demo v x rows = refl
from_both Demo Replay v x rows = refl
from_both Demo Workers v x rows = refl
from_both Replay Load v x rows = refl
from_both Replay Demo v x rows = refl
from_both Replay Replay v x rows = refl
from_both Replay Workers v x rows = refl
from_both Workers Load v x rows = refl
from_both Workers Demo v x rows = refl
from_both Workers Replay v x rows = refl
from_both Workers Workers v x rows = refl

-- ---- the end of the words; no option has a value of its own

either_way : {X : Type 0} (t : Bool) (x : X) → cond t x x ≡ x
either_way true x = refl
either_way false x = refl

anyway : {X : Type 0} (t : Bool) (x y : X) → cond (t || true) x y ≡ x
anyway true x y = refl
anyway false x y = refl

-- the rows behind an option that is read no further
abbrev passed : Key → List Row → List Row
passed k rows = cond (is_used k rows) rows rows

still : (k : Key) (rows : List Row) → passed k rows ≡ rows
still k rows = either_way (is_used k rows) rows

all_finished : (rows : List Row) → passed Workers (passed Replay (passed Demo (passed Load rows))) ≡ rows
all_finished rows = still Workers (passed Replay (passed Demo (passed Load rows))) ∙ still Replay (passed Demo (passed Load rows)) ∙ still Demo (passed Load rows) ∙ still Load rows

pub settled_finished : (rows : List Row) → finished rules (settled_at rows).held ≡ rows
unfolding clap_on_literals
settled_finished rows = all_finished rows

pub holding_finished : (k : Key) (v : Text) (rows : List Row) → finished rules (holding k v rows).held ≡ used k v rows
unfolding clap_on_literals
holding_finished Load v rows = all_finished (used Load v rows)
holding_finished Demo v rows = all_finished (used Demo v rows)
holding_finished Replay v rows = all_finished (used Replay v rows)
holding_finished Workers v rows = all_finished (used Workers v rows)

-- no option has a value of its own
no_defaults : (rows : List Row) → defaults_fault rows rules ≡ []
unfolding clap_on_literals
no_defaults rows =
    ap₂ or_else (anyway (is_used Load rows) [] _)
    (ap₂ or_else (anyway (is_used Demo (passed Load rows)) [] _)
    (ap₂ (λ (a b : Kinds). or_else a (or_else b [])) (anyway (is_used Replay (passed Demo (passed Load rows))) [] _) (anyway (is_used Workers (passed Replay (passed Demo (passed Load rows)))) [] _)))

pub settled_end : (rows : List Row) → rest_fault (settled_at rows) [] ≡ []
unfolding clap_on_literals
settled_end rows = ap (λ (kinds : Kinds). or_else kinds []) (no_defaults rows)

pub holding_end : (k : Key) (v : Text) (rows : List Row) → rest_fault (holding k v rows) [] ≡ conflict (is_used k rows)
unfolding clap_on_literals
holding_end Load v rows = ap (λ (kinds : Kinds). or_else (one_use (is_used Load rows)) (or_else kinds [])) (no_defaults (used Load v rows)) ∙ used_once (is_used Load rows)
holding_end Demo v rows = ap (λ (kinds : Kinds). or_else (one_use (is_used Demo rows)) (or_else kinds [])) (no_defaults (used Demo v rows)) ∙ used_once (is_used Demo rows)
holding_end Replay v rows = ap (λ (kinds : Kinds). or_else (one_use (is_used Replay rows)) (or_else kinds [])) (no_defaults (used Replay v rows)) ∙ used_once (is_used Replay rows)
holding_end Workers v rows = ap (λ (kinds : Kinds). or_else (one_use (is_used Workers rows)) (or_else kinds [])) (no_defaults (used Workers v rows)) ∙ used_once (is_used Workers rows)

pub named_end : (k : Key) (rows : List Row) → rest_fault (named k rows) [] ≡ kind.InvalidValue ∷ []
unfolding clap_on_literals
named_end Load rows = refl
named_end Demo rows = refl
named_end Replay rows = refl
named_end Workers rows = refl
