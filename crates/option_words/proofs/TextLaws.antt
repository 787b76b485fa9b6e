-- What is known of the words by what clap answers.
use Rattle.std.proofs.Common.{◌≡◌, ◌∙◌, ap, ap₂, sym, subst, true, Bool, cond, List, [], Option, Some, None, inl, inr, ◌⊎◌, refl}
use Rattle.clap.specs.Words.{App, Row, Text, IsAmong, fault_of, first_of, is_simple, is_simple_and_free, matches_of}
use Rattle.clap.specs.declared.error.kind.ErrorKind.{ErrorKind}
use Rattle.clap.specs.declared.error.kind.ErrorKind.TheVariants.{OutOfMemory}
use Rattle.option_words.specs.Command.{options_app}
use Rattle.option_words.specs.Grammar.{Given, are_distinct, asked_by, asked_of, asked_with, given_from, if_distinct, options_for, replay_asked, value_of, workers_asked}
use Rattle.option_words.specs.Reading.{NoneEnds}
use Rattle.option_words.specs.declared.options.Key.TheVariants.{Load, Demo, Replay, Workers}
use Rattle.option_words.specs.declared.options.Model.{Model}
use Rattle.option_words.proofs.ClapSteps.{id_of, settled_at, simple, simple_and_free, whole_fault, whole_rows}
use Rattle.option_words.proofs.Dashes.{dash_asks_nothing}
use Rattle.option_words.proofs.Rows.{first_is, rows_of}
use Rattle.option_words.proofs.Agreement.{Agrees, Comes, IsSaid, IsUnsaid, agrees, refused, taken}

asked_is : (hs : List Given) (said : Option (List Given)) → are_distinct hs ≡ true → IsSaid hs said → if_distinct said ≡ asked_by hs
asked_is hs said distinct (inl same) = ap if_distinct same ∙ ap (λ (t : Bool). cond t (asked_by hs) None) distinct
asked_is hs said distinct (inr bad) = ap if_distinct bad.0 ∙ sym (dash_asks_nothing hs distinct bad.1)

none_asked : (said : Option (List Given)) → IsUnsaid [] said → if_distinct said ≡ None
none_asked None unsaid = refl
none_asked (Some hs) twice = ap (λ (t : Bool). cond t (asked_by hs) None) twice

pub taken_texts : (app : App) (words : List Text) (rows : List Row) (load demo replay workers : Option Text) → app ≡ options_app → NoneEnds words
    → (is_simple_and_free app ≡ true → fault_of app words ≡ []) → (is_simple app ≡ true → rows ≡ matches_of app words)
    → load ≡ first_of (id_of Load) rows → demo ≡ first_of (id_of Demo) rows → replay ≡ first_of (id_of Replay) rows → workers ≡ first_of (id_of Workers) rows
    → asked_of words ≡ options_for (asked_with load demo) (replay_asked replay) (workers_asked workers)
taken_texts app words rows load demo replay workers is none fine read at_load at_demo at_replay at_workers = by (agrees words none)
  where
    no_fault : fault_of options_app words ≡ []
    no_fault = ap (λ (a : App). fault_of a words) (sym is) ∙ fine (ap is_simple_and_free is ∙ simple_and_free)

    same_rows : rows ≡ matches_of options_app words
    same_rows = read (ap is_simple is ∙ simple) ∙ ap (λ (a : App). matches_of a words) is

    by : Agrees (settled_at []) [] None words → asked_of words ≡ options_for (asked_with load demo) (replay_asked replay) (workers_asked workers)
    by (taken hs _ finished distinct said) =
        let found : rows ≡ rows_of hs = same_rows ∙ whole_rows words ∙ finished in
        asked_is hs (given_from words None) distinct said
        ∙ sym (ap₂ (λ (m : Option Model) (r : Option (Option Text)). options_for m r (workers_asked workers))
        (ap₂ asked_with (at_load ∙ ap (first_of (id_of Load)) found ∙ first_is Load hs) (at_demo ∙ ap (first_of (id_of Demo)) found ∙ first_is Demo hs))
        (ap replay_asked (at_replay ∙ ap (first_of (id_of Replay)) found ∙ first_is Replay hs))
        ∙ ap (λ (w : Option Text). options_for (asked_with (value_of Load hs) (value_of Demo hs)) (replay_asked (value_of Replay hs)) (workers_asked w)) (at_workers ∙ ap (first_of (id_of Workers)) found ∙ first_is Workers hs))
    by (refused comes _) = absurd (subst Comes (sym (whole_fault words) ∙ no_fault) comes)

pub refused_texts : (app : App) (words : List Text) (k : ErrorKind) → app ≡ options_app → NoneEnds words
    → (is_simple_and_free app ≡ true → (k ≡ OutOfMemory) ⊎ IsAmong k (fault_of app words)) → (k ≡ OutOfMemory → ⊥) → asked_of words ≡ None
refused_texts app words k is none fails other = by (agrees words none)
  where
    among : (k ≡ OutOfMemory) ⊎ IsAmong k (fault_of app words) → IsAmong k (fault_of options_app words)
    among (inl memory) = absurd (other memory)
    among (inr here) = subst (λ (a : App). IsAmong k (fault_of a words)) is here

    by : Agrees (settled_at []) [] None words → asked_of words ≡ None
    by (taken hs fine _ _ _) = absurd (subst (IsAmong k) (whole_fault words ∙ fine) (among (fails (ap is_simple_and_free is ∙ simple_and_free))))
    by (refused _ unsaid) = none_asked (given_from words None) unsaid
