-- The kinds of words that clap tells apart.
use Rattle.std.proofs.Common.{◌≡◌, ◌∙◌, ap, ap₂, refl, false, Bool, cond, ℕ, List, [], ◌∷◌, length, Option, Some, None, codes}
use Rattle.std.specs.Prelude.{bytes_eq, slice_get, ◌||◌}
use Rattle.std.specs.Option.{option_map_or}
use Rattle.std.specs.Str.{chars}
use Rattle.clap.specs.Kinds.{Kinds, or_else}
use Rattle.clap.specs.Words.{Row, Text}
use Rattle.clap.specs.Faults.{flag_word_fault, bundle_fault, long_fault, bundle_step_fault, flags_fault, other_fault, step_fault, turn_fault, word_fault}
use Rattle.clap.specs.Lexer.{long_of, short_of}
use Rattle.clap.specs.Simple.{filled}
use Rattle.clap.specs.Walk.{Held, Outcome, Step, Waiting, idle, option, positional, plain, plain_word, subcommand_met, subcommand_or_other, long_or_other, short_or_plain, trailing, walked, word_met, after_step, after_flag, bundle_step, bundle_met}
use Rattle.clap.specs.declared.error.kind.ErrorKind.TheVariants as kind
use Rattle.clap.proofs.OnLiterals.{clap_on_literals}
use Rattle.option_words.specs.Command.{load_rule, demo_rule, replay_rule, workers_rule}
use Rattle.option_words.specs.declared.options.Key.{Key}
use Rattle.option_words.specs.declared.options.Key.TheVariants.{Load, Demo, Replay, Workers}
use Rattle.option_words.proofs.ClapSteps.{app, rules, id_of, at, named, holding}

abbrev pub held : List Row → Option (Text × List Text) → Held
held rows pending = record { rows = rows; pending = pending; skip = 0 }

-- clap refuses the word, wherever it stands
abbrev pub IsUnknown : Text → Type 0
IsUnknown word = (rows : List Row) (pending : Option (Text × List Text)) (waiting : Waiting) → turn_fault app.top [] (at rows pending waiting) word ≡ kind.UnknownArgument ∷ []

-- clap takes the word for a value, where one is waited for
abbrev pub IsLoose : Text → Type 0
IsLoose word = (rows : List Row) (pending : Option (Text × List Text)) (waiting : Waiting) →
    (word_fault app.top [] false waiting word (held rows pending) ≡ [])
    × (word_met rules [] false waiting 1 word (held rows pending) ≡ plain_word rules waiting word (held rows pending))

no_subcommand : (waiting : Waiting) (word : Text) → subcommand_met [] waiting word ≡ None
no_subcommand idle word = refl
no_subcommand (option id) word = refl
no_subcommand positional word = refl

-- what clap makes of a word is what it makes of it as a flag
as_flag : (word : Text) → bytes_eq word (codes "--") ≡ false → (waiting : Waiting) (h : Held) → word_fault app.top [] false waiting word h ≡ flag_word_fault rules false (long_of word) word h
as_flag word other waiting h =
    ap (λ (n : Option Text). other_fault app.top n word h) (no_subcommand waiting word)
    ∙ ap (λ (b : Bool). cond b [] (flag_word_fault rules false (long_of word) word h)) other

met_as_flag : (word : Text) → bytes_eq word (codes "--") ≡ false → (waiting : Waiting) (h : Held) → word_met rules [] false waiting 1 word h ≡ long_or_other rules waiting word (long_of word) h
met_as_flag word other waiting h =
    ap (λ (n : Option Text). subcommand_or_other rules n waiting 1 word h) (no_subcommand waiting word)
    ∙ ap (λ (b : Bool). cond b (h, trailing 1) (long_or_other rules waiting word (long_of word) h)) other

unknown_by : (word : Text) → ((rows : List Row) (pending : Option (Text × List Text)) (waiting : Waiting) → word_fault app.top [] false waiting word (held rows pending) ≡ kind.UnknownArgument ∷ []) → IsUnknown word
unknown_by word e rows pending waiting =
    ap (λ (f : Kinds). or_else f (step_fault app.top 1 (word_met rules [] false waiting 1 word (held rows pending)).0 (word_met rules [] false waiting 1 word (held rows pending)).1)) (e rows pending waiting)

pub unknown_long : (word name : Text) (value : Option Text) → bytes_eq word (codes "--") ≡ false → long_of word ≡ Some (name, value) → ((k : Key) → bytes_eq (id_of k) name ≡ false) → IsUnknown word
unknown_long word name value other is no_option = unknown_by word (λ rows pending waiting.
    as_flag word other waiting (held rows pending)
    ∙ ap (λ (l : Option (Text × Option Text)). flag_word_fault rules false l word (held rows pending)) is
    ∙ ap₂ (λ (a b : Bool). found rows pending a b (bytes_eq (id_of Replay) name) (bytes_eq (id_of Workers) name)) (no_option Load) (no_option Demo)
    ∙ ap₂ (found rows pending false false) (no_option Replay) (no_option Workers))
  where
    found : List Row → Option (Text × List Text) → Bool → Bool → Bool → Bool → Kinds
    found rows pending a b c d =
        long_fault rules false
        (cond (a || false) (Some (filled load_rule)) (cond (b || false) (Some (filled demo_rule)) (cond (c || false) (Some (filled replay_rule)) (cond (d || false) (Some (filled workers_rule)) None))))
        value (held rows pending)

flags_unknown : (flags : Text) (x : ℕ) (h : Held) → slice_get (chars flags) 0 ≡ Some x → flags_fault rules false (length flags) flags 0 h ≡ kind.UnknownArgument ∷ []
unfolding clap_on_literals
flags_unknown [] x h is = cc
flags_unknown (b ∷ bs) x h is = ap (λ (c : Option ℕ). bundle_step_fault rules false c (b ∷ bs) 0 h (flags_fault rules false (length bs))) is

pub unknown_short : (word flags : Text) (x : ℕ) → bytes_eq word (codes "--") ≡ false → long_of word ≡ None → short_of word ≡ Some flags → slice_get (chars flags) 0 ≡ Some x → IsUnknown word
unknown_short word flags x other no_long is first = unknown_by word (λ rows pending waiting.
    as_flag word other waiting (held rows pending)
    ∙ ap (λ (l : Option (Text × Option Text)). flag_word_fault rules false l word (held rows pending)) no_long
    ∙ ap (λ (s : Option Text). option_map_or (λ fs. bundle_fault rules false fs (held rows pending)) s []) is
    ∙ flags_unknown flags x (held rows pending) first)

flags_loose : (flags : Text) (h : Held) → slice_get (chars flags) 0 ≡ None → (flags_fault rules false (length flags) flags 0 h ≡ []) × (bundle_met rules (length flags) flags 0 plain h ≡ (h, plain))
unfolding clap_on_literals
flags_loose [] h is = (refl, refl)
flags_loose (b ∷ bs) h is = (
  ap (λ (c : Option ℕ). bundle_step_fault rules false c (b ∷ bs) 0 h (flags_fault rules false (length bs))) is,
  ap (λ (c : Option ℕ). bundle_step rules c (b ∷ bs) 0 plain h (bundle_met rules (length bs))) is,
)

pub loose_flags : (word flags : Text) → bytes_eq word (codes "--") ≡ false → long_of word ≡ None → short_of word ≡ Some flags → slice_get (chars flags) 0 ≡ None → IsLoose word
loose_flags word flags other no_long is first rows pending waiting =
    let h : Held = held rows pending in
    let bundle = flags_loose flags h first in (
      as_flag word other waiting h
          ∙ ap (λ (l : Option (Text × Option Text)). flag_word_fault rules false l word h) no_long
          ∙ ap (λ (s : Option Text). option_map_or (λ fs. bundle_fault rules false fs h) s []) is
          ∙ bundle.0,
      met_as_flag word other waiting h
          ∙ ap (λ (l : Option (Text × Option Text)). long_or_other rules waiting word l h) no_long
          ∙ ap (λ (s : Option Text). short_or_plain rules waiting word s h) is
          ∙ ap (λ (m : Held × Outcome). after_flag rules waiting word m.0 m.1) bundle.1,
    )

pub loose_plain : (word : Text) → bytes_eq word (codes "--") ≡ false → long_of word ≡ None → short_of word ≡ None → IsLoose word
loose_plain word other no_long no_short rows pending waiting =
    let h : Held = held rows pending in (
      as_flag word other waiting h
          ∙ ap (λ (l : Option (Text × Option Text)). flag_word_fault rules false l word h) no_long
          ∙ ap (λ (s : Option Text). option_map_or (λ fs. bundle_fault rules false fs h) s []) no_short,
      met_as_flag word other waiting h
          ∙ ap (λ (l : Option (Text × Option Text)). long_or_other rules waiting word l h) no_long
          ∙ ap (λ (s : Option Text). short_or_plain rules waiting word s h) no_short,
    )

-- ---- a loose word, where it stands

pub loose_idle : (word : Text) → IsLoose word → (rows : List Row) (pending : Option (Text × List Text)) → turn_fault app.top [] (at rows pending idle) word ≡ kind.UnknownArgument ∷ []
loose_idle word is rows pending = ap₂ (λ (f : Kinds) (m : Held × Step). or_else f (step_fault app.top 1 m.0 m.1)) (is rows pending idle).0 (is rows pending idle).1

pub loose_named : (word : Text) → IsLoose word → (k : Key) (rows : List Row) → turn_fault app.top [] (named k rows) word ≡ []
loose_named word is Load rows = ap₂ (λ (f : Kinds) (m : Held × Step). or_else f (step_fault app.top 1 m.0 m.1)) (is rows (Some (id_of Load, [])) (option (id_of Load))).0 (is rows (Some (id_of Load, [])) (option (id_of Load))).1
loose_named word is Demo rows = ap₂ (λ (f : Kinds) (m : Held × Step). or_else f (step_fault app.top 1 m.0 m.1)) (is rows (Some (id_of Demo, [])) (option (id_of Demo))).0 (is rows (Some (id_of Demo, [])) (option (id_of Demo))).1
loose_named word is Replay rows = ap₂ (λ (f : Kinds) (m : Held × Step). or_else f (step_fault app.top 1 m.0 m.1)) (is rows (Some (id_of Replay, [])) (option (id_of Replay))).0 (is rows (Some (id_of Replay, [])) (option (id_of Replay))).1
loose_named word is Workers rows = ap₂ (λ (f : Kinds) (m : Held × Step). or_else f (step_fault app.top 1 m.0 m.1)) (is rows (Some (id_of Workers, [])) (option (id_of Workers))).0 (is rows (Some (id_of Workers, [])) (option (id_of Workers))).1

pub loose_held : (word : Text) → IsLoose word → (k : Key) (rows : List Row) → walked rules [] (named k rows) word ≡ holding k word rows
unfolding clap_on_literals
loose_held word is Load rows = ap (λ (m : Held × Step). after_step rules word (named Load rows) m.0 m.1) (is rows (Some (id_of Load, [])) (option (id_of Load))).1
loose_held word is Demo rows = ap (λ (m : Held × Step). after_step rules word (named Demo rows) m.0 m.1) (is rows (Some (id_of Demo, [])) (option (id_of Demo))).1
loose_held word is Replay rows = ap (λ (m : Held × Step). after_step rules word (named Replay rows) m.0 m.1) (is rows (Some (id_of Replay, [])) (option (id_of Replay))).1
loose_held word is Workers rows = ap (λ (m : Held × Step). after_step rules word (named Workers rows) m.0 m.1) (is rows (Some (id_of Workers, [])) (option (id_of Workers))).1
