-- What a call that reads the words of the command line answers.
use Rattle.std.specs.Prelude.{◌≡◌, ◌<◌, ◌^◌, ℕ, false, List, [], ◌∷◌, Option, Some, None, option_map, Result, Ok, Err, bytes_eq, codes}
use Rattle.std.specs.Borrow.{Bor}
use Rattle.option_words.specs.Grammar.{asked_of, asked_with, options_for, replay_asked, workers_asked}
use Rattle.option_words.specs.declared.command.Texts.{Texts}
use Rattle.option_words.specs.declared.fault.OptionsFault.{OptionsFault}
use Rattle.option_words.specs.declared.fault.OptionsFault.TheVariants.{Usage, Memory}
use Rattle.option_words.specs.declared.options.Model.{Model}
use Rattle.option_words.specs.declared.options.Model.TheVariants.{Empty, OfFile, OfDemo}
use Rattle.option_words.specs.declared.options.Options.{Options}

-- the options that are asked for, and Usage where nothing can be asked for; memory may be wanting anywhere
abbrev pub IsAnswer : Result Options OptionsFault → Option Options → Type 0
IsAnswer (Ok options) asked = asked ≡ Some options
IsAnswer (Err Usage) asked = asked ≡ None
IsAnswer (Err Memory) asked = Unit {0}

-- the answer to the words that these texts are
abbrev pub IsOptions : Result Options OptionsFault → List (List ℕ) → Type 0
IsOptions result texts = IsAnswer result (asked_of texts)

-- the number of a demo has at most nine digits
abbrev pub HasNumber : Model → Type 0
HasNumber Empty = Unit {0}
HasNumber (OfFile name) = Unit {0}
HasNumber (OfDemo number) = number < 10 ^ 9

-- no text is `--`
abbrev pub NoneEnds : List (List ℕ) → Type 0
NoneEnds [] = Unit {0}
NoneEnds (text ∷ rest) = (bytes_eq text (codes "--") ≡ false) × NoneEnds rest

abbrev pub behind : Option (Bor (List ℕ)) → Option (List ℕ)
behind text = option_map (λ t. t.now) text

-- the texts behind the options, where the words ask for no more and no less than these stand for
abbrev pub AreTexts : Result Texts OptionsFault → List (List ℕ) → Type 0
AreTexts (Ok texts) words = asked_of words ≡ options_for (asked_with (behind texts.load) (behind texts.demo)) (replay_asked (behind texts.replay)) (workers_asked (behind texts.workers))
AreTexts (Err fault) words = IsOptions (Err fault) words
