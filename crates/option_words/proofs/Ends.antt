-- Words of which one is `--`, and words of which none is.
use Rattle.std.proofs.Common.{◌≡◌, ◌∙◌, ap, sym, refl, true, false, Bool, cond, ℕ, List, [], ◌∷◌, map, Option, Some, None, codes}
use Rattle.std.specs.Prelude.{bytes_eq, ◌||◌}
use Rattle.std.specs.List.{list_any}
use Rattle.std.proofs.lemmas.Slice.Eq.{bytes_eq-Decides}
use Rattle.clap.proofs.WalkLemmas.{list_any-map}
use Rattle.option_words.specs.Grammar.{Given, asked_of, begins_with_dash, begun, given, given_from, if_distinct, option_of, with_given}
use Rattle.option_words.specs.Reading.{NoneEnds}
use Rattle.option_words.specs.declared.options.Key.{Key}

abbrev is_end : List ℕ → Bool
is_end text = bytes_eq text (codes "--")

end_first : (text : List ℕ) (rest : List (List ℕ)) (waiting : Option Key) → is_end text ≡ true → given_from (text ∷ rest) waiting ≡ None
end_first text rest waiting is = ap (λ (t : List ℕ). given_from (t ∷ rest) waiting) ((bytes_eq-Decides text (codes "--")).0 is) ∙ by waiting
  where
    by : (waiting : Option Key) → given_from (codes "--" ∷ rest) waiting ≡ None
    by None = refl
    by (Some key) = refl

ends : (texts : List (List ℕ)) → list_any is_end texts ≡ true → (waiting : Option Key) → given_from texts waiting ≡ None
ends [] is waiting = cc
ends (text ∷ rest) is waiting = by (is_end text) refl is (ends rest)
  where
    begin : ((w : Option Key) → given_from rest w ≡ None) → (o : Option (Key × Option (List ℕ))) → begun (given_from rest) o ≡ None
    begin none None = refl
    begin none (Some (key, None)) = none (Some key)
    begin none (Some (key, Some value)) = ap (with_given (given key value)) (none None)

    later : ((w : Option Key) → given_from rest w ≡ None) → (waiting : Option Key) → given_from (text ∷ rest) waiting ≡ None
    later none None = begin none (option_of text)
    later none (Some key) = ap (λ (o : Option (List Given)). cond (begins_with_dash text) None (with_given (given key text) o)) (none None) ∙ both (begins_with_dash text)
      where
        both : (b : Bool) → cond {A = Option (List Given)} b None None ≡ None
        both true = refl
        both false = refl

    by : (b : Bool) → is_end text ≡ b → (b || list_any is_end rest) ≡ true → (list_any is_end rest ≡ true → (w : Option Key) → given_from rest w ≡ None) → given_from (text ∷ rest) waiting ≡ None
    by true here _ _ = end_first text rest waiting here
    by false _ there more = later (more there) waiting

none_end : (texts : List (List ℕ)) → list_any is_end texts ≡ false → NoneEnds texts
none_end [] is = tt
none_end (text ∷ rest) is = by (is_end text) refl is (none_end rest)
  where
    by : (b : Bool) → is_end text ≡ b → (b || list_any is_end rest) ≡ false → (list_any is_end rest ≡ false → NoneEnds rest) → NoneEnds (text ∷ rest)
    by true here bad more = cc
    by false here there more = (here, more there)

module _ {X : Type 0} (text_of : X → List ℕ) (words : List X) where
  pub end_asks_nothing : list_any (λ word. is_end (text_of word)) words ≡ true → asked_of (map text_of words) ≡ None
  end_asks_nothing is = ap if_distinct (ends (map text_of words) (sym (list_any-map is_end text_of words) ∙ is) None)

  pub none_ends : list_any (λ word. is_end (text_of word)) words ≡ false → NoneEnds (map text_of words)
  none_ends is = none_end (map text_of words) (sym (list_any-map is_end text_of words) ∙ is)
