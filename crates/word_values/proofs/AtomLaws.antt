-- Atoms of words, one after the other.
use Rattle.std.proofs.Common.{◌≡◌, ◌∙◌, ◌<◌, ◌+◌, ◌++◌, ◌∷◌, [], ℕ, List, length, map, Option, Some, None, refl, ap, sym, append_assoc, drop, get_or}
use Rattle.std.specs.Option.{option_map}
use Rattle.std.proofs.lemmas.List.{drop_more}
use Rattle.tcl_words.specs.TopWords.{atom_of}
use Rattle.tcl_words.specs.declared.token.Token.{Token}
use Rattle.tcl_words.specs.declared.token.Word.{Word}
use Rattle.word_values.specs.Atoms.{all_atoms}

atom_step : (found : List (List ℕ)) (atom : List ℕ) (rest : Option (List (List ℕ))) → option_map (λ more. (found ++ atom ∷ []) ++ more) rest ≡ option_map (λ more. found ++ more) (option_map (λ more. atom ∷ more) rest)
atom_step found atom None = refl
atom_step found atom (Some more) = ap (λ (atoms : List (List ℕ)). Some atoms) (append_assoc found (atom ∷ []) more)

-- one word more that is an atom
pub atoms_more : (text : List ℕ) (tokens : List Token) (words : List Word) (i : ℕ) (d : Word) (atom : List ℕ) (found : List (List ℕ)) → i < length words → atom_of text tokens (get_or words i d) ≡ Some atom
    → option_map (λ more. (found ++ atom ∷ []) ++ more) (all_atoms (map (atom_of text tokens) (drop (i + 1) words))) ≡ option_map (λ more. found ++ more) (all_atoms (map (atom_of text tokens) (drop i words)))
atoms_more text tokens words i d atom found lt is =
    atom_step found atom (all_atoms (map (atom_of text tokens) (drop (i + 1) words)))
    ∙ ap (λ (o : Option (List ℕ)). option_map (λ more. found ++ more) (all_atoms (o ∷ map (atom_of text tokens) (drop (i + 1) words)))) (sym is)
    ∙ sym (ap (λ (ws : List Word). option_map (λ more. found ++ more) (all_atoms (map (atom_of text tokens) ws))) (drop_more words i d lt))
