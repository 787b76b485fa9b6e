use Rattle.std.proofs.Common.{◌≡◌, ◌++◌, List, ℕ, map, drop, vec_len}
use Rattle.std.specs.Borrow.{Bor}
use Rattle.std.specs.Option.{option_map}
use Rattle.tcl_words.specs.TopWords.{atom_of}
use Rattle.word_values.specs.Atoms.{all_atoms}
use Rattle.word_values.proofs.atoms.word_atoms.Given as goal

abbrev pub invariant-loop-word : goal.invariant-loop-word
invariant-loop-word l = record {
  same : option_map (λ rest. map (λ (a : Bor (List ℕ)). a.now) l.atoms.items ++ rest) (all_atoms (map (atom_of l.text l.tokens) (drop l.word-index l.words))) ≡ all_atoms (map (atom_of l.text l.tokens) l.words);
  few : vec_len l.atoms ≡ l.word-index;
}
