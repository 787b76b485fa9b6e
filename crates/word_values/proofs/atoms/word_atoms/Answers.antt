use Rattle.std.proofs.Common.{◌+◌, ◌++◌, ◌∷◌, [], ◌∙◌, ℕ, List, ap, sym, drop, map}
use Rattle.std.specs.Borrow.{Bor}
use Rattle.std.specs.Option.{option_map}
use Rattle.std.proofs.lemmas.List.{map-append}
use Rattle.tcl_words.specs.TopWords.{atom_of}
use Rattle.word_values.specs.Atoms.{all_atoms}
use Rattle.word_values.proofs.AtomLaws.{atoms_more}
use Rattle.word_values.proofs.atoms.word_atoms.Goals as goal

pub loop-word-preserved : goal.loop-word-preserved
loop-word-preserved c =
    let now : Bor (List ℕ) → List ℕ = λ a. a.now in
    let rest = all_atoms (map (atom_of c.args.text.now c.args.tokens.now) (drop (c.loop-word.word-index + 1) c.args.words.now)) in
    record {
      same = ap (λ (done : List (Bor (List ℕ))). option_map (λ more. map now done ++ more) rest) c.in_ok-push.ensures.items
          ∙ ap (λ (done : List (List ℕ)). option_map (λ more. done ++ more) rest) (map-append now c.loop-word.atoms.items (c.in-Some.atom ∷ []))
          ∙ atoms_more c.args.text.now c.args.tokens.now c.args.words.now c.loop-word.word-index _ c.in-Some.atom.now (map now c.loop-word.atoms.items) c.loop-word-test.true (sym c.in-Some.ensures)
          ∙ c.loop-word.invariant.same;
      few = c.in_ok-push.ensures.len ∙ ap (λ n. n + 1) c.loop-word.invariant.few;
    }
