use Rattle.std.proofs.Common.{◌≡◌, ◌<◌, ◌+◌, ◌++◌, ◌∷◌, [], ◌∙◌, List, ℕ, Option, get_or, drop, ap, sym, subst, arith}
use Rattle.std.specs.Option.{option_map}
use Rattle.tcl_words.specs.TopWords.{IsWordOf, atom_of}
use Rattle.tcl_words.specs.declared.token.Word.{Word}
use Rattle.put_form.specs.Pairs.{Pair, pair, pairs_of}
use Rattle.put_form.specs.Steps.{HaveWords, HavePlaces}
use Rattle.put_form.proofs.ListLaws.{all_more}
use Rattle.put_form.proofs.PairLaws.{pairs_more, pairs_odd}
use Rattle.put_form.proofs.pairs.read_pairs.Goals as goal

pub loop-at-preserved : goal.loop-at-preserved
loop-at-preserved c =
    let none : Word = record { first = 0; last = 0 } in
    let words : List Word = c.args.words.now in
    let at : ℕ = c.loop-at.at in
    let made : Pair = pair (atom_of c.args.text.now c.args.tokens.now (get_or words at none)) (get_or words (at + 1) none) (c.args.place + at + 1) in
    let grown : c.push.new.self.items ≡ c.loop-at.pairs.items ++ made ∷ [] = c.in_ok-push.ensures.items ∙ ap (λ (p : Pair). c.loop-at.pairs.items ++ p ∷ []) c.pair_of_words-pair.ensures in
    let rest : Option (List Pair) = pairs_of c.args.text.now c.args.tokens.now (c.args.place + (at + 2)) (drop (at + 2) words) in
    record {
      within = omega (arith, c.loop-at-test.true);
      same = ap (λ (done : List Pair). option_map (λ (l : List Pair). done ++ l) rest) grown ∙ pairs_more c.args.text.now c.args.tokens.now words c.args.place at none c.loop-at.pairs.items c.loop-at-test.true ∙ c.loop-at.invariant.same;
      words = subst (HaveWords c.args.tokens.now) (sym grown) (all_more (λ (p : Pair). IsWordOf c.args.tokens.now p.value) c.loop-at.pairs.items made c.loop-at.invariant.words (c.requires.words (at + 1) none c.loop-at-test.true));
      places = subst HavePlaces (sym grown) (all_more (λ (p : Pair). 0 < p.place) c.loop-at.pairs.items made c.loop-at.invariant.places (omega arith));
    }

pub returns-clause-pairs : goal.returns-clause-pairs
returns-clause-pairs c = pairs_odd c.args.text.now c.args.tokens.now c.args.words.now c.args.place c.loop-at.at c.loop-at.pairs.items c.loop-at.invariant.within c.loop-at-test.false c.if-at-words.false ∙ c.loop-at.invariant.same
