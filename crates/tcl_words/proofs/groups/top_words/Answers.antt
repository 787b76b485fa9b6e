use Rattle.std.proofs.Common.{◌≡◌, ◌<◌, ◌+◌, ◌++◌, ◌∷◌, ◌∙◌, ℕ, [], List, length, arith, ap, sym, subst}
use Rattle.std.specs.Prelude.{All, filter_map}
use Rattle.std.specs.List.{range_with_len}
use Rattle.tcl_words.specs.TopWords.{IsWordOf, word_at, level}
use Rattle.tcl_words.specs.declared.token.Word.{Word}
use Rattle.tcl_words.proofs.LastWithin.{top_within}
use Rattle.tcl_words.proofs.LevelSteps.{word, word_from, whole_word, next_words}
use Rattle.tcl_words.proofs.groups.top_words.Goals as goal

pub overflow_add-first : goal.overflow_add-first
overflow_add-first c =
    let ts = c.args.tokens.now in
    let whole : IsWordOf ts (word_from ts c.loop-first.first) = whole_word ts c.loop-first.first c.requires c.loop-first-test.true c.loop-first.invariant.outside in
    let lt : c.word_last-last.result < length c.args.tokens.now = omega (arith, whole.within, c.word_last-last.ensures) in
    omega (arith, lt)

pub loop-first-preserved : goal.loop-first-preserved
loop-first-preserved c =
    let ts = c.args.tokens.now in
    let first : ℕ = c.loop-first.first in
    let h = c.loop-first.invariant in
    let is = c.word_last-last.ensures in
    let whole : IsWordOf ts (word_from ts first) = whole_word ts first c.requires c.loop-first-test.true h.outside in
    record {
      within = omega (arith, whole.within, is);
      outside = ap (λ (n : ℕ). level ts (n + 1)) is ∙ whole.ends;
      words =
          c.in_ok-push.ensures.items
          ∙ ap (λ (n : ℕ). c.loop-first.found.items ++ word first n ∷ []) is
          ∙ next_words ts first c.loop-first.found.items c.requires c.loop-first-test.true h.outside h.words
          ∙ ap (λ (n : ℕ). filter_map (word_at ts) (range_with_len 0 (n + 1))) (sym is);
    }

pub returns-clause-within : goal.returns-clause-within
returns-clause-within c =
    let end : length c.args.tokens.now ≡ c.loop-first.first = omega (arith, c.loop-first-test.false, c.loop-first.invariant.within) in
    subst (λ (ws : List Word). All (IsWordOf c.args.tokens.now) ws) (ap (λ (n : ℕ). filter_map (word_at c.args.tokens.now) (range_with_len 0 n)) end ∙ sym c.loop-first.invariant.words) (top_within c.args.tokens.now c.requires)
