use Rattle.std.proofs.Common.{◌≡◌, ◌≢◌, ◌<◌, ◌∙◌, ap, sym, subst, arith, length, List, Option, Some, IfOk, IfErr}
use Rattle.std.specs.Option.{option_map}
use Rattle.std.proofs.lemmas.Bool.{eqb-false}
use Rattle.word_values.specs.Groups.{levels_of, words_of_tokens}
use Rattle.word_values.specs.Reading.{State, state_of, given_nodes, IsNone}
use Rattle.word_values.specs.Trees.{tree_in}
use Rattle.word_values.specs.declared.given.GivenNode.{GivenNode}
use Rattle.word_values.proofs.ReadingLaws.{means}
use Rattle.word_values.proofs.LevelLaws.{begun}
use Rattle.word_values.proofs.AnswerLaws.{passed_on, next_token, not_next, all_read}
use Rattle.word_values.proofs.TokenLaws.{lies_at}
use Rattle.word_values.proofs.reading.given_nodes.Goals as goal

pub loop-token-init : goal.loop-token-init
loop-token-init c =
    let none : length c.args.tokens.now ≢ 0 = eqb-false (length c.args.tokens.now) 0 (sym c.is_empty.ensures ∙ c.if-is_empty.false) in
    let some : 0 < length c.args.tokens.now = omega (arith, none) in
    ap (λ (s : State). means s (levels_of c.args.text.now c.args.tokens.now)) c.in_ok-reader.ensures ∙ begun c.args.text.now c.args.tokens.now c.requires.tokens.balanced some

pub token-requires : goal.token-requires
token-requires c = lies_at (length c.args.text.now) c.args.tokens.now c.loop-token.token-index _ c.requires.tokens.lie c.loop-token-test.true

pub returns-in_err-token-clause-none : goal.returns-in_err-token-clause-none
returns-in_err-token-clause-none c =
    let total : Option (List GivenNode) = option_map given_nodes (tree_in (words_of_tokens c.args.text.now c.args.tokens.now)) in
    passed_on (λ e. IsNone e total) c.from_residual-in_err-token.result c.in_err-token.field-0.0 c.from_residual-in_err-token.ensures (λ e h. h)
    (not_next c.args.text.now c.args.tokens.now c.loop-token.token-index _ (state_of c.loop-token.reader) (state_of c.token.new.self) total c.in_err-token.field-0.0 c.requires.tokens.balanced c.loop-token-test.true c.loop-token.invariant c.in_err-token.ensures)

pub loop-token-preserved : goal.loop-token-preserved
loop-token-preserved c =
    sym (next_token c.args.text.now c.args.tokens.now c.loop-token.token-index _ (state_of c.loop-token.reader) (Some (state_of c.token.new.self)) c.requires.tokens.balanced c.loop-token-test.true c.in_ok-token.ensures)
    ∙ c.loop-token.invariant

pub returns-clause-nodes : goal.returns-clause-nodes
returns-clause-nodes c =
    let total : Option (List GivenNode) = option_map given_nodes (tree_in (words_of_tokens c.args.text.now c.args.tokens.now)) in
    subst (λ (o : Option (List GivenNode)). IfOk c.end.result (λ v. o ≡ Some v.items)) (all_read c.args.text.now c.args.tokens.now c.loop-token.token-index (state_of c.loop-token.reader) total c.loop-token-test.false c.loop-token.invariant) c.end.ensures.nodes

pub returns-clause-none : goal.returns-clause-none
returns-clause-none c =
    let total : Option (List GivenNode) = option_map given_nodes (tree_in (words_of_tokens c.args.text.now c.args.tokens.now)) in
    subst (λ (o : Option (List GivenNode)). IfErr c.end.result (λ e. IsNone e o)) (all_read c.args.text.now c.args.tokens.now c.loop-token.token-index (state_of c.loop-token.reader) total c.loop-token-test.false c.loop-token.invariant) c.end.ensures.none
