use Rattle.std.proofs.Common.{◌∙◌, sym}
use Rattle.word_values.specs.Groups.{words_of_tokens}
use Rattle.word_values.specs.Trees.{tree_in}
use Rattle.word_values.proofs.AnswerLaws.{refused, no_tree, a_tree, read_with}
use Rattle.word_values.proofs.tree.read_tree.Goals as goal

pub returns-in_err-nodes : goal.returns-in_err-nodes
returns-in_err-nodes c =
    let words = words_of_tokens c.args.text.now c.args.tokens.now in
    refused c.from_residual.result c.in_err-nodes.field-0.0 words c.from_residual.ensures (λ e h. h) (no_tree c.in_err-nodes.field-0.0 words c.in_err-nodes.ensures.none)

pub tree_of-requires : goal.tree_of-requires
tree_of-requires c =
    let found = a_tree (tree_in (words_of_tokens c.args.text.now c.args.tokens.now)) c.in_ok-nodes.nodes.items c.in_ok-nodes.ensures.nodes in
    (found.tree, found.nodes ∙ sym c.deref.ensures.value)

pub returns : goal.returns
returns c =
    let words = words_of_tokens c.args.text.now c.args.tokens.now in
    let found = a_tree (tree_in words) c.in_ok-nodes.nodes.items c.in_ok-nodes.ensures.nodes in
    read_with c.tree_of.result found.tree words found.is (c.tree_of.ensures found.tree (found.nodes ∙ sym c.deref.ensures.value))
