use Rattle.std.proofs.Common.{◌≡◌, ◌∙◌, ◌≤◌, ◌<◌, sym, arith, length, map, Some, None}
use Rattle.std.specs.List.{filter}
use Rattle.word_values.specs.Reading.{is_leaf, comb_node, all_there}
use Rattle.word_values.specs.Trees.{members_in}
use Rattle.word_values.proofs.GivenLaws.{too_many, no_name, no_number, is_whole, whole_answer}
use Rattle.word_values.proofs.given.tree_of.Goals as goal

pub returns-then-count_leaves-gt-LEAVES : goal.returns-then-count_leaves-gt-LEAVES
returns-then-count_leaves-gt-LEAVES c = λ t is.
    let many : 4096 < length (filter is_leaf c.args.nodes.now) = omega (arith, c.if-count_leaves-gt-LEAVES.true, c.count_leaves.ensures) in
    too_many t c.args.nodes.now is many

pub returns-then-not-all_named : goal.returns-then-not-all_named
returns-then-not-all_named c = λ t is.
    let few : length (filter is_leaf c.args.nodes.now) ≤ 4096 = omega (arith, c.if-count_leaves-gt-LEAVES.false, c.count_leaves.ensures) in
    no_name t c.args.nodes.now is few (sym c.all_named.ensures ∙ c.if-not-all_named.true)

pub returns-in_default : goal.returns-in_default
returns-in_default c = λ t is.
    let few : length (filter is_leaf c.args.nodes.now) ≤ 4096 = omega (arith, c.if-count_leaves-gt-LEAVES.false, c.count_leaves.ensures) in
    let none : None ≡ all_there (map comb_node c.args.nodes.now) = cc (c.in_default.is, c.in_ok-whole.ensures) in
    no_number t c.args.nodes.now is few (sym c.all_named.ensures ∙ c.if-not-all_named.false) none

pub small_tree-requires : goal.small_tree-requires
small_tree-requires c =
    let few : length (filter is_leaf c.args.nodes.now) ≤ 4096 = omega (arith, c.if-count_leaves-gt-LEAVES.false, c.count_leaves.ensures) in
    let some : Some c.in-Some.whole.items ≡ all_there (map comb_node c.args.nodes.now) = cc (c.in-Some.is, c.in_ok-whole.ensures) in
    let whole = is_whole c.requires.0 c.args.nodes.now c.in-Some.whole.items c.requires.1 few (sym c.all_named.ensures ∙ c.if-not-all_named.false) some in
    (members_in c.requires.0, whole.nodes, whole.few)

pub returns : goal.returns
returns c = λ t is.
    let few : length (filter is_leaf c.args.nodes.now) ≤ 4096 = omega (arith, c.if-count_leaves-gt-LEAVES.false, c.count_leaves.ensures) in
    let some : Some c.in-Some.whole.items ≡ all_there (map comb_node c.args.nodes.now) = cc (c.in-Some.is, c.in_ok-whole.ensures) in
    let whole = is_whole t c.args.nodes.now c.in-Some.whole.items is few (sym c.all_named.ensures ∙ c.if-not-all_named.false) some in
    whole_answer t c.in-Some.whole.items c.small_tree.result whole c.small_tree.ensures
