use Rattle.std.proofs.Common.{◌∙◌, ap, sym, arith, length, List, Ok}
use Rattle.comb_tree.specs.declared.node.CombNode.{CombNode}
use Rattle.comb_tree.proofs.Changed.{nodes_short}
use Rattle.word_values.proofs.GivenLaws.{same_comb, no_fault}
use Rattle.word_values.proofs.given.small_tree.Goals as goal

pub of_nodes-requires-clause-short : goal.of_nodes-requires-clause-short
of_nodes-requires-clause-short c = omega (arith, nodes_short c.requires.0, ap (λ (ns : List CombNode). length ns) c.requires.1, c.requires.2)

pub returns-in-Ok : goal.returns-in-Ok
returns-in-Ok c = λ t is. ap Ok (same_comb c.in-Ok.tree t (c.in-Ok.ensures.0 ∙ sym is))

pub returns-in-Err : goal.returns-in-Err
returns-in-Err c = λ t is. absurd (no_fault c.args.nodes.items c.in-Err.field-0 c.in-Err.ensures c.requires.0 c.requires.1 c.requires.2)
