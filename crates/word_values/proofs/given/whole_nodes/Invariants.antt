use Rattle.std.proofs.Common.{◌≡◌, ◌++◌, map, drop}
use Rattle.std.specs.Option.{option_map}
use Rattle.word_values.specs.Reading.{comb_node, all_there}
use Rattle.word_values.proofs.given.whole_nodes.Given as goal

abbrev pub invariant-loop-node : goal.invariant-loop-node
invariant-loop-node l = option_map (λ rest. l.found.items ++ rest) (all_there (map comb_node (drop l.node-index l.nodes))) ≡ all_there (map comb_node l.nodes)
