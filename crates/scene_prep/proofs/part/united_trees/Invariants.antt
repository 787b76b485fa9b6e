use Rattle.std.proofs.Common.{◌≡◌, ◌≤◌, ◌+◌, length, map, reverse, Some}
use Rattle.tree_forms.specs.Trees.{Tree}
use Rattle.comb_tree.specs.Nodes.{Member, comb_nodes}
use Rattle.scene_prep.specs.Parts.{nodes_behind}
use Rattle.scene_prep.proofs.Parts.{HasUnited}
use Rattle.scene_prep.proofs.part.united_trees.Given as goal

abbrev pub invariant-loop-last : goal.invariant-loop-last
invariant-loop-last l = record {
  united : (t : Tree Member) → comb_nodes (Some t) ≡ l.nodes → HasUnited t l.rest (map nodes_behind (reverse l.trees.items));
  few : length l.trees.items + length l.rest ≤ length l.nodes;
}

abbrev pub decreases-loop-last : goal.decreases-loop-last
decreases-loop-last l = length l.rest
