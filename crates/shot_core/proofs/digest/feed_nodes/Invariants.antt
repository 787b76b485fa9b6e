use Rattle.std.proofs.Common.{◌≡◌, length, take, fold, flat_map}
use Rattle.std.specs.Hash as fed
use Rattle.shot_core.specs.Digests.{node_input}
use Rattle.shot_core.proofs.digest.feed_nodes.Given as goal

abbrev pub invariant-loop-node : goal.invariant-loop-node
invariant-loop-node g l =
    l.state ≡ fold g.H.Hasher.write (fold g.H.Hasher.write l.fn.state (fed.usize (length l.nodes))) (flat_map node_input (take l.node-index l.nodes))
