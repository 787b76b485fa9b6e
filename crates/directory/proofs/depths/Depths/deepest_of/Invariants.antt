use Rattle.std.proofs.Common.{◌≡◌, map, take}
use Rattle.object_pages.specs.Members.{node_names}
use Rattle.directory.specs.Walks.{greatest_of}
use Rattle.directory.specs.Depths.{depth_kept}
use Rattle.directory.proofs.depths.Depths.deepest_of.Given as goal

abbrev pub invariant-loop-node : goal.invariant-loop-node
invariant-loop-node l = l.most ≡ greatest_of (map (depth_kept l.self) (node_names (take l.node-index l.nodes)))
