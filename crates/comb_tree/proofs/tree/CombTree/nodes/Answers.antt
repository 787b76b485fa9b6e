use Rattle.std.proofs.Common.{arith, ap, length}
use Rattle.comb_tree.specs.Nodes.{comb_of}
use Rattle.comb_tree.proofs.Changed.{nodes_short}
use Rattle.comb_tree.proofs.tree.CombTree.nodes.Goals as goal

pub returns-clause-short : goal.returns-clause-short
returns-clause-short c =
    omega (arith, nodes_short (comb_of c.self.inside.nodes.items), ap length c.self.invariant.0, ap length c.deref.ensures.value, c.self.invariant.1)
