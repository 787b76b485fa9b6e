use Rattle.std.proofs.lemmas.Slice.Eq.{slice_eq-Decides}
use Rattle.comb_tree.proofs.Equal.{node_decides}
use Rattle.comb_tree.proofs.list.same_nodes.Goals as goal

pub returns : goal.returns
returns c = slice_eq-Decides node_decides _ _ _ c.eq.ensures
