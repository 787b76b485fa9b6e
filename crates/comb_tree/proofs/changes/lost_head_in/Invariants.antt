use Rattle.std.proofs.Common.{◌≡◌, drop}
use Rattle.std.specs.HashSet.{contains}
use Rattle.name_core.specs.Same.{same_name}
use Rattle.comb_tree.specs.Steps.{head_from}
use Rattle.comb_tree.proofs.changes.lost_head_in.Given as goal

abbrev pub invariant-loop-i : goal.invariant-loop-i
invariant-loop-i l = head_from (contains same_name l.gone) (drop l.i l.list) ≡ head_from (contains same_name l.gone) l.list
