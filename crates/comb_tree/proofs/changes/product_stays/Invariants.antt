use Rattle.std.proofs.Common.{◌≡◌, drop}
use Rattle.std.specs.HashSet.{contains}
use Rattle.name_core.specs.Same.{same_name}
use Rattle.comb_tree.specs.Steps.{rest_stays}
use Rattle.comb_tree.proofs.changes.product_stays.Given as goal

abbrev pub invariant-loop-entry : goal.invariant-loop-entry
invariant-loop-entry l = rest_stays (contains same_name l.gone) (drop l.entry-index l.list) ≡ rest_stays (contains same_name l.gone) l.list
