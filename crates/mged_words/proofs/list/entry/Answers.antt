use Rattle.std.proofs.Common.{ap}
use Rattle.lattice_core.specs.declared.placement.Placement.{Placement}
use Rattle.comb_tree.specs.declared.node.ListEntry.{ListEntry}
use Rattle.mged_words.proofs.ListLaws.{still}
use Rattle.mged_words.proofs.list.entry.Goals as goal

pub returns : goal.returns
returns c =
    ap (λ (by : Placement). let e : ListEntry = record { op = c.args.op; name = c.args.name; placement = by } in e) (still c.identity.result c.identity.ensures.turn c.identity.ensures.shift)
