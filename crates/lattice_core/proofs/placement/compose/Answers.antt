use Rattle.lattice_core.specs.declared.placement.Placement.{Placement}
use Rattle.lattice_core.proofs.Placing.{composed_is}
use Rattle.lattice_core.proofs.placement.compose.Goals as goal

pub returns : goal.returns
returns c =
    let both : Placement = record { turn = c.after.result; shift = c.place.result } in
    composed_is both c.args.upper c.args.lower c.args.upper.turn.in_range c.after.ensures c.place.ensures
