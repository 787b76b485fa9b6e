use Rattle.std.proofs.Common.{sym, subst, arith}
use Rattle.std.proofs.lemmas.Int.{ints}
use Rattle.lattice_core.specs.Limits.{IsWithin}
use Rattle.lattice_core.proofs.Turning.{turned_within}
use Rattle.lattice_core.specs.declared.limit.TheConstants.{COORD, PLACED}
use Rattle.prim_arb8.proofs.bounds.placed_point.Goals as goal

pub returns-clause-size : goal.returns-clause-size
returns-clause-size c =
    let t = turned_within COORD c.args.by.now.turn.number c.args.p c.args.by.now.turn.in_range c.requires.point in
    let s = c.requires.shift in
    subst (IsWithin PLACED) (sym c.place.ensures) (record {
      x = (omega (arith, ints, t.x.0, s.x.0), omega (arith, ints, t.x.1, s.x.1));
      y = (omega (arith, ints, t.y.0, s.y.0), omega (arith, ints, t.y.1, s.y.1));
      z = (omega (arith, ints, t.z.0, s.z.0), omega (arith, ints, t.z.1, s.z.1));
    })
