use Rattle.std.proofs.Common.{arith, sym, None, Some}
use Rattle.object_pages.proofs.TallyLemmas.{leaves_given, no_counts}
use Rattle.object_pages.proofs.references.References.put.Goals as goal

pub returns-then-len-eq0 : goal.returns-then-len-eq0
returns-then-len-eq0 c =
    leaves_given c.self.inside.tallies c.args.self c.in_ok-tallies.tallies c.args.name.now None c.args.tally (sym (no_counts c.args.tally (omega (arith, c.len.ensures.value)))) c.self.view_is c.in_ok-tallies.ensures

pub returns : goal.returns
returns c =
    leaves_given c.self.inside.tallies c.args.self c.in_ok-tallies-2.tallies c.args.name.now (Some c.in_ok-shared.shared) c.args.tally c.in_ok-shared.ensures c.self.view_is c.in_ok-tallies-2.ensures
