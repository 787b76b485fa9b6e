use Rattle.std.proofs.Common.{subst}
use Rattle.lattice_core.specs.declared.boxes.Box3.{Box3}
use Rattle.lattice_core.specs.Spans.{IsTidyOf}
use Rattle.lattice_core.proofs.Boxing.{meet_tidy, tidy_is}
use Rattle.lattice_core.proofs.boxes.meet.Goals as goal

pub returns-clause-meet : goal.returns-clause-meet
returns-clause-meet c =
    meet_tidy c.args.a.now c.args.b.now c.tidy.result
    (subst (λ (b : Box3). IsTidyOf b c.tidy.result) c.meet_of_spans.ensures c.tidy.ensures)

pub returns-clause-tidy : goal.returns-clause-tidy
returns-clause-tidy c = tidy_is c.meet_of_spans.result c.tidy.result c.tidy.ensures
