use Rattle.std.proofs.Common.{◌≡◌, List, IfOk, sym, subst}
use Rattle.name_core.specs.declared.name.Name.{Name}
use Rattle.command_set.specs.declared.command.Shoot.{Shoot}
use Rattle.session_run.specs.Replies.{within_quota, area_of, check_of, edge_of, viewed}
use Rattle.session_run.proofs.answer.look_from.Goals as goal

pub returns-in-Check-clause-outcome : goal.returns-in-Check-clause-outcome
returns-in-Check-clause-outcome g c =
    subst (λ (s : Shoot). IfOk c.look_for_overlaps.result (λ outcome. outcome ≡ within_quota c.args.used (viewed c.args.directory.now c.args.tiles.now s))) (sym c.in-Check.is)
    (subst (λ (ns : List Name). IfOk c.look_for_overlaps.result (λ outcome. outcome ≡ within_quota c.args.used (check_of c.args.directory.now.objects c.in-Check.view ns)))
    c.items-in-Check.ensures.value c.look_for_overlaps.ensures.outcome)

pub returns-in-Area-clause-outcome : goal.returns-in-Area-clause-outcome
returns-in-Area-clause-outcome g c =
    subst (λ (s : Shoot). IfOk c.look_at_areas.result (λ outcome. outcome ≡ within_quota c.args.used (viewed c.args.directory.now c.args.tiles.now s))) (sym c.in-Area.is)
    (subst (λ (ns : List Name). IfOk c.look_at_areas.result (λ outcome. outcome ≡ within_quota c.args.used (area_of c.args.directory.now.objects c.in-Area.view ns)))
    c.items-in-Area.ensures.value c.look_at_areas.ensures.outcome)

pub returns-in-Edge-clause-outcome : goal.returns-in-Edge-clause-outcome
returns-in-Edge-clause-outcome g c =
    subst (λ (s : Shoot). IfOk c.look_at_edges.result (λ outcome. outcome ≡ within_quota c.args.used (viewed c.args.directory.now c.args.tiles.now s))) (sym c.in-Edge.is)
    (subst (λ (ns : List Name). IfOk c.look_at_edges.result (λ outcome. outcome ≡ within_quota c.args.used (edge_of c.args.directory.now.objects c.in-Edge.file c.in-Edge.view ns)))
    c.items-in-Edge.ensures.value c.look_at_edges.ensures.outcome)
