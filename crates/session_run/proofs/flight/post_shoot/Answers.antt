use Rattle.std.proofs.Common.{◌≡◌, List, Err, IfOk, MatchResult, sym, subst}
use Rattle.name_core.specs.declared.name.Name.{Name}
use Rattle.command_set.specs.declared.command.Command.TheVariants.{Shoot as IsShoot}
use Rattle.command_set.specs.declared.command.Shoot.{Shoot}
use Rattle.command_set.specs.declared.command.Shoot.TheVariants.{Check}
use Rattle.session_run.specs.Flights.{Flies}
use Rattle.session_run.specs.Replies.{Outcome, outcome_of}
use Rattle.session_run.proofs.flight.post_shoot.Goals as goal

pub returns-in-Check-clause-posted : goal.returns-in-Check-clause-posted
returns-in-Check-clause-posted g c =
    let d = c.args.directory.now in
    let own = c.args.own.now in
    subst (λ (s : Shoot). IfOk c.post_overlaps.result (λ posted. MatchResult posted (Flies d own (IsShoot s)) (λ refusal. ◌≡◌ {A = Outcome} (Err refusal) (outcome_of d own (IsShoot s))))) (sym c.in-Check.is)
    (subst (λ (ns : List Name). IfOk c.post_overlaps.result (λ posted. MatchResult posted (Flies d own (IsShoot (Check c.in-Check.view ns))) (λ refusal. ◌≡◌ {A = Outcome} (Err refusal) (outcome_of d own (IsShoot (Check c.in-Check.view ns))))))
    c.items-names-in-Check.ensures.value c.post_overlaps.ensures.posted)
