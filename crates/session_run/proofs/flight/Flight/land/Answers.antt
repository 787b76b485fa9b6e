use Rattle.std.proofs.Common.{◌≡◌, ◌≤◌, ◌∙◌, ℕ, ap, sym, subst}
use Rattle.command_set.specs.declared.command.Command.{Command}
use Rattle.directory.specs.Listing.{Listing}
use Rattle.session_run.specs.Own.{OwnState}
use Rattle.session_run.specs.Replies.{Outcome, most_used, outcome_of, used_after}
use Rattle.session_run.proofs.UsedLaws.{used_within}
use Rattle.session_run.proofs.flight.Flight.land.Goals as goal

pub used_with-own-inside-requires : goal.used_with-own-inside-requires
used_with-own-inside-requires g c =
    let d : Listing = c.deref.result.now in
    let command : Command = c.deref-2.result.now in
    let used : c.own.inside.used ≡ c.args.own.now.used = ap (λ (o : OwnState). o.used) c.own.view_is ∙ c.in-Ok.ensures.used in
    subst (λ (o : Outcome). used_after c.own.inside.used o ≤ most_used) (sym c.in-Ok.ensures.outcome)
    (subst (λ (n : ℕ). used_after n (outcome_of d c.args.own.now command) ≤ most_used) (sym used) (used_within d c.args.own.now command c.requires.quota))

pub returns-in-Ok-clause-quota : goal.returns-in-Ok-clause-quota
returns-in-Ok-clause-quota g c =
    let d : Listing = c.deref.result.now in
    let command : Command = c.deref-2.result.now in
    let used : c.own.inside.used ≡ c.args.own.now.used = ap (λ (o : OwnState). o.used) c.own.view_is ∙ c.in-Ok.ensures.used in
    subst (λ (n : ℕ). n ≤ most_used) (sym c.used_with-own-inside.ensures)
    (subst (λ (o : Outcome). used_after c.own.inside.used o ≤ most_used) (sym c.in-Ok.ensures.outcome)
    (subst (λ (n : ℕ). used_after n (outcome_of d c.args.own.now command) ≤ most_used) (sym used) (used_within d c.args.own.now command c.requires.quota)))
