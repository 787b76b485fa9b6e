use Rattle.std.proofs.Common.{◌≡◌, List, IfOk, sym, subst}
use Rattle.name_core.specs.declared.name.Name.{Name}
use Rattle.command_set.specs.declared.command.Query.{Query}
use Rattle.session_run.specs.Replies.{found, slant_of, within_quota}
use Rattle.session_run.proofs.answer.look.Goals as goal

pub returns-in-Slant-clause-outcome : goal.returns-in-Slant-clause-outcome
returns-in-Slant-clause-outcome c =
    subst (λ (q : Query). IfOk c.look_slanted.result (λ outcome. outcome ≡ within_quota c.args.used (found c.args.directory.now q))) (sym c.in-Slant.is)
    (subst (λ (ns : List Name). IfOk c.look_slanted.result (λ outcome. outcome ≡ within_quota c.args.used (slant_of c.args.directory.now.objects c.in-Slant.ray ns)))
    c.items-in-Slant.ensures.value c.look_slanted.ensures.outcome)
