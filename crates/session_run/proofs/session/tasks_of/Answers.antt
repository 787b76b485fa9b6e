use Rattle.std.proofs.Common.{◌∙◌, map, map-id, ap, sym, rules}
use Rattle.std.proofs.lemmas.Iterator.Adapters.{YieldsList-from_vec}
use Rattle.std.proofs.lemmas.Iterator.Consumers.{YieldsList-end}
use Rattle.std.specs.Arc.{arc_value}
use Rattle.session_run.proofs.session.tasks_of.Goals as goal

pub returns : goal.returns
returns c =
    let end = YieldsList-end (YieldsList-from_vec {s = c.into_iter-command-iterator.result} c.args.commands.items (search rules) (search rules))
    c.loop-command.yielded c.loop-command.command-iterator c.loop-command.yielded_by c.next.result c.next.new.self c.in-None.is c.next.ensures.steps in
    c.loop-command.invariant ∙ ap (map arc_value) (sym (map-id c.loop-command.yielded) ∙ end.0)
