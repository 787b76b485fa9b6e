use Rattle.std.proofs.Common.{ℕ, ◌==◌, List, length, map, refl, rules, tests}
use Rattle.std.proofs.lemmas.Iterator.{YieldsList-from_range}
use Rattle.std.proofs.lemmas.Iterator.Search.{all_from_yields_List}
use Rattle.transcript.specs.Merge.{Entry, lane}
use Rattle.command_set.specs.declared.command.Command.{Command}
use Rattle.mged_words.specs.Entries.{command_entry}
use Rattle.script_run.specs.Orders.{times}
use Rattle.script_run.proofs.order.has_each_command.Goals as goal

pub returns : goal.returns
returns c =
    let order : List ℕ = c.args.order.now in
    let commands : List (Entry Command) = map command_entry c.args.script.now in
    all_from_yields_List (λ session. times order session == length (lane commands session)) _ _ c.all.result c.all.ensures.ran (YieldsList-from_range 1 9 8 refl refl)
    (λ x b q k. search (rules, tests))
