use Rattle.std.proofs.Common.{◌≡◌, ◌∙◌, ℕ, List, Some, Ok, map, string_bytes, subst, sym, ap, refl}
use Rattle.option_words.specs.Grammar.{asked_of}
use Rattle.mged_words.specs.Entries.{command_entry}
use Rattle.mged_words.specs.declared.command.ScriptCommand.{ScriptCommand}
use Rattle.mged_top.specs.Calls.{Explains}
use Rattle.mged_top.specs.Outside.{outside}
use Rattle.mged_top.specs.Stages.{CanOrder, IsOrderStop, files_among}
use Rattle.mged_top.specs.declared.status.Status.{Status}
use Rattle.script_run.specs.Runs.{IsOrderedRun}
use Rattle.mged_top.proofs.CallLaws.{advances_none, stays_none, order_stopped, no_memory, ran_ordered, stays_both, writes_from, explained, completed}
use Rattle.mged_top.proofs.main_call.replay_mged.Goals as goal

pub returns-in-Err-Memory-clause-explained : goal.returns-in-Err-Memory-clause-explained
returns-in-Err-Memory-clause-explained g c = λ replays.
    let texts : List (List ℕ) = map string_bytes c.args.words.now.items in
    let left = g.S.Source.left c.args.source.now in
    let held = g.K.Sink.held c.args.sink.now in
    let files = g.F.Shelf.files c.args.shelf.now in
    let puts = g.F.Shelf.puts c.args.shelf.now in
    let reads = g.S.Source.faults c.args.source.now in
    let writes = g.K.Sink.faults c.args.sink.now in
    let calls = g.F.Shelf.faults c.args.shelf.now in
    no_memory texts left left held files files puts puts reads reads writes calls calls (advances_none left) (stays_none files) (stays_none puts) refl refl

pub returns-in-Err-clause-explained : goal.returns-in-Err-clause-explained
returns-in-Err-clause-explained g c = λ replays.
    let texts : List (List ℕ) = map string_bytes c.args.words.now.items in
    let left = g.S.Source.left c.args.source.now in
    let held = g.K.Sink.held c.args.sink.now in
    let files = g.F.Shelf.files c.args.shelf.now in
    let puts = g.F.Shelf.puts c.args.shelf.now in
    let reads = g.S.Source.faults c.args.source.now in
    let writes = g.K.Sink.faults c.args.sink.now in
    let calls = g.F.Shelf.faults c.args.shelf.now in
    c.in-Err.ensures.stopped texts c.in-Ok.options.replay c.in-Ok.options.workers held writes c.in-Ok.ensures.options

pub returns-in-Err-clause-complete : goal.returns-in-Err-clause-complete
returns-in-Err-clause-complete g c = λ replays.
    let texts : List (List ℕ) = map string_bytes c.args.words.now.items in
    let left = g.S.Source.left c.args.source.now in
    let held = g.K.Sink.held c.args.sink.now in
    let files = g.F.Shelf.files c.args.shelf.now in
    let puts = g.F.Shelf.puts c.args.shelf.now in
    let reads = g.S.Source.faults c.args.source.now in
    let writes = g.K.Sink.faults c.args.sink.now in
    let calls = g.F.Shelf.faults c.args.shelf.now in
    let left' = g.S.Source.left c.read_inputs.new.source in
    let reads' = g.S.Source.faults c.read_inputs.new.source in
    let files' = g.F.Shelf.files c.read_inputs.new.shelf in
    let puts' = g.F.Shelf.puts c.read_inputs.new.shelf in
    let calls' = g.F.Shelf.faults c.read_inputs.new.shelf in
    completed c.in-Err.status texts (outside left held files puts reads writes calls) (outside left' held files' puts' reads' writes calls') (c.in-Err.ensures.stopped texts c.in-Ok.options.replay c.in-Ok.options.workers held writes c.in-Ok.ensures.options)

pub returns-in-Err-clause-unasked : goal.returns-in-Err-clause-unasked
returns-in-Err-clause-unasked g c = λ is.
    absurd (c.in-Err.ensures.understood is)

pub returns-in-Err-order_of-clause-explained : goal.returns-in-Err-order_of-clause-explained
returns-in-Err-order_of-clause-explained g c = λ replays.
    let texts : List (List ℕ) = map string_bytes c.args.words.now.items in
    let left = g.S.Source.left c.args.source.now in
    let held = g.K.Sink.held c.args.sink.now in
    let files = g.F.Shelf.files c.args.shelf.now in
    let puts = g.F.Shelf.puts c.args.shelf.now in
    let reads = g.S.Source.faults c.args.source.now in
    let writes = g.K.Sink.faults c.args.sink.now in
    let calls = g.F.Shelf.faults c.args.shelf.now in
    let left' = g.S.Source.left c.read_inputs.new.source in
    let reads' = g.S.Source.faults c.read_inputs.new.source in
    let files' = g.F.Shelf.files c.read_inputs.new.shelf in
    let puts' = g.F.Shelf.puts c.read_inputs.new.shelf in
    let calls' = g.F.Shelf.faults c.read_inputs.new.shelf in
    let files'' = g.F.Shelf.files c.order_of.new.shelf in
    let puts'' = g.F.Shelf.puts c.order_of.new.shelf in
    let calls'' = g.F.Shelf.faults c.order_of.new.shelf in
    let asked : asked_of texts ≡ Some (record { model = c.in-Ok.options.model; replay = Some c.in-Some.name; workers = c.in-Ok.options.workers }) = c.in-Ok.ensures.options ∙ ap (λ replay. Some (record { model = c.in-Ok.options.model; replay = replay; workers = c.in-Ok.options.workers })) c.in-Some.is in
    let stop = subst (λ (cs : List ScriptCommand). IsOrderStop c.in-Err-order_of.stop files' c.in-Some.name (map command_entry cs)) c.items-commands.ensures c.in-Err-order_of.ensures.refused in
    subst (λ (status : Status). Explains status texts (outside left held files puts reads writes calls) (outside left' held files'' puts'' reads' writes calls'')) (sym c.status.ensures)
    (order_stopped c.in-Err-order_of.stop texts left left' held files files' files'' puts puts' puts'' reads reads' writes calls calls' calls'' c.in-Ok.options.model c.in-Some.name c.in-Ok.options.workers c.in-Ok-read_inputs.inputs.directory (map command_entry c.in-Ok-read_inputs.inputs.commands)
    asked c.in-Ok-read_inputs.ensures.read stop c.in-Ok-read_inputs.ensures.advances c.in-Ok-read_inputs.ensures.files_stay c.in-Err-order_of.ensures.files_stay c.in-Ok-read_inputs.ensures.puts_stay c.in-Err-order_of.ensures.puts_stay
    c.in-Ok-read_inputs.ensures.reads c.in-Ok-read_inputs.ensures.calls c.in-Err-order_of.ensures.steady c.in-Err-order_of.ensures.rose)

pub returns-in_default-run_in_order-clause-explained : goal.returns-in_default-run_in_order-clause-explained
returns-in_default-run_in_order-clause-explained g c = λ replays.
    let texts : List (List ℕ) = map string_bytes c.args.words.now.items in
    let left = g.S.Source.left c.args.source.now in
    let held = g.K.Sink.held c.args.sink.now in
    let files = g.F.Shelf.files c.args.shelf.now in
    let puts = g.F.Shelf.puts c.args.shelf.now in
    let reads = g.S.Source.faults c.args.source.now in
    let writes = g.K.Sink.faults c.args.sink.now in
    let calls = g.F.Shelf.faults c.args.shelf.now in
    let left' = g.S.Source.left c.read_inputs.new.source in
    let reads' = g.S.Source.faults c.read_inputs.new.source in
    let files' = g.F.Shelf.files c.read_inputs.new.shelf in
    let puts' = g.F.Shelf.puts c.read_inputs.new.shelf in
    let calls' = g.F.Shelf.faults c.read_inputs.new.shelf in
    let files'' = g.F.Shelf.files c.order_of.new.shelf in
    let puts'' = g.F.Shelf.puts c.order_of.new.shelf in
    let calls'' = g.F.Shelf.faults c.order_of.new.shelf in
    let files_stay = stays_both files files' files'' c.in-Ok-read_inputs.ensures.files_stay c.in-Ok-order_of.ensures.files_stay in
    let puts_stay = stays_both puts puts' puts'' c.in-Ok-read_inputs.ensures.puts_stay c.in-Ok-order_of.ensures.puts_stay in
    let same = c.in-Ok-order_of.ensures.steady (λ e. absurd cc) ∙ c.in-Ok-read_inputs.ensures.calls in
    no_memory texts left left' held files files'' puts puts'' reads reads' writes calls calls'' c.in-Ok-read_inputs.ensures.advances files_stay puts_stay c.in-Ok-read_inputs.ensures.reads same

pub returns-clause-explained : goal.returns-clause-explained
returns-clause-explained g c = λ replays.
    let texts : List (List ℕ) = map string_bytes c.args.words.now.items in
    let left = g.S.Source.left c.args.source.now in
    let held = g.K.Sink.held c.args.sink.now in
    let files = g.F.Shelf.files c.args.shelf.now in
    let puts = g.F.Shelf.puts c.args.shelf.now in
    let reads = g.S.Source.faults c.args.source.now in
    let writes = g.K.Sink.faults c.args.sink.now in
    let calls = g.F.Shelf.faults c.args.shelf.now in
    let left' = g.S.Source.left c.read_inputs.new.source in
    let reads' = g.S.Source.faults c.read_inputs.new.source in
    let files' = g.F.Shelf.files c.read_inputs.new.shelf in
    let puts' = g.F.Shelf.puts c.read_inputs.new.shelf in
    let calls' = g.F.Shelf.faults c.read_inputs.new.shelf in
    let files'' = g.F.Shelf.files c.order_of.new.shelf in
    let puts'' = g.F.Shelf.puts c.order_of.new.shelf in
    let calls'' = g.F.Shelf.faults c.order_of.new.shelf in
    let asked : asked_of texts ≡ Some (record { model = c.in-Ok.options.model; replay = Some c.in-Some.name; workers = c.in-Ok.options.workers }) = c.in-Ok.ensures.options ∙ ap (λ replay. Some (record { model = c.in-Ok.options.model; replay = replay; workers = c.in-Ok.options.workers })) c.in-Some.is in
    let files_stay = stays_both files files' files'' c.in-Ok-read_inputs.ensures.files_stay c.in-Ok-order_of.ensures.files_stay in
    let puts_stay = stays_both puts puts' puts'' c.in-Ok-read_inputs.ensures.puts_stay c.in-Ok-order_of.ensures.puts_stay in
    let same = c.in-Ok-order_of.ensures.steady (λ e. absurd cc) ∙ c.in-Ok-read_inputs.ensures.calls in
    let run = c.in-Ok-run_in_order.run' in
    let held' = g.K.Sink.held c.write_run.new.sink in
    let writes' = g.K.Sink.faults c.write_run.new.sink in
    let files-last = g.F.Shelf.files c.write_run.new.shelf in
    let puts-last = g.F.Shelf.puts c.write_run.new.shelf in
    let calls-last = g.F.Shelf.faults c.write_run.new.shelf in
    let bytes = run.text.items in
    let put = files_among run.order.items run.answers.items in
    let start = c.in-Ok-read_inputs.inputs.directory in
    let commands = map command_entry c.in-Ok-read_inputs.inputs.commands in
    let asked_order = c.in-Ok-order_of.order.items in
    let is_run = subst (λ (cs : List ScriptCommand). IsOrderedRun start (map command_entry cs) asked_order bytes run.order.items run.answers.items run.some_refused) c.items-commands.ensures c.in-Ok-run_in_order.ensures.run in
    let can = subst (λ (cs : List ScriptCommand). CanOrder files' c.in-Some.name (map command_entry cs) (Ok (Some asked_order))) c.items-commands.ensures c.in-Ok-order_of.ensures.order in
    explained texts left left' held held' files files-last puts puts-last reads reads' writes writes' calls calls-last bytes put c.write_run.result run.some_refused
    (ran_ordered texts (outside left held files puts reads writes calls) (outside left' held' files-last puts-last reads' writes' calls-last) files' c.in-Ok.options.model c.in-Some.name c.in-Ok.options.workers start commands asked_order bytes run.order.items run.answers.items run.some_refused
    asked c.in-Ok-read_inputs.ensures.read c.in-Ok-read_inputs.ensures.files_stay can is_run.run is_run.in_order)
    c.in-Ok-read_inputs.ensures.reads
    (writes_from held held' files files'' files-last puts puts'' puts-last writes writes' calls calls'' calls-last bytes put files_stay puts_stay same c.write_run.result run.some_refused c.write_run.ensures)
