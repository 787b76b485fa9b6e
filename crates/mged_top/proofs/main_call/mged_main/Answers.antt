use Rattle.std.proofs.Common.{◌≡◌, ◌∙◌, ℕ, List, Some, None, Err, map, string_bytes, subst, sym, ap}
use Rattle.option_words.specs.Grammar.{asked_of}
use Rattle.option_words.specs.Reading.{IsOptions}
use Rattle.option_words.specs.declared.fault.OptionsFault.{OptionsFault}
use Rattle.mged_words.specs.Entries.{command_entry}
use Rattle.mged_words.specs.declared.command.ScriptCommand.{ScriptCommand}
use Rattle.mged_top.specs.Outside.{outside}
use Rattle.mged_top.specs.Stages.{IsRun, files_among}
use Rattle.mged_top.proofs.CallLaws.{no_options, no_memory, ran_free, writes_from, explained, completed, none_asked}
use Rattle.mged_top.proofs.main_call.mged_main.Goals as goal

pub returns-in-Err-Usage-clause-explained : goal.returns-in-Err-Usage-clause-explained
returns-in-Err-Usage-clause-explained g c =
    let texts : List (List ℕ) = map string_bytes c.args.words.now.items in
    let left = g.S.Source.left c.args.source.now in
    let held = g.K.Sink.held c.args.sink.now in
    let files = g.F.Shelf.files c.args.shelf.now in
    let puts = g.F.Shelf.puts c.args.shelf.now in
    let reads = g.S.Source.faults c.args.source.now in
    let writes = g.K.Sink.faults c.args.sink.now in
    let calls = g.F.Shelf.faults c.args.shelf.now in
    no_options texts left held files puts reads writes calls (subst (λ (fault : OptionsFault). IsOptions (Err fault) texts) c.in-Err-Usage.field-0-is c.in-Err-Usage.ensures.options)

pub returns-in-Err-clause-explained : goal.returns-in-Err-clause-explained
returns-in-Err-clause-explained g c =
    let texts : List (List ℕ) = map string_bytes c.args.words.now.items in
    let left = g.S.Source.left c.args.source.now in
    let held = g.K.Sink.held c.args.sink.now in
    let files = g.F.Shelf.files c.args.shelf.now in
    let puts = g.F.Shelf.puts c.args.shelf.now in
    let reads = g.S.Source.faults c.args.source.now in
    let writes = g.K.Sink.faults c.args.sink.now in
    let calls = g.F.Shelf.faults c.args.shelf.now in
    c.in-Err.ensures.stopped texts c.in-Ok.options.replay c.in-Ok.options.workers held writes c.in-Ok.ensures.options

pub returns-in-Err-clause-complete : goal.returns-in-Err-clause-complete
returns-in-Err-clause-complete g c =
    let texts : List (List ℕ) = map string_bytes c.args.words.now.items in
    let left = g.S.Source.left c.args.source.now in
    let held = g.K.Sink.held c.args.sink.now in
    let files = g.F.Shelf.files c.args.shelf.now in
    let puts = g.F.Shelf.puts c.args.shelf.now in
    let reads = g.S.Source.faults c.args.source.now in
    let writes = g.K.Sink.faults c.args.sink.now in
    let calls = g.F.Shelf.faults c.args.shelf.now in
    let left' = g.S.Source.left c.read_inputs.new.source in
    let reads' = g.S.Source.faults c.read_inputs.new.source in
    let files' = g.F.Shelf.files c.read_inputs.new.shelf in
    let puts' = g.F.Shelf.puts c.read_inputs.new.shelf in
    let calls' = g.F.Shelf.faults c.read_inputs.new.shelf in
    completed c.in-Err.status texts (outside left held files puts reads writes calls) (outside left' held files' puts' reads' writes calls') (c.in-Err.ensures.stopped texts c.in-Ok.options.replay c.in-Ok.options.workers held writes c.in-Ok.ensures.options)

pub returns-in-Err-clause-unasked : goal.returns-in-Err-clause-unasked
returns-in-Err-clause-unasked g c = λ is.
    absurd (c.in-Err.ensures.understood is)

pub returns-in_default-clause-explained : goal.returns-in_default-clause-explained
returns-in_default-clause-explained g c =
    let texts : List (List ℕ) = map string_bytes c.args.words.now.items in
    let left = g.S.Source.left c.args.source.now in
    let held = g.K.Sink.held c.args.sink.now in
    let files = g.F.Shelf.files c.args.shelf.now in
    let puts = g.F.Shelf.puts c.args.shelf.now in
    let reads = g.S.Source.faults c.args.source.now in
    let writes = g.K.Sink.faults c.args.sink.now in
    let calls = g.F.Shelf.faults c.args.shelf.now in
    let left' = g.S.Source.left c.read_inputs.new.source in
    let reads' = g.S.Source.faults c.read_inputs.new.source in
    let files' = g.F.Shelf.files c.read_inputs.new.shelf in
    let puts' = g.F.Shelf.puts c.read_inputs.new.shelf in
    let calls' = g.F.Shelf.faults c.read_inputs.new.shelf in
    no_memory texts left left' held files files' puts puts' reads reads' writes calls calls' c.in-Ok-read_inputs.ensures.advances c.in-Ok-read_inputs.ensures.files_stay c.in-Ok-read_inputs.ensures.puts_stay c.in-Ok-read_inputs.ensures.reads c.in-Ok-read_inputs.ensures.calls

pub returns-clause-explained : goal.returns-clause-explained
returns-clause-explained g c =
    let texts : List (List ℕ) = map string_bytes c.args.words.now.items in
    let left = g.S.Source.left c.args.source.now in
    let held = g.K.Sink.held c.args.sink.now in
    let files = g.F.Shelf.files c.args.shelf.now in
    let puts = g.F.Shelf.puts c.args.shelf.now in
    let reads = g.S.Source.faults c.args.source.now in
    let writes = g.K.Sink.faults c.args.sink.now in
    let calls = g.F.Shelf.faults c.args.shelf.now in
    let left' = g.S.Source.left c.read_inputs.new.source in
    let reads' = g.S.Source.faults c.read_inputs.new.source in
    let files' = g.F.Shelf.files c.read_inputs.new.shelf in
    let puts' = g.F.Shelf.puts c.read_inputs.new.shelf in
    let calls' = g.F.Shelf.faults c.read_inputs.new.shelf in
    let asked : asked_of texts ≡ Some (record { model = c.in-Ok.options.model; replay = None; workers = c.in-Ok.options.workers }) = c.in-Ok.ensures.options ∙ ap (λ replay. Some (record { model = c.in-Ok.options.model; replay = replay; workers = c.in-Ok.options.workers })) (none_asked c.in-Ok.options.replay (sym c.is_some.ensures ∙ c.if-is_some.false)) in
    let run = c.in-Ok-run_at_once.run' in
    let held' = g.K.Sink.held c.write_run.new.sink in
    let writes' = g.K.Sink.faults c.write_run.new.sink in
    let files-last = g.F.Shelf.files c.write_run.new.shelf in
    let puts-last = g.F.Shelf.puts c.write_run.new.shelf in
    let calls-last = g.F.Shelf.faults c.write_run.new.shelf in
    let bytes = run.text.items in
    let put = files_among run.order.items run.answers.items in
    let start = c.in-Ok-read_inputs.inputs.directory in
    let commands = map command_entry c.in-Ok-read_inputs.inputs.commands in
    let is_run = subst (λ (cs : List ScriptCommand). IsRun start (map command_entry cs) bytes run.order.items run.answers.items run.some_refused) c.items-commands.ensures c.in-Ok-run_at_once.ensures.run in
    explained texts left left' held held' files files-last puts puts-last reads reads' writes writes' calls calls-last bytes put c.write_run.result run.some_refused
    (ran_free texts (outside left held files puts reads writes calls) (outside left' held' files-last puts-last reads' writes' calls-last) c.in-Ok.options.model c.in-Ok.options.workers start commands bytes run.order.items run.answers.items run.some_refused
    asked c.in-Ok-read_inputs.ensures.read is_run)
    c.in-Ok-read_inputs.ensures.reads
    (writes_from held held' files files' files-last puts puts' puts-last writes writes' calls calls' calls-last bytes put c.in-Ok-read_inputs.ensures.files_stay c.in-Ok-read_inputs.ensures.puts_stay c.in-Ok-read_inputs.ensures.calls c.write_run.result run.some_refused c.write_run.ensures)
