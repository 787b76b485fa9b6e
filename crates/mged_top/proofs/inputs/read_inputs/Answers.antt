use Rattle.std.proofs.Common.{subst, sym}
use Rattle.mged_top.specs.Calls.{Explains}
use Rattle.mged_top.specs.Outside.{outside}
use Rattle.mged_top.specs.declared.status.Status.{Status}
use Rattle.mged_top.proofs.CallLaws.{has_read, load_stopped, script_stopped}
use Rattle.mged_top.proofs.inputs.read_inputs.Goals as goal

pub returns-in-Err-clause-stopped : goal.returns-in-Err-clause-stopped
returns-in-Err-clause-stopped g c = λ words replay workers held writes asked.
    let left = g.S.Source.left c.args.source.now in
    let files = g.F.Shelf.files c.args.shelf.now in
    let puts = g.F.Shelf.puts c.args.shelf.now in
    let reads = g.S.Source.faults c.args.source.now in
    let calls = g.F.Shelf.faults c.args.shelf.now in
    let files' = g.F.Shelf.files c.load.new.shelf in
    let puts' = g.F.Shelf.puts c.load.new.shelf in
    let calls' = g.F.Shelf.faults c.load.new.shelf in
    subst (λ (status : Status). Explains status words (outside left held files puts reads writes calls) (outside left held files' puts' reads writes calls')) (sym c.status.ensures)
    (load_stopped c.in-Err.stop words left held files files' puts puts' reads writes calls calls' c.args.model replay workers asked c.in-Err.ensures.load
    c.in-Err.ensures.files_stay c.in-Err.ensures.puts_stay c.in-Err.ensures.steady c.in-Err.ensures.rose)

pub returns-in-Err-commands_of-clause-stopped : goal.returns-in-Err-commands_of-clause-stopped
returns-in-Err-commands_of-clause-stopped g c = λ words replay workers held writes asked.
    let left = g.S.Source.left c.args.source.now in
    let files = g.F.Shelf.files c.args.shelf.now in
    let puts = g.F.Shelf.puts c.args.shelf.now in
    let reads = g.S.Source.faults c.args.source.now in
    let calls = g.F.Shelf.faults c.args.shelf.now in
    let files' = g.F.Shelf.files c.load.new.shelf in
    let puts' = g.F.Shelf.puts c.load.new.shelf in
    let calls' = g.F.Shelf.faults c.load.new.shelf in
    let left' = g.S.Source.left c.commands_of.new.source in
    let reads' = g.S.Source.faults c.commands_of.new.source in
    subst (λ (status : Status). Explains status words (outside left held files puts reads writes calls) (outside left' held files' puts' reads' writes calls')) (sym c.status-in-Err-commands_of.ensures)
    (script_stopped c.in-Err-commands_of.stop words left left' held files files' puts puts' reads reads' writes calls calls' c.args.model replay workers c.in-Ok.start.script c.in-Ok.start.directory asked (sym c.in-Ok.ensures.load.1) c.in-Ok.ensures.load.0
    c.in-Err-commands_of.ensures.read c.in-Err-commands_of.ensures.advances c.in-Ok.ensures.files_stay c.in-Ok.ensures.puts_stay (c.in-Ok.ensures.steady (λ e. absurd cc))
    c.in-Err-commands_of.ensures.steady c.in-Err-commands_of.ensures.rose)

pub returns-clause-read : goal.returns-clause-read
returns-clause-read g c =
    has_read c.args.model c.in-Ok.start.script (g.F.Shelf.files c.args.shelf.now) (g.S.Source.left c.args.source.now) (g.S.Source.left c.commands_of.new.source) c.in-Ok.start.directory c.in-Ok-commands_of.commands
    (sym c.in-Ok.ensures.load.1) c.in-Ok.ensures.load.0 c.in-Ok-commands_of.ensures.read
