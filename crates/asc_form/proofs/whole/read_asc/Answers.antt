use Rattle.std.proofs.Common.{◌≢◌, Err, rules}
use Rattle.asc_form.specs.declared.fault.AscFault.{AscFault}
use Rattle.asc_form.proofs.ProgressLaws.{end_of_reading}
use Rattle.asc_form.proofs.whole.read_asc.Goals as goal

pub returns : goal.returns
returns c =
    let apart : c.read_commands-read.result ≢ Err AscFault.Memory = search rules in
    end_of_reading c.args.text.now c.read_commands-read.new.reader c.read_commands-read.result c.end.result apart c.read_commands-read.ensures c.end.ensures
