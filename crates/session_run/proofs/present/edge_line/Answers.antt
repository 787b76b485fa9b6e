use Rattle.put_form.proofs.OneLine.{name_lacks}
use Rattle.session_run.proofs.PresentLaws.{edge_plain}
use Rattle.session_run.proofs.present.edge_line.Goals as goal

pub returns-clause-one_line : goal.returns-clause-one_line
returns-clause-one_line c = edge_plain c.args.file.now c.args.view.now c.args.white (name_lacks c.args.file.now c.bytes-name.ensures.named)
