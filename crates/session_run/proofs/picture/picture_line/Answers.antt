use Rattle.put_form.proofs.OneLine.{name_lacks}
use Rattle.session_run.proofs.PictureLaws.{picture_plain}
use Rattle.session_run.proofs.picture.picture_line.Goals as goal

pub returns-clause-one_line : goal.returns-clause-one_line
returns-clause-one_line c = picture_plain c.args.file.now c.args.view.now c.args.shot c.args.reused (name_lacks c.args.file.now c.bytes-name.ensures.named)
