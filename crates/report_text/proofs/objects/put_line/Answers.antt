use Rattle.std.proofs.Common.{◌∙◌, ◌++◌, ap, subst, sym}
use Rattle.transcript.specs.Lines.{Lacks}
use Rattle.put_form.specs.Written.{put_line}
use Rattle.put_form.proofs.OneLine.{put_lacks}
use Rattle.report_text.proofs.objects.put_line.Goals as goal

pub returns-clause-one_line : goal.returns-clause-one_line
returns-clause-one_line c =
    let line = put_line c.args.name.now c.args.body.now in
    subst (Lacks 10) (sym (c.in_ok-push_put_line.ensures.ok ∙ ap (λ text. text ++ line) c.new-line.ensures.items))
    (put_lacks c.args.name.now c.args.body.now c.bytes-bytes.ensures.named c.recall_members.ensures)
