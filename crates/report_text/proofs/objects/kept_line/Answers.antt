use Rattle.std.proofs.Common.{◌∙◌, ◌++◌, ap, subst, sym}
use Rattle.transcript.specs.Lines.{Lacks}
use Rattle.put_form.specs.Written.{kept_line}
use Rattle.put_form.proofs.OneLine.{kept_lacks}
use Rattle.report_text.proofs.objects.kept_line.Goals as goal

pub returns-clause-one_line : goal.returns-clause-one_line
returns-clause-one_line c =
    let line = kept_line c.args.name.now c.args.kept.now in
    subst (Lacks 10) (sym (c.in_ok-push_kept_line.ensures.ok ∙ ap (λ text. text ++ line) c.new-line.ensures.items))
    (kept_lacks c.args.name.now c.args.kept.now c.bytes-bytes.ensures.named c.recall_keys.ensures c.requires)
