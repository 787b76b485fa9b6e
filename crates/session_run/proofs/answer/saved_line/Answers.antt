use Rattle.std.proofs.Common.{◌≡◌, ◌++◌, ◌∙◌, ap, ap₂, codes, refl, sym, subst}
use Rattle.transcript.specs.Lines.{Lacks}
use Rattle.transcript.proofs.LineLaws.{lacks_append}
use Rattle.transcript.proofs.TranscriptLaws.{computed}
use Rattle.put_form.proofs.OneLine.{name_lacks}
use Rattle.session_run.proofs.answer.saved_line.Goals as goal

pub push_line-requires-clause-one_line : goal.push_line-requires-clause-one_line
push_line-requires-clause-one_line c =
    let first : c.extend_from_slice.new.self.items ≡ codes "saved " = c.in_ok-extend_from_slice.ensures.items ∙ ap (λ l. l ++ codes "saved ") c.new-line.ensures.items in
    let whole : c.deref.result.now ≡ codes "saved " ++ c.args.file.now = c.deref.ensures.value ∙ c.in_ok-extend_from_slice-2.ensures.items ∙ ap₂ ◌++◌ first c.bytes.ensures.value in
    subst (Lacks 10) (sym whole) (lacks_append 10 (codes "saved ") c.args.file.now (computed 10 (codes "saved ") refl) (name_lacks c.args.file.now c.bytes.ensures.named))
