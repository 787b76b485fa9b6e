use Rattle.std.proofs.Common.{◌∙◌}
use Rattle.std.proofs.lemmas.Result.{IfOk-weaker}
use Rattle.object_set.proofs.Noted.{kept_again}
use Rattle.object_set.proofs.keeping.kept_with.Goals as goal

pub returns : goal.returns
returns c =
    IfOk-weaker c.list_of.result _ _
    (λ v h. h ∙ kept_again c.args.kept.now c.args.pairs.now c.new-noted.result.entries c.note_all.new.noted.entries c.note_all-2.new.noted.entries c.requires c.new-noted.ensures.empty c.in_ok-note_all.ensures c.in_ok-note_all-2.ensures)
    c.list_of.ensures
