use Rattle.std.proofs.lemmas.Result.{IfOk-weaker}
use Rattle.session_run.proofs.answer.look_at_picture.Goals as goal

pub returns-in-Err-clause-tiles : goal.returns-in-Err-clause-tiles
returns-in-Err-clause-tiles g c = IfOk-weaker c.refused.result _ _ (λ o h. h _ _) c.refused.ensures.tiles
