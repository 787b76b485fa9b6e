use Rattle.answer_laws.proofs.ViewLaws.{views_are_true}
use Rattle.answer_laws.proofs.view_answer_law.Goals as goal

pub returns : goal.returns
returns c = views_are_true
