use Rattle.mged_words.proofs.OrderLaws.{line_told, names_first}
use Rattle.mged_words.proofs.laws.order_laws.Goals as goal

pub returns-clause-order : goal.returns-clause-order
returns-clause-order c = line_told

pub returns-clause-names : goal.returns-clause-names
returns-clause-names c = names_first
