use Rattle.script_run.proofs.OrderLaws.{first_line, merge_unique, one_outcome, transcript_named}
use Rattle.script_run.proofs.order.order_laws.Goals as goal

pub returns-clause-named : goal.returns-clause-named
returns-clause-named c = λ order answers. transcript_named order answers

pub returns-clause-held : goal.returns-clause-held
returns-clause-held c = first_line

pub returns-clause-alone : goal.returns-clause-alone
returns-clause-alone c = λ k commands order own merges. merge_unique commands k own order merges

pub returns-clause-same : goal.returns-clause-same
returns-clause-same c = one_outcome
