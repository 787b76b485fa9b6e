use Rattle.std.specs.Prelude.{length}
use Rattle.transcript.specs.Merge.{lane}
use Rattle.session_merge.proofs.AnsweredLaws.{answered_longer, answered_more, own_longer, own_more}
use Rattle.session_merge.proofs.CountLaws.{book_of_entries, state_by_version, versions_never_fall}
use Rattle.session_merge.proofs.JoinedLaws.{calls_of_all, joined_next, joined_sessions, lanes_within, sessions_next, total_lanes}
use Rattle.session_merge.proofs.OutcomeLaws.{commands_of_run, readable_outcome, sessions_run}
use Rattle.session_merge.proofs.laws.merge_laws.Goals as goal

pub returns-clause-stays : goal.returns-clause-stays
returns-clause-stays g c = λ rules session start history more places own commands answers all. (
  answered_longer rules session start history more places own commands answers all,
  own_longer rules session start history more places own commands answers all,
)

pub returns-clause-goes_on : goal.returns-clause-goes_on
returns-clause-goes_on g c = λ rules session start history places own commands answers place command answer all at. (
  answered_more rules session start history places own commands answers place command answer all at,
  own_more rules session start history places own commands answers place command answer all,
)

pub returns-clause-one_run : goal.returns-clause-one_run
returns-clause-one_run g c = λ rules start script history places answers are. (
  sessions_run rules start script history places answers are,
  commands_of_run rules start script history places answers are,
)

pub returns-clause-outcome : goal.returns-clause-outcome
returns-clause-outcome g c = readable_outcome

pub returns-clause-counted : goal.returns-clause-counted
returns-clause-counted g c = book_of_entries

pub returns-clause-kept : goal.returns-clause-kept
returns-clause-kept g c = λ rules directory history more. (versions_never_fall rules directory history more, state_by_version rules directory history more)

pub returns-clause-next : goal.returns-clause-next
returns-clause-next g c = joined_next

pub returns-clause-joined : goal.returns-clause-joined
returns-clause-joined g c = joined_sessions

pub returns-clause-calls : goal.returns-clause-calls
returns-clause-calls g c = calls_of_all

pub returns-clause-lanes : goal.returns-clause-lanes
returns-clause-lanes g c = λ es. (total_lanes es, lanes_within es, sessions_next (λ k. length (lane es k)))
