use Rattle.session_run.proofs.SessionLaws.{current_next}
use Rattle.session_run.proofs.session.Course.next.Goals as goal

pub returns-clause-current : goal.returns-clause-current
returns-clause-current g c =
    let next = c.edit.ensures c.args.self.now.own in
    current_next c.args.self.now.keep c.args.table.now.told.state next.before _ c.args.pass.now c.edit.new.pass next.adds c.requires.current
