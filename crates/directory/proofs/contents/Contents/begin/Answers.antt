use Rattle.directory.proofs.ContentsLemmas.{begins}
use Rattle.directory.proofs.contents.Contents.begin.Goals as goal

pub returns-clause-begins : goal.returns-clause-begins
returns-clause-begins c = begins c.self.inside.list c.in_ok-list.list c.self.inside.depths c.in_ok-depths.depths c.new.result c.self.invariant c.in_ok-list.ensures c.in_ok-depths.ensures c.new.ensures
