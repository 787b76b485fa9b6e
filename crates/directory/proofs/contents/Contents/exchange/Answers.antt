use Rattle.std.proofs.Common.{◌≡◌, ◌∙◌, ap}
use Rattle.directory.specs.Walks.{Entries}
use Rattle.directory.specs.Edits.{replaced}
use Rattle.directory.proofs.ContentsLemmas.{exchange_begins}
use Rattle.directory.proofs.contents.Contents.exchange.Goals as goal

pub returns-clause-begins : goal.returns-clause-begins
returns-clause-begins c =
    let is : c.in_ok-list.list ≡ replaced c.self.inside.list c.args.name.now c.args.object = c.in_ok-list.ensures ∙ ap (λ (l : Entries). replaced l c.args.name.now c.args.object) c.in_ok-copy.ensures in
    exchange_begins c.self.inside.list c.in_ok-list.list c.args.name.now c.args.object c.self.inside.depths c.in_ok-depths.depths c.in_ok-touched.touched c.self.invariant is c.in_ok-depths.ensures c.in_ok-touched.ensures
