use Rattle.std.proofs.Common.{◌≡◌, ◌∙◌, min, None, Some, ap}
use Rattle.std.specs.Arc.{arc_value}
use Rattle.object_set.specs.Objects.{Parts}
use Rattle.directory.specs.Walks.{Entries, depth_over, object_of, unbounded}
use Rattle.directory.specs.Depths.{depth_kept}
use Rattle.directory.specs.Edits.{appended}
use Rattle.directory.proofs.ContentsLemmas.{append_begins, missed_zero, due_there}
use Rattle.directory.proofs.contents.Contents.append.Goals as goal

pub begun-requires-clause-begins : goal.begun-requires-clause-begins
begun-requires-clause-begins c =
    let o : Parts = arc_value c.args.object in
    let is : c.in_ok-list.list ≡ appended c.self.inside.list c.args.name.now o = c.in_ok-list.ensures ∙ ap (λ (l : Entries). appended l c.args.name.now o) c.in_ok-copy.ensures in
    append_begins c.self.inside.list c.in_ok-list.list c.args.name.now o c.self.inside.depths c.in_ok-depths.depths c.self.invariant is c.in_ok-depths.ensures

pub begun-requires-clause-missed : goal.begun-requires-clause-missed
begun-requires-clause-missed c =
    let none : object_of c.self.inside.list c.args.name.now ≡ None = ap (λ (l : Entries). object_of l c.args.name.now) c.self.view_is ∙ c.requires.absent in
    missed_zero c.self.inside.list c.args.name.now c.self.inside.depths c.in_ok-depths.depths c.self.invariant none c.in_ok-depths.ensures

pub begun-requires-clause-due : goal.begun-requires-clause-due
begun-requires-clause-due c =
    let o : Parts = arc_value c.args.object in
    let is : c.in_ok-list.list ≡ appended c.self.inside.list c.args.name.now o = c.in_ok-list.ensures ∙ ap (λ (l : Entries). appended l c.args.name.now o) c.in_ok-copy.ensures in
    let none : object_of c.self.inside.list c.args.name.now ≡ None = ap (λ (l : Entries). object_of l c.args.name.now) c.self.view_is ∙ c.requires.absent in
    due_there c.self.inside.list c.in_ok-list.list c.args.name.now o c.self.inside.depths c.in_ok-depths.depths c.over-depth.result none is c.in_ok-depths.ensures
    (c.over-depth.ensures ∙ ap (λ (p : Parts). min unbounded (depth_over (Some p) (depth_kept c.self.inside.depths))) c.deref.ensures)
