use Rattle.std.proofs.Common.{◌≡◌, ◌∙◌, None, ap}
use Rattle.directory.specs.Walks.{Entries, object_of}
use Rattle.directory.specs.Edits.{renamed_all}
use Rattle.directory.proofs.ContentsLemmas.{missed_zero, renaming_begins}
use Rattle.directory.proofs.contents.Contents.rename_there.Goals as goal

pub returns-clause-begins : goal.returns-clause-begins
returns-clause-begins c =
    let old : Entries = c.self.inside.list in
    let is : c.in_ok-list.list ≡ renamed_all old c.args.old.now c.args.new.now = c.in_ok-list.ensures ∙ ap (λ (l : Entries). renamed_all l c.args.old.now c.args.new.now) c.in_ok-copy.ensures in
    let none : object_of old c.args.new.now ≡ None = ap (λ (l : Entries). object_of l c.args.new.now) c.self.view_is ∙ c.requires.absent in
    renaming_begins old c.in_ok-list.list c.args.old.now c.args.new.now c.self.inside.depths c.in_ok-copy-2.field-0 c.in_ok-depths.depths c.put_users.new.names c.self.invariant none is
    c.in_ok-copy-2.ensures c.in_ok-depths.ensures c.in_ok-put_users.ensures.users

pub rename-requires-2 : goal.rename-requires-2
rename-requires-2 c =
    let none : object_of c.self.inside.list c.args.new.now ≡ None = ap (λ (l : Entries). object_of l c.args.new.now) c.self.view_is ∙ c.requires.absent in
    record { missed = missed_zero c.self.inside.list c.args.new.now c.self.inside.depths c.in_ok-copy-2.field-0 c.self.invariant none c.in_ok-copy-2.ensures }
