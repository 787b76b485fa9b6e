use Rattle.std.proofs.Common.{◌≡◌, None, rules, sym}
use Rattle.directory.specs.Depths.{depth_kept}
use Rattle.directory.specs.Walks.{object_of}
use Rattle.object_pages.proofs.ReferenceLemmas.{apart_missing}
use Rattle.directory.proofs.ContentsLemmas.{without_step}
use Rattle.directory.proofs.contents.Edit.without.Goals as goal

pub returns-then-is_none-clause-list : goal.returns-then-is_none-clause-list
returns-then-is_none-clause-list c =
    let none : object_of c.args.self.list c.args.name.now ≡ None = search rules in
    sym (apart_missing c.args.self.list c.args.name.now none)

pub returns-clause-begins : goal.returns-clause-begins
returns-clause-begins c =
    without_step c.args.self.list c.in_ok-list.list c.args.name.now (depth_kept c.args.self.depths) c.args.self.touched c.insert.new.self c.requires c.in_ok-list.ensures c.in_ok-insert.ensures.members
