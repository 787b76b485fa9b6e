use Rattle.std.proofs.Common.{◌≡◌, None, rules}
use Rattle.directory.specs.Edits.{judged_by}
use Rattle.directory.proofs.ContentsLemmas.{judged_kept}
use Rattle.directory.proofs.contents.Edit.settle.Goals as goal

pub invariant_of-result : goal.invariant_of-result
invariant_of-result c =
    let none : judged_by c.in-Ok.relaxed.most c.args.edited.now ≡ None = search rules in
    judged_kept c.args.self.list c.args.edited.now c.in-Ok.relaxed.most c.in-Ok.relaxed.depths (c.in-Ok.ensures.judged c.args.edited.now) none c.len-count.ensures.small c.len-count.ensures.distinct c.in-Ok.ensures.known
