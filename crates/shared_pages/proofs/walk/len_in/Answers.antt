use Rattle.std.proofs.Common.{◌∙◌, ap, length}
use Rattle.shared_pages.proofs.GroupLemmas.{group_there}
use Rattle.shared_pages.proofs.walk.len_in.Goals as goal

pub returns : goal.returns
returns g c = c.len.ensures ∙ ap (λ l. length l) (c.pages.ensures ∙ group_there c.args.groups.now c.args.place c.in-Some.group.now c.in-Some.ensures)
