use Rattle.std.proofs.Common.{◌∙◌, ap}
use Rattle.std.specs.Prelude.{slice_get}
use Rattle.shared_pages.proofs.GroupLemmas.{group_there, group_past}
use Rattle.shared_pages.proofs.spot.page_on.Goals as goal

pub returns-in-Some : goal.returns-in-Some
returns-in-Some g c = c.get-in-Some.ensures ∙ ap (λ l. slice_get l c.args.spot.now.page) (c.pages.ensures ∙ group_there c.args.groups.now c.args.spot.now.group c.in-Some.group.now c.in-Some.ensures)

pub returns-in-None : goal.returns-in-None
returns-in-None g c = ap (λ l. slice_get l c.args.spot.now.page) (group_past c.args.groups.now c.args.spot.now.group c.in-None.ensures)
