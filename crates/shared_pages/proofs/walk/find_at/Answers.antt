use Rattle.std.proofs.Common.{◌≡◌, ◌∙◌, ◌<◌, ◌≤◌, ◌+◌, subst, length}
use Rattle.shared_pages.specs.Pages.{pairs_of}
use Rattle.shared_pages.proofs.GroupLemmas.{group_there}
use Rattle.shared_pages.proofs.walk.find_at.Goals as goal

pub returns-clause-here : goal.returns-clause-here
returns-clause-here g c =
    subst (λ l. c.find.result.0 < length l → c.args.place < length (pairs_of l)) (c.pages.ensures ∙ group_there c.args.groups.now c.args.group c.in-Some.group.now c.in-Some.ensures) c.find.ensures.here

pub returns-clause-past : goal.returns-clause-past
returns-clause-past g c =
    subst (λ l. length l ≤ c.find.result.0 → c.args.place ≡ length (pairs_of l) + c.find.result.1) (c.pages.ensures ∙ group_there c.args.groups.now c.args.group c.in-Some.group.now c.in-Some.ensures) c.find.ensures.past
