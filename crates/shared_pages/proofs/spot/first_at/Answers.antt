use Rattle.std.proofs.Common.{◌<◌, Some, length, subst, sym}
use Rattle.shared_pages.specs.Pages.{IsPlace}
use Rattle.shared_pages.proofs.GroupLemmas.{filled_at, first_there}
use Rattle.shared_pages.proofs.spot.first_at.Goals as goal

pub number_at-requires : goal.number_at-requires
number_at-requires g c = subst (λ l. 0 < length l) (sym c.pages.ensures) (filled_at c.args.groups.now c.args.place c.in-Some.group.now c.requires.filled c.in-Some.ensures)

pub returns : goal.returns
returns g c =
    first_there c.args.groups.now c.args.place c.number_at.result c.in-Some.group.now c.in-Some.ensures (subst (λ l. IsPlace l c.number_at.result (Some 0)) c.pages.ensures c.number_at.ensures)
