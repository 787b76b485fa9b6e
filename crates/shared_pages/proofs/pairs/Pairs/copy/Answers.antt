use Rattle.std.proofs.Common.{◌∙◌}
use Rattle.shared_pages.proofs.SharingLemmas.{values_same}
use Rattle.shared_pages.proofs.pairs.Pairs.copy.Goals as goal

pub returns : goal.returns
returns g c = values_same c.self.inside.entries.entries c.in_ok-entries.entries.entries c.in_ok-entries.ensures.cases ∙ c.self.view_is
