use Rattle.std.proofs.Common.{◌∙◌}
use Rattle.std.specs.Arc.{arc_value}
use Rattle.shared_pages.proofs.MapLemmas.{map_same}
use Rattle.shared_pages.proofs.shares.Shares.copy.Goals as goal

pub returns : goal.returns
returns g c = map_same arc_value c.self.inside.items.items c.in_ok-items.items.items c.in_ok-items.ensures.cases.0 ∙ c.self.view_is
