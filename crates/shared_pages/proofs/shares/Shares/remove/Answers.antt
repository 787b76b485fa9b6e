use Rattle.std.proofs.Common.{◌∙◌, ap, map, remove}
use Rattle.std.specs.Arc.{arc_value}
use Rattle.shared_pages.proofs.MapLemmas.{map_removed}
use Rattle.shared_pages.proofs.shares.Shares.remove.Goals as goal

pub returns : goal.returns
returns g c =
    ap (λ l. map arc_value l) c.remove-item.ensures.items ∙ map_removed arc_value c.self.inside.items.items c.args.place ∙ ap (λ l. remove l c.args.place) c.self.view_is
