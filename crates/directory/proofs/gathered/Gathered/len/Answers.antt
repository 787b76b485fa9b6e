use Rattle.std.proofs.Common.{◌∙◌, ap, sym, subst}
use Rattle.std.specs.Arc.{arc_value}
use Rattle.std.specs.List.{IsDistinct}
use Rattle.std.specs.Map.{keys_of}
use Rattle.std.proofs.lemmas.Map.Made.{keys_of-map_values}
use Rattle.name_core.specs.Same.{same_name}
use Rattle.directory.proofs.gathered.Gathered.len.Goals as goal

pub returns-clause-distinct : goal.returns-clause-distinct
returns-clause-distinct c =
    subst (λ l. IsDistinct same_name l) (sym (keys_of-map_values arc_value c.self.inside.entries.entries) ∙ ap (λ l. keys_of l) c.self.view_is) c.len.ensures.unique
