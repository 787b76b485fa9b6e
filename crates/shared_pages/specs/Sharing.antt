-- Pairs whose values are shared, seen as the values.
use Rattle.std.specs.Prelude.{List, [], map, Option, Some, None}
use Rattle.std.specs.Arc.{arc_value}
use Rattle.std.specs.declared.sync.Arc.{Arc}

-- the pairs, with the values themselves in the place of their shares
abbrev pub values_shared : {K V Z : Type 0} → List (K × Arc V Z) → List (K × V)
values_shared es = map (λ e. (e.0, arc_value e.1)) es

-- the list that is shared, or an empty one where there is none
abbrev pub shared_or_none : {A Z : Type 0} → Option (Arc (List A) Z) → List A
shared_or_none None = []
shared_or_none (Some share) = arc_value share
