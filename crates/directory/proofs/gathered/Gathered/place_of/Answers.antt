use Rattle.std.proofs.Common.{◌≡◌, ◌∙◌, None, ap, sym}
use Rattle.std.specs.Prelude.{is_some, position}
use Rattle.std.specs.Arc.{arc_value}
use Rattle.std.specs.Option.{option_map}
use Rattle.std.specs.Map.{keys_of, lookup}
use Rattle.std.proofs.lemmas.Map.Made.{keys_of-map_values, lookup-map_values}
use Rattle.name_core.specs.Same.{same_name}
use Rattle.directory.proofs.GatheredLemmas.{none_told}
use Rattle.directory.proofs.gathered.Gathered.place_of.Goals as goal

pub returns-clause-place : goal.returns-clause-place
returns-clause-place c =
    c.get_index_of.ensures.index ∙ ap (λ l. position (same_name c.args.name.now) l) (sym (keys_of-map_values arc_value c.self.inside.entries.entries) ∙ ap (λ l. keys_of l) c.self.view_is)

pub returns-clause-missing : goal.returns-clause-missing
returns-clause-missing c =
    λ gone.
    let none : lookup (same_name c.args.name.now) c.self.inside.entries.entries ≡ None = none_told (lookup (same_name c.args.name.now) c.self.inside.entries.entries) (sym c.get_index_of.ensures.found ∙ ap is_some gone) in
    ap (λ l. lookup (same_name c.args.name.now) l) (sym c.self.view_is) ∙ lookup-map_values arc_value (same_name c.args.name.now) c.self.inside.entries.entries ∙ ap (λ o. option_map arc_value o) none
