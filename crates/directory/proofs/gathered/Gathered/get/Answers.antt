use Rattle.std.proofs.Common.{◌∙◌, ap, sym}
use Rattle.std.specs.Prelude.{Some}
use Rattle.std.specs.Arc.{arc_value}
use Rattle.std.specs.Option.{option_map}
use Rattle.std.specs.Map.{lookup}
use Rattle.std.proofs.lemmas.Map.Made.{lookup-map_values}
use Rattle.name_core.specs.Same.{same_name}
use Rattle.directory.proofs.gathered.Gathered.get.Goals as goal

pub returns-in-Some : goal.returns-in-Some
returns-in-Some c =
    ap (λ v. Some v) c.deref.ensures ∙ ap (λ o. option_map arc_value o) c.in-Some.ensures.value
    ∙ sym (lookup-map_values arc_value (same_name c.args.name.now) c.self.inside.entries.entries) ∙ ap (λ l. lookup (same_name c.args.name.now) l) c.self.view_is

pub returns-in-None : goal.returns-in-None
returns-in-None c =
    ap (λ o. option_map arc_value o) c.in-None.ensures.value
    ∙ sym (lookup-map_values arc_value (same_name c.args.name.now) c.self.inside.entries.entries) ∙ ap (λ l. lookup (same_name c.args.name.now) l) c.self.view_is
