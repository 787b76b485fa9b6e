use Rattle.std.proofs.Common.{◌≡◌, ◌∷◌, ◌++◌, ◌∙◌, [], None, ap, sym}
use Rattle.std.specs.Arc.{arc_value}
use Rattle.std.specs.Map.{lookup}
use Rattle.std.proofs.lemmas.Map.Made.{lookup-map_values}
use Rattle.indexmap.proofs.CallerLemmas.{insert_entry-new}
use Rattle.name_core.specs.Same.{same_name}
use Rattle.shared_pages.specs.Sharing.{values_shared}
use Rattle.directory.proofs.GatheredLemmas.{none_within, shared_pushed}
use Rattle.directory.proofs.gathered.Gathered.push.Goals as goal

pub returns-clause-ok : goal.returns-clause-ok
returns-clause-ok c =
    let none : lookup (same_name c.args.name.now) c.self.inside.entries.entries ≡ None =
    none_within arc_value (lookup (same_name c.args.name.now) c.self.inside.entries.entries)
    (sym (lookup-map_values arc_value (same_name c.args.name.now) c.self.inside.entries.entries) ∙ ap (λ l. lookup (same_name c.args.name.now) l) c.self.view_is ∙ c.requires) in
    ap (λ l. values_shared l) (c.in_ok-_old.ensures.entries ∙ insert_entry-new same_name c.self.inside.entries c.args.name.now c.in_ok-share.share none)
    ∙ shared_pushed c.self.inside.entries.entries c.args.name.now c.in_ok-share.share ∙ ap (λ v. values_shared c.self.inside.entries.entries ++ (c.args.name.now, v) ∷ []) c.in_ok-share.ensures.ok
    ∙ ap (λ l. l ++ (c.args.name.now, c.args.object) ∷ []) c.self.view_is
