use Rattle.std.proofs.Common.{◌∙◌, Some, ap, sym}
use Rattle.std.specs.Prelude.{slice_get}
use Rattle.std.specs.Arc.{arc_value}
use Rattle.std.specs.Option.{option_map}
use Rattle.directory.proofs.GatheredLemmas.{shared_at}
use Rattle.directory.proofs.gathered.Gathered.share_at.Goals as goal

pub returns-in_ok-share-in-Some : goal.returns-in_ok-share-in-Some
returns-in_ok-share-in-Some c =
    ap (λ v. Some (c.in-Some.name.now, v)) c.in_ok-share-in-Some.ensures ∙ ap (λ o. option_map (λ e. (e.0, arc_value e.1)) o) c.in-Some.ensures.entry
    ∙ sym (shared_at c.self.inside.entries.entries c.args.place) ∙ ap (λ l. slice_get l c.args.place) c.self.view_is

pub returns-in-None : goal.returns-in-None
returns-in-None c =
    ap (λ o. option_map (λ e. (e.0, arc_value e.1)) o) c.in-None.ensures.entry ∙ sym (shared_at c.self.inside.entries.entries c.args.place) ∙ ap (λ l. slice_get l c.args.place) c.self.view_is
