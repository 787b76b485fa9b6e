use Rattle.std.proofs.Common.{◌∙◌, ap, sym, subst}
use Rattle.std.specs.Prelude.{slice_set}
use Rattle.shared_pages.specs.Opened.{rejoined}
use Rattle.shared_pages.proofs.NameLemmas.{gives_at}
use Rattle.shared_pages.proofs.OpenLemmas.{bucket_put, rejoins_again, seen_gives}
use Rattle.shared_pages.proofs.PlaceLemmas.{PutsBucket}
use Rattle.shared_pages.proofs.open.Open.close.Goals as goal

pub returns : goal.returns
returns g c =
    let shelves = c.self.inside.shelves in
    let shelf = c.self.inside.shelf in
    let row = c.self.inside.row in
    let bucket = c.self.inside.bucket in
    let i = c.self.inside.slot.shelf in
    let j = c.self.inside.slot.row in
    let k = c.self.inside.slot.bucket in
    let kept = c.self.invariant in
    let map = rejoined shelves i shelf j row k bucket in
    let made =
    c.of_root.ensures ∙ c.in_ok-root.ensures ∙ c.in_ok-set-3.ensures.ok ∙ ap (λ l. slice_set shelves i l) (c.in_ok-set-2.ensures.ok ∙ ap (λ l. slice_set shelf j l) c.in_ok-set.ensures.ok) in
    let puts = subst (λ m. PutsBucket map i j k c.change.new.self m) (sym made) (rejoins_again shelves i shelf j row k kept.among_shelves kept.on_shelf kept.in_row bucket c.change.new.self) in
    seen_gives (record { map = map; name = c.self.inside.name }) c.args.self c.args.value c.of_root.result c.self.view_is
    (gives_at map c.of_root.result c.self.inside.name c.args.value bucket c.change.new.self i j k kept.shelf_is kept.row_is kept.bucket_is puts
    (sym (bucket_put shelves i shelf j row k kept.among_shelves kept.on_shelf kept.in_row bucket))
    c.in_ok-change.ensures)
