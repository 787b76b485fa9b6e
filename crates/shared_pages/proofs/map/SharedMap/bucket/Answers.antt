use Rattle.std.proofs.Common.{◌∙◌, [], ap}
use Rattle.std.specs.Prelude.{slice_index_or}
use Rattle.std.specs.Option.{unwrap_or}
use Rattle.shared_pages.specs.Buckets.{bucket_at}
use Rattle.shared_pages.proofs.PlaceLemmas.{none_there, some_there, read_there}
use Rattle.shared_pages.proofs.map.SharedMap.bucket.Goals as goal

pub returns-in_default-get : goal.returns-in_default-get
returns-in_default-get g c =
    ap (λ l. slice_index_or (slice_index_or l c.args.slot.now.row []) c.args.slot.now.bucket []) (none_there [] c.in-Some.root.now c.args.slot.now.shelf c.in_default-get.ensures)
    ∙ ap (λ m. bucket_at m c.args.slot.now.shelf c.args.slot.now.row c.args.slot.now.bucket) (c.in-Some.ensures ∙ c.self.view_is)

pub returns-in-Some-get-2 : goal.returns-in-Some-get-2
returns-in-Some-get-2 g c =
    ap (λ o. unwrap_or o []) c.get-in-Some-get-2.ensures ∙ read_there [] c.in-Some-get-2.row.now c.args.slot.now.bucket
    ∙ ap (λ l. slice_index_or l c.args.slot.now.bucket []) (some_there [] c.in-Some-get.shelf.now c.args.slot.now.row c.in-Some-get-2.row.now c.in-Some-get-2.ensures)
    ∙ ap (λ l. slice_index_or (slice_index_or l c.args.slot.now.row []) c.args.slot.now.bucket []) (some_there [] c.in-Some.root.now c.args.slot.now.shelf c.in-Some-get.shelf.now c.in-Some-get.ensures)
    ∙ ap (λ m. bucket_at m c.args.slot.now.shelf c.args.slot.now.row c.args.slot.now.bucket) (c.in-Some.ensures ∙ c.self.view_is)

pub returns-in-None : goal.returns-in-None
returns-in-None g c =
    ap (λ l. slice_index_or l c.args.slot.now.bucket []) (none_there [] c.in-Some-get.shelf.now c.args.slot.now.row c.in-None.ensures)
    ∙ ap (λ l. slice_index_or (slice_index_or l c.args.slot.now.row []) c.args.slot.now.bucket []) (some_there [] c.in-Some.root.now c.args.slot.now.shelf c.in-Some-get.shelf.now c.in-Some-get.ensures)
    ∙ ap (λ m. bucket_at m c.args.slot.now.shelf c.args.slot.now.row c.args.slot.now.bucket) (c.in-Some.ensures ∙ c.self.view_is)
