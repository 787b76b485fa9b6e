use Rattle.std.proofs.Common.{◌∙◌, [], None, ap}
use Rattle.std.specs.Prelude.{slice_index_or}
use Rattle.std.specs.Map.{lookup}
use Rattle.name_core.specs.Same.{same_name}
use Rattle.shared_pages.specs.Buckets.{bucket_at}
use Rattle.shared_pages.specs.Opened.{rejoined}
use Rattle.shared_pages.proofs.NameLemmas.{gives_at, lookup_removed}
use Rattle.shared_pages.proofs.OpenLemmas.{rejoins}
use Rattle.shared_pages.proofs.map.SharedMap.open.Goals as goal

pub returns-clause-map : goal.returns-clause-map
returns-clause-map g c =
    let i = c.slot_of-slot.result.shelf in
    let j = c.slot_of-slot.result.row in
    let k = c.slot_of-slot.result.bucket in
    let old = c.in_ok-shelves.ensures ∙ c.self.view_is in
    let shelf = c.in_ok-shelf.ensures.value ∙ ap (λ m. slice_index_or m i []) old in
    let row = c.in_ok-row.ensures.value ∙ ap (λ l. slice_index_or l j []) shelf in
    let bucket = c.in_ok-bucket.ensures.value ∙ ap (λ l. slice_index_or l k []) row in
    gives_at c.args.self (rejoined c.take.new.self i c.take-2.new.self j c.take-3.new.self k c.take-value.new.self) c.args.name.now None c.in_ok-bucket.bucket c.take-value.new.self i j k
    c.slot_of-slot.ensures.shelf c.slot_of-slot.ensures.row c.slot_of-slot.ensures.bucket
    (rejoins c.take.new.self i c.take-2.new.self j c.take-3.new.self k c.in_ok-shelf.ensures.there c.in_ok-row.ensures.there c.in_ok-bucket.ensures.there c.args.self c.take-value.new.self
    (λ n apart. c.in_ok-shelf.ensures.others n apart ∙ ap (λ m. slice_index_or m n []) old)
    (λ n apart. c.in_ok-row.ensures.others n apart ∙ ap (λ l. slice_index_or l n []) shelf)
    (λ n apart. c.in_ok-bucket.ensures.others n apart ∙ ap (λ l. slice_index_or l n []) row))
    bucket
    (λ a. ap (λ l. lookup (same_name a) l) c.take-value.ensures.pairs ∙ lookup_removed c.in_ok-bucket.bucket c.args.name.now a c.take-value.ensures.distinct)

pub returns-clause-value : goal.returns-clause-value
returns-clause-value g c =
    let i = c.slot_of-slot.result.shelf in
    let j = c.slot_of-slot.result.row in
    let k = c.slot_of-slot.result.bucket in
    let old = c.in_ok-shelves.ensures ∙ c.self.view_is in
    let shelf = c.in_ok-shelf.ensures.value ∙ ap (λ m. slice_index_or m i []) old in
    let row = c.in_ok-row.ensures.value ∙ ap (λ l. slice_index_or l j []) shelf in
    let bucket = c.in_ok-bucket.ensures.value ∙ ap (λ l. slice_index_or l k []) row in
    c.take-value.ensures.value
    ∙ ap (λ l. lookup (same_name c.args.name.now) l) (bucket ∙ (λ t. bucket_at c.args.self (c.slot_of-slot.ensures.shelf t) (c.slot_of-slot.ensures.row t) (c.slot_of-slot.ensures.bucket t)))
