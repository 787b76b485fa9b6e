use Rattle.std.proofs.Common.{rules, ◌≡◌, ◌≤◌, ◌∙◌, ◌∷◌, [], sym, ap, subst, length, arith}
use Rattle.std.proofs.lemmas.Result.{IfOk-weaker, IfErr-weaker}
use Rattle.overlap_list.specs.declared.overlap.TheConstants.{MOST_PAIRS}
use Rattle.overlap_list.specs.Overlaps.{IsTooMany}
use Rattle.tile_shot.specs.Reports.{report_of}
use Rattle.tile_shot.specs.Merges.{ArePairs, merged}
use Rattle.tile_shot.proofs.Merging.{merged_none}
use Rattle.tile_shot.proofs.Listing.{are_pairs}
use Rattle.tile_shot.proofs.RaysDone.{spot_at}
use Rattle.tile_shot.proofs.OneRay.{report_from, none_on_ray, ray_too_many}
use Rattle.tile_shot.proofs.check.add_ray.Goals as goal

pub returns-in-Err-clause-fault : goal.returns-in-Err-clause-fault
returns-in-Err-clause-fault c =
    ray_too_many c.args.scene.now c.args.view.now c.args.column c.args.row c.ray.result c.requires.places c.ray.ensures.value c.args.pairs.now.items c.in-Err.fault c.in-Err.ensures.fault

pub returns-then-is_empty-clause-added : goal.returns-then-is_empty-clause-added
returns-then-is_empty-clause-added c =
    sym (ap (merged c.args.pairs.now.items) (none_on_ray c.args.scene.now c.args.view.now c.args.column c.args.row c.ray.result c.requires.places c.ray.ensures.value c.in-Ok.runs.items c.in-Ok.ensures.runs (search rules))
    ∙ merged_none c.args.pairs.now.items)

pub merge_pairs-requires-clause-more : goal.merge_pairs-requires-clause-more
merge_pairs-requires-clause-more c =
    let e : c.deref-2.result.now ≡ report_of c.args.scene.now c.args.view.now (spot_at c.args.column c.args.row ∷ []) = c.deref-2.ensures.value
    ∙ report_from c.args.scene.now c.args.view.now c.args.column c.args.row c.ray.result c.requires.places c.ray.ensures.value c.deref.result.now c.in-Ok-pairs_on_ray.more.items (c.deref.ensures.value ∙ c.in-Ok.ensures.runs) c.in-Ok-pairs_on_ray.ensures in
    subst ArePairs (sym e) (are_pairs c.args.scene.now c.args.view.now (spot_at c.args.column c.args.row ∷ []) c.requires.places (omega arith))

pub returns-clause-added : goal.returns-clause-added
returns-clause-added c =
    let e : c.deref-2.result.now ≡ report_of c.args.scene.now c.args.view.now (spot_at c.args.column c.args.row ∷ []) = c.deref-2.ensures.value
    ∙ report_from c.args.scene.now c.args.view.now c.args.column c.args.row c.ray.result c.requires.places c.ray.ensures.value c.deref.result.now c.in-Ok-pairs_on_ray.more.items (c.deref.ensures.value ∙ c.in-Ok.ensures.runs) c.in-Ok-pairs_on_ray.ensures in
    IfOk-weaker c.merge_pairs.result (λ _. c.merge_pairs.new.into.items ≡ merged c.args.pairs.now.items c.deref-2.result.now) _ (λ v h. h ∙ ap (merged c.args.pairs.now.items) e) c.merge_pairs.ensures.merged

pub returns-clause-fault : goal.returns-clause-fault
returns-clause-fault c =
    let e : c.deref-2.result.now ≡ report_of c.args.scene.now c.args.view.now (spot_at c.args.column c.args.row ∷ []) = c.deref-2.ensures.value
    ∙ report_from c.args.scene.now c.args.view.now c.args.column c.args.row c.ray.result c.requires.places c.ray.ensures.value c.deref.result.now c.in-Ok-pairs_on_ray.more.items (c.deref.ensures.value ∙ c.in-Ok.ensures.runs) c.in-Ok-pairs_on_ray.ensures in
    IfErr-weaker c.merge_pairs.result (IsTooMany (length (merged c.args.pairs.now.items c.deref-2.result.now))) _ (λ fault h. subst (λ l. IsTooMany (length (merged c.args.pairs.now.items l)) fault) e h) c.merge_pairs.ensures.fault

pub returns-clause-most : goal.returns-clause-most
returns-clause-most c = IfOk-weaker c.merge_pairs.result (λ _. length c.merge_pairs.new.into.items ≤ MOST_PAIRS) _ (λ v h already. h) c.merge_pairs.ensures.most
