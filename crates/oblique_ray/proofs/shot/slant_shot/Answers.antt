use Rattle.std.proofs.Common.{rules, ◌≡◌, ◌<◌, ◌∙◌, ℕ, List, [], All, length, map, ap, sym, subst, refl, arith}
use Rattle.std.proofs.lemmas.Result.{IfOk-weaker}
use Rattle.lattice_core.specs.declared.limit.TheConstants.{FAR}
use Rattle.lattice_core.specs.declared.ray.Ray.{Ray}
use Rattle.lattice_core.specs.Units.{unit_of}
use Rattle.bool_weave.specs.Claims.{intervals_of}
use Rattle.bool_weave.specs.Lines.{cuts_along}
use Rattle.overlap_list.specs.declared.partition.Partition.{Partition}
use Rattle.overlap_list.specs.declared.region.RegionClaims.{RegionClaims}
use Rattle.overlap_list.specs.Partitions.{partitions_of}
use Rattle.shot_core.specs.Regions.{instances_of}
use Rattle.shot_core.specs.Shots.{lit_of}
use Rattle.shot_core.specs.Steps.{numbered_claims, owned_from, renumbered}
use Rattle.slant_ranks.specs.Slants.{slant_up_to, woven_by_ranks}
use Rattle.surd_quot.specs.declared.position.QPos.{QPos}
use Rattle.oblique_ray.specs.declared.piece.Piece.{Piece}
use Rattle.oblique_ray.specs.declared.slab.Slab.{Slab}
use Rattle.oblique_ray.specs.CutSteps.{segment_of_piece}
use Rattle.oblique_ray.specs.Points.{IsTrueOfSlant}
use Rattle.slant_ray.specs.Rays.{direction_of}
use Rattle.oblique_ray.specs.ShotSteps.{slab_by_ranks, owners_noted}
use Rattle.oblique_ray.specs.Shots.{slabs_on, slab_of_lit}
use Rattle.oblique_ray.proofs.Runs.{has_length}
use Rattle.oblique_ray.proofs.ShotLaws.{pieces_woven, pieces_few, cuts_some, scene_rows_met, scene_rows_few, scene_numbers_below, scene_parts_within, slabs_found, slabs_none, slabs_tell, slabs_plain, slabs_within}
use Rattle.oblique_ray.proofs.Touched.{pieces_within}
use Rattle.oblique_ray.proofs.shot.slant_shot.Goals as goal

pub returns-then-is_empty-clause-slabs : goal.returns-then-is_empty-clause-slabs
returns-then-is_empty-clause-slabs c =
    let none : length c.in_ok-pieces.pieces.items ≡ 0 = search rules in
    c.new.ensures.items ∙ slabs_none c.args.scene.now c.args.ray.now.origin (direction_of c.args.ray.now) c.in_ok-pieces.pieces.items (has_length _ c.requires.some) c.in_ok-pieces.ensures.sound c.in_ok-pieces.ensures.pieces c.in_ok-pieces.ensures.leaves none

pub returns-then-is_empty-clause-points : goal.returns-then-is_empty-clause-points
returns-then-is_empty-clause-points c =
    slabs_tell c.args.scene.now c.args.ray.now.origin (direction_of c.args.ray.now) c.new.result.items (has_length _ c.requires.some) c.in_ok-pieces.ensures.sound c.in_ok-pieces.ensures.leaves
    (returns-then-is_empty-clause-slabs c)

pub returns-then-is_empty-clause-axes : goal.returns-then-is_empty-clause-axes
returns-then-is_empty-clause-axes c = slabs_plain c.args.scene.now c.args.ray.now.origin (direction_of c.args.ray.now) c.new.result.items (returns-then-is_empty-clause-slabs c)

pub touched-requires : goal.touched-requires
touched-requires c =
    subst (All (λ (p : Piece). p.instance < length (instances_of c.args.scene.now))) (sym c.deref.ensures.value) (pieces_within c.args.ray.now.origin (direction_of c.args.ray.now) c.args.scene.now c.in_ok-pieces.pieces.items c.in_ok-pieces.ensures.pieces)

pub weave_pieces-requires-clause-woven : goal.weave_pieces-requires-clause-woven
weave_pieces-requires-clause-woven c =
    pieces_woven c.args.scene.now c.args.ray.now.origin (direction_of c.args.ray.now) c.deref-4.result.now (has_length _ c.requires.some) c.in_ok-pieces.ensures.sound
    (ap (λ (l : List Piece). map segment_of_piece l) c.deref-4.ensures.value ∙ c.in_ok-pieces.ensures.pieces)

pub weave_pieces-requires-clause-few : goal.weave_pieces-requires-clause-few
weave_pieces-requires-clause-few c =
    pieces_few c.args.scene.now c.args.ray.now.origin (direction_of c.args.ray.now) c.deref-4.result.now (has_length _ c.requires.some) c.in_ok-pieces.ensures.sound
    (ap (λ (l : List Piece). map segment_of_piece l) c.deref-4.ensures.value ∙ c.in_ok-pieces.ensures.pieces)

pub claims_of_all-requires : goal.claims_of_all-requires
claims_of_all-requires c =
    let numbers_are : c.in_ok-numbers.numbers.items ≡ owners_noted (owned_from 0 c.args.scene.now) (map segment_of_piece c.in_ok-pieces.pieces.items) [] =
    c.in_ok-numbers.ensures ∙ ap (λ (l : List Piece). owners_noted (owned_from 0 c.args.scene.now) (map segment_of_piece l) []) c.deref.ensures.value in
    let woven_is : c.weave_pieces.new.weave ≡ woven_by_ranks FAR (map segment_of_piece c.in_ok-pieces.pieces.items) =
    c.in_ok-weave_pieces.ensures ∙ ap (λ (l : List Piece). woven_by_ranks FAR (map segment_of_piece l)) c.deref-4.ensures.value in
    subst (All (λ (n : ℕ). n < length c.args.scene.now)) (sym c.deref-5.ensures.value)
    (scene_numbers_below c.args.scene.now c.args.ray.now.origin (direction_of c.args.ray.now) c.in_ok-pieces.pieces.items (has_length _ c.requires.some) c.in_ok-pieces.ensures.sound c.in_ok-pieces.ensures.pieces c.weave_pieces.new.weave c.in_ok-numbers.numbers.items (map (numbered_claims c.weave_pieces.new.weave c.args.scene.now) c.in_ok-numbers.numbers.items) woven_is numbers_are refl)

pub settle-requires-clause-few : goal.settle-requires-clause-few
settle-requires-clause-few c =
    let numbers_are : c.in_ok-numbers.numbers.items ≡ owners_noted (owned_from 0 c.args.scene.now) (map segment_of_piece c.in_ok-pieces.pieces.items) [] =
    c.in_ok-numbers.ensures ∙ ap (λ (l : List Piece). owners_noted (owned_from 0 c.args.scene.now) (map segment_of_piece l) []) c.deref.ensures.value in
    let woven_is : c.weave_pieces.new.weave ≡ woven_by_ranks FAR (map segment_of_piece c.in_ok-pieces.pieces.items) =
    c.in_ok-weave_pieces.ensures ∙ ap (λ (l : List Piece). woven_by_ranks FAR (map segment_of_piece l)) c.deref-4.ensures.value in
    let rows_are : c.in_ok-regions.regions.items ≡ map (numbered_claims c.weave_pieces.new.weave c.args.scene.now) c.in_ok-numbers.numbers.items =
    c.in_ok-regions.ensures ∙ ap (map (numbered_claims c.weave_pieces.new.weave c.args.scene.now)) c.deref-5.ensures.value in
    omega (arith, ap length c.deref-6.ensures.value, scene_rows_few c.args.scene.now c.args.ray.now.origin (direction_of c.args.ray.now) c.in_ok-pieces.pieces.items (has_length _ c.requires.some) c.in_ok-pieces.ensures.sound c.in_ok-pieces.ensures.pieces c.weave_pieces.new.weave c.in_ok-numbers.numbers.items c.in_ok-regions.regions.items woven_is numbers_are rows_are)

pub settle-requires-clause-rows : goal.settle-requires-clause-rows
settle-requires-clause-rows c =
    let numbers_are : c.in_ok-numbers.numbers.items ≡ owners_noted (owned_from 0 c.args.scene.now) (map segment_of_piece c.in_ok-pieces.pieces.items) [] =
    c.in_ok-numbers.ensures ∙ ap (λ (l : List Piece). owners_noted (owned_from 0 c.args.scene.now) (map segment_of_piece l) []) c.deref.ensures.value in
    let woven_is : c.weave_pieces.new.weave ≡ woven_by_ranks FAR (map segment_of_piece c.in_ok-pieces.pieces.items) =
    c.in_ok-weave_pieces.ensures ∙ ap (λ (l : List Piece). woven_by_ranks FAR (map segment_of_piece l)) c.deref-4.ensures.value in
    let rows_are : c.in_ok-regions.regions.items ≡ map (numbered_claims c.weave_pieces.new.weave c.args.scene.now) c.in_ok-numbers.numbers.items =
    c.in_ok-regions.ensures ∙ ap (map (numbered_claims c.weave_pieces.new.weave c.args.scene.now)) c.deref-5.ensures.value in
    subst (All (λ (r : RegionClaims). length r.claims ≡ length (intervals_of c.weave_pieces.new.weave))) (sym c.deref-6.ensures.value)
    (scene_rows_met c.args.scene.now c.args.ray.now.origin (direction_of c.args.ray.now) c.in_ok-pieces.pieces.items (has_length _ c.requires.some) c.in_ok-pieces.ensures.sound c.in_ok-pieces.ensures.pieces c.weave_pieces.new.weave c.in_ok-numbers.numbers.items c.in_ok-regions.regions.items woven_is numbers_are rows_are)

pub slabs_by-requires-clause-cuts : goal.slabs_by-requires-clause-cuts
slabs_by-requires-clause-cuts c = cuts_some c.deref-7.result.now (map segment_of_piece c.deref-2.result.now) (c.deref-7.ensures.value ∙ c.in_ok-cuts.ensures.cuts)

pub slabs_by-requires-clause-regions : goal.slabs_by-requires-clause-regions
slabs_by-requires-clause-regions c =
    let numbers_are : c.in_ok-numbers.numbers.items ≡ owners_noted (owned_from 0 c.args.scene.now) (map segment_of_piece c.in_ok-pieces.pieces.items) [] =
    c.in_ok-numbers.ensures ∙ ap (λ (l : List Piece). owners_noted (owned_from 0 c.args.scene.now) (map segment_of_piece l) []) c.deref.ensures.value in
    let woven_is : c.weave_pieces.new.weave ≡ woven_by_ranks FAR (map segment_of_piece c.in_ok-pieces.pieces.items) =
    c.in_ok-weave_pieces.ensures ∙ ap (λ (l : List Piece). woven_by_ranks FAR (map segment_of_piece l)) c.deref-4.ensures.value in
    let rows_are : c.in_ok-regions.regions.items ≡ map (numbered_claims c.weave_pieces.new.weave c.args.scene.now) c.in_ok-numbers.numbers.items =
    c.in_ok-regions.ensures ∙ ap (map (numbered_claims c.weave_pieces.new.weave c.args.scene.now)) c.deref-5.ensures.value in
    let parts_are : c.in_ok-partitions.partitions.items ≡ partitions_of c.weave_pieces.new.weave c.in_ok-regions.regions.items = c.in_ok-partitions.ensures ∙ ap (partitions_of c.weave_pieces.new.weave) c.deref-6.ensures.value in
    subst (λ (ns : List ℕ). All (λ (p : Partition). p.region < length ns) c.deref-9.result.now) (sym c.deref-8.ensures.value)
    (subst (All (λ (p : Partition). p.region < length c.in_ok-numbers.numbers.items)) (sym c.deref-9.ensures.value)
    (scene_parts_within c.args.scene.now c.args.ray.now.origin (direction_of c.args.ray.now) c.in_ok-pieces.pieces.items (has_length _ c.requires.some) c.in_ok-pieces.ensures.sound c.in_ok-pieces.ensures.pieces c.weave_pieces.new.weave c.in_ok-numbers.numbers.items c.in_ok-regions.regions.items woven_is numbers_are rows_are c.in_ok-partitions.partitions.items parts_are))

pub returns-clause-slabs : goal.returns-clause-slabs
returns-clause-slabs c =
    let numbers_are : c.in_ok-numbers.numbers.items ≡ owners_noted (owned_from 0 c.args.scene.now) (map segment_of_piece c.in_ok-pieces.pieces.items) [] =
    c.in_ok-numbers.ensures ∙ ap (λ (l : List Piece). owners_noted (owned_from 0 c.args.scene.now) (map segment_of_piece l) []) c.deref.ensures.value in
    let cuts_are : c.in_ok-cuts.cuts.items ≡ cuts_along (slant_up_to FAR) (map segment_of_piece c.in_ok-pieces.pieces.items) =
    c.in_ok-cuts.ensures.cuts ∙ ap (λ (l : List Piece). cuts_along (slant_up_to FAR) (map segment_of_piece l)) c.deref-2.ensures.value in
    let woven_is : c.weave_pieces.new.weave ≡ woven_by_ranks FAR (map segment_of_piece c.in_ok-pieces.pieces.items) =
    c.in_ok-weave_pieces.ensures ∙ ap (λ (l : List Piece). woven_by_ranks FAR (map segment_of_piece l)) c.deref-4.ensures.value in
    let rows_are : c.in_ok-regions.regions.items ≡ map (numbered_claims c.weave_pieces.new.weave c.args.scene.now) c.in_ok-numbers.numbers.items =
    c.in_ok-regions.ensures ∙ ap (map (numbered_claims c.weave_pieces.new.weave c.args.scene.now)) c.deref-5.ensures.value in
    let parts_are : c.in_ok-partitions.partitions.items ≡ partitions_of c.weave_pieces.new.weave c.in_ok-regions.regions.items = c.in_ok-partitions.ensures ∙ ap (partitions_of c.weave_pieces.new.weave) c.deref-6.ensures.value in
    let slabs_are : map (λ (p : Partition). slab_by_ranks c.deref-7.result.now (renumbered c.deref-8.result.now p)) c.deref-9.result.now ≡ map (λ (p : Partition). slab_by_ranks c.in_ok-cuts.cuts.items (renumbered c.in_ok-numbers.numbers.items p)) c.in_ok-partitions.partitions.items =
    ap (λ (l : List Partition). map (λ (p : Partition). slab_by_ranks c.deref-7.result.now (renumbered c.deref-8.result.now p)) l) c.deref-9.ensures.value
    ∙ ap (λ (ns : List ℕ). map (λ (p : Partition). slab_by_ranks c.deref-7.result.now (renumbered ns p)) c.in_ok-partitions.partitions.items) c.deref-8.ensures.value
    ∙ ap (λ (cs : List QPos). map (λ (p : Partition). slab_by_ranks cs (renumbered c.in_ok-numbers.numbers.items p)) c.in_ok-partitions.partitions.items) c.deref-7.ensures.value in
    IfOk-weaker c.slabs_by.result (λ v. v.items ≡ map (λ (p : Partition). slab_by_ranks c.deref-7.result.now (renumbered c.deref-8.result.now p)) c.deref-9.result.now)
    (λ v. v.items ≡ slabs_on c.args.scene.now c.args.ray.now.origin (direction_of c.args.ray.now))
    (λ v h. slabs_found c.args.scene.now c.args.ray.now.origin (direction_of c.args.ray.now) c.in_ok-pieces.pieces.items (has_length _ c.requires.some) c.in_ok-pieces.ensures.sound c.in_ok-pieces.ensures.pieces c.weave_pieces.new.weave c.in_ok-numbers.numbers.items c.in_ok-regions.regions.items woven_is numbers_are rows_are c.in_ok-partitions.partitions.items parts_are c.in_ok-pieces.ensures.leaves
    c.in_ok-cuts.cuts.items v.items cuts_are (h ∙ slabs_are))
    c.slabs_by.ensures

pub returns-clause-regions : goal.returns-clause-regions
returns-clause-regions c =
    let numbers_are : c.in_ok-numbers.numbers.items ≡ owners_noted (owned_from 0 c.args.scene.now) (map segment_of_piece c.in_ok-pieces.pieces.items) [] =
    c.in_ok-numbers.ensures ∙ ap (λ (l : List Piece). owners_noted (owned_from 0 c.args.scene.now) (map segment_of_piece l) []) c.deref.ensures.value in
    let cuts_are : c.in_ok-cuts.cuts.items ≡ cuts_along (slant_up_to FAR) (map segment_of_piece c.in_ok-pieces.pieces.items) =
    c.in_ok-cuts.ensures.cuts ∙ ap (λ (l : List Piece). cuts_along (slant_up_to FAR) (map segment_of_piece l)) c.deref-2.ensures.value in
    let woven_is : c.weave_pieces.new.weave ≡ woven_by_ranks FAR (map segment_of_piece c.in_ok-pieces.pieces.items) =
    c.in_ok-weave_pieces.ensures ∙ ap (λ (l : List Piece). woven_by_ranks FAR (map segment_of_piece l)) c.deref-4.ensures.value in
    let rows_are : c.in_ok-regions.regions.items ≡ map (numbered_claims c.weave_pieces.new.weave c.args.scene.now) c.in_ok-numbers.numbers.items =
    c.in_ok-regions.ensures ∙ ap (map (numbered_claims c.weave_pieces.new.weave c.args.scene.now)) c.deref-5.ensures.value in
    let parts_are : c.in_ok-partitions.partitions.items ≡ partitions_of c.weave_pieces.new.weave c.in_ok-regions.regions.items = c.in_ok-partitions.ensures ∙ ap (partitions_of c.weave_pieces.new.weave) c.deref-6.ensures.value in
    let slabs_are : map (λ (p : Partition). slab_by_ranks c.deref-7.result.now (renumbered c.deref-8.result.now p)) c.deref-9.result.now ≡ map (λ (p : Partition). slab_by_ranks c.in_ok-cuts.cuts.items (renumbered c.in_ok-numbers.numbers.items p)) c.in_ok-partitions.partitions.items =
    ap (λ (l : List Partition). map (λ (p : Partition). slab_by_ranks c.deref-7.result.now (renumbered c.deref-8.result.now p)) l) c.deref-9.ensures.value
    ∙ ap (λ (ns : List ℕ). map (λ (p : Partition). slab_by_ranks c.deref-7.result.now (renumbered ns p)) c.in_ok-partitions.partitions.items) c.deref-8.ensures.value
    ∙ ap (λ (cs : List QPos). map (λ (p : Partition). slab_by_ranks cs (renumbered c.in_ok-numbers.numbers.items p)) c.in_ok-partitions.partitions.items) c.deref-7.ensures.value in
    IfOk-weaker c.slabs_by.result (λ v. v.items ≡ map (λ (p : Partition). slab_by_ranks c.deref-7.result.now (renumbered c.deref-8.result.now p)) c.deref-9.result.now)
    (λ v. All (λ (s : Slab). s.region < length c.args.scene.now) v.items)
    (λ v h. slabs_within c.args.scene.now c.args.ray.now.origin (direction_of c.args.ray.now) c.in_ok-pieces.pieces.items (has_length _ c.requires.some) c.in_ok-pieces.ensures.sound c.in_ok-pieces.ensures.pieces c.weave_pieces.new.weave c.in_ok-numbers.numbers.items c.in_ok-regions.regions.items woven_is numbers_are rows_are c.in_ok-partitions.partitions.items parts_are c.in_ok-pieces.ensures.leaves
    c.in_ok-cuts.cuts.items v.items cuts_are (h ∙ slabs_are))
    c.slabs_by.ensures

pub returns-clause-points : goal.returns-clause-points
returns-clause-points c =
    IfOk-weaker c.slabs_by.result (λ v. v.items ≡ slabs_on c.args.scene.now c.args.ray.now.origin (direction_of c.args.ray.now)) (λ v. IsTrueOfSlant FAR c.args.scene.now c.args.ray.now.origin (direction_of c.args.ray.now) v.items)
    (λ v h. slabs_tell c.args.scene.now c.args.ray.now.origin (direction_of c.args.ray.now) v.items (has_length _ c.requires.some) c.in_ok-pieces.ensures.sound c.in_ok-pieces.ensures.leaves h)
    (returns-clause-slabs c)

pub returns-clause-axes : goal.returns-clause-axes
returns-clause-axes c =
    IfOk-weaker c.slabs_by.result (λ v. v.items ≡ slabs_on c.args.scene.now c.args.ray.now.origin (direction_of c.args.ray.now))
    (λ v. (plain : Ray) → plain.origin ≡ c.args.ray.now.origin → unit_of plain.dir ≡ direction_of c.args.ray.now → v.items ≡ map slab_of_lit (lit_of c.args.scene.now plain))
    (λ v h. slabs_plain c.args.scene.now c.args.ray.now.origin (direction_of c.args.ray.now) v.items h)
    (returns-clause-slabs c)
