-- The partitions of a ray are what its pieces make, woven, claimed and settled by ranks.
use Rattle.std.proofs.Common.{◌≡◌, ◌<◌, ◌^◌, ℕ, zero, pos, ◌<ℤ◌, List, [], ◌∷◌, length, map, get_or, All, ap, sym, ◌∙◌, subst, refl, arith}
use Rattle.std.proofs.lemmas.Int.{ints}
use Rattle.std.proofs.lemmas.List.{length-map}
use Rattle.std.proofs.lemmas.List.Elements.{All-map}
use Rattle.lattice_core.specs.declared.limit.TheConstants.{FAR}
use Rattle.lattice_core.specs.declared.ray.Ray.{Ray}
use Rattle.lattice_core.specs.declared.vector.V3.{V3}
use Rattle.lattice_core.specs.Units.{unit_of}
use Rattle.plane_geom.specs.Chords.{length_squared}
use Rattle.bool_weave.specs.declared.woven.Woven.{Woven}
use Rattle.bool_weave.specs.Claims.{intervals_of}
use Rattle.bool_weave.specs.Cuts.{IsWoven}
use Rattle.bool_weave.specs.Lines.{arranged, cuts_along}
use Rattle.overlap_list.specs.declared.partition.Partition.{Partition}
use Rattle.overlap_list.specs.declared.region.RegionClaims.{RegionClaims}
use Rattle.overlap_list.specs.Firsts.{partitions_by}
use Rattle.overlap_list.specs.Partitions.{partitions_of}
use Rattle.order_laws.specs.Parts.{Part}
use Rattle.shot_core.specs.FirstShots.{trees_of}
use Rattle.shot_core.specs.Regions.{Region, IsScene, HaveInstances}
use Rattle.shot_core.specs.Shots.{claims_from, lit_of}
use Rattle.shot_core.specs.Steps.{has_some, marked_from, numbered_claims, owned_from, renumbered}
use Rattle.shot_core.proofs.FirstShots.{claims_by_trees}
use Rattle.shot_core.proofs.Picking.{map_twice}
use Rattle.shot_core.proofs.Shooting.{empty_from}
use Rattle.slant_ranks.specs.Laws.{AreToldByRanks}
use Rattle.slant_ranks.specs.Slants.{SlantSegment, slant_up_to, woven_by_ranks, slant_part_by_ranks}
use Rattle.slant_ranks.proofs.Ranked.{slants_are_told_by_ranks}
use Rattle.surd_quot.specs.declared.position.QPos.{QPos}
use Rattle.surd_quot.specs.PlaceOrder.{quotient_cmp}
use Rattle.oblique_ray.specs.declared.piece.Piece.{Piece}
use Rattle.oblique_ray.specs.declared.slab.Slab.{Slab}
use Rattle.oblique_ray.specs.CutSteps.{segment_of_piece}
use Rattle.oblique_ray.specs.Points.{IsTrueOfSlant}
use Rattle.oblique_ray.specs.ShotSteps.{slab_by_ranks, owners_noted}
use Rattle.oblique_ray.specs.Shots.{segments_on, slab_of, slab_of_lit, slabs_on}
use Rattle.oblique_ray.proofs.PieceLaws.{ends_of, put_some, scene_can_be_woven, scene_segments_few}
use Rattle.oblique_ray.proofs.Reached.{has_stretch, touched_are}
use Rattle.oblique_ray.proofs.SlabTruth.{true_of_slant}
use Rattle.oblique_ray.proofs.ShotAxes.{partitions_along_axes}
use Rattle.oblique_ray.proofs.Touched.{rows_met, rows_few, numbers_below, parts_within, parts_picked}

far_some : pos 0 <ℤ FAR
far_some = omega (arith, ints)

slabs_same : (segments : List SlantSegment) (parts : List Partition) → map (slab_by_ranks (cuts_along (slant_up_to FAR) segments)) parts ≡ map slab_of (map (slant_part_by_ranks FAR segments) parts)
slabs_same segments [] = refl
slabs_same segments (p ∷ ps) = ap (λ (l : List Slab). slab_of (slant_part_by_ranks FAR segments p) ∷ l) (slabs_same segments ps)

all_none : {X : Type 0} (P : X → Type 0) (xs : List X) → ((x : X) → P x → ⊥) → All P xs → xs ≡ []
all_none P [] never all = refl
all_none P (x ∷ xs) never all = absurd (never x (all zero x (omega arith)))

module _ (regions : List Region) (o e : V3) (pieces : List Piece) (some : pos 0 <ℤ length_squared e) (sound : IsScene regions) (pieces_are : map segment_of_piece pieces ≡ segments_on regions o e) where
  told : AreToldByRanks FAR (segments_on regions o e)
  told = slants_are_told_by_ranks FAR (segments_on regions o e) far_some (scene_can_be_woven regions o e some sound)

  pub pieces_woven : IsWoven (woven_by_ranks FAR (map segment_of_piece pieces))
  pieces_woven = subst (λ (segments : List SlantSegment). IsWoven (woven_by_ranks FAR segments)) (sym pieces_are) told.woven

  pub pieces_few : length pieces < 2 ^ 31
  pieces_few = omega (arith, ap length pieces_are, length-map pieces segment_of_piece, scene_segments_few regions o e sound)

  module _ (woven : List Woven) (numbers : List ℕ) (rows : List RegionClaims)
      (woven_is : woven ≡ woven_by_ranks FAR (map segment_of_piece pieces)) (numbers_are : numbers ≡ owners_noted (owned_from 0 regions) (map segment_of_piece pieces) [])
      (rows_are : rows ≡ map (numbered_claims woven regions) numbers) where
    woven_on : woven ≡ woven_by_ranks FAR (segments_on regions o e)
    woven_on = woven_is ∙ ap (λ (l : List SlantSegment). woven_by_ranks FAR l) pieces_are

    numbers_on : numbers ≡ marked_from 0 (map (has_some (has_stretch o e)) regions)
    numbers_on = numbers_are ∙ ap (λ (l : List SlantSegment). owners_noted (owned_from 0 regions) l []) pieces_are ∙ touched_are o e regions

    pub scene_rows_met : All (λ r. length r.claims ≡ length (intervals_of woven)) rows
    scene_rows_met = rows_met o e regions woven numbers rows woven_on numbers_on rows_are

    pub scene_rows_few : length rows < 2 ^ 31
    scene_rows_few = rows_few o e regions woven numbers rows woven_on numbers_on rows_are sound

    pub scene_numbers_below : All (λ n. n < length regions) numbers
    scene_numbers_below = numbers_below o e regions woven numbers rows woven_on numbers_on rows_are

    module _ (parts : List Partition) (parts_are : parts ≡ partitions_of woven rows) where
      pub scene_parts_within : All (λ p. p.region < length numbers) parts
      scene_parts_within = subst (All (λ (p : Partition). p.region < length numbers)) (sym parts_are) (parts_within o e regions woven numbers rows woven_on numbers_on rows_are)

      module _ (leaves : HaveInstances regions) (cuts : List QPos) (slabs : List Slab) (cuts_are : cuts ≡ cuts_along (slant_up_to FAR) (map segment_of_piece pieces))
          (slabs_are : slabs ≡ map (λ p. slab_by_ranks cuts (renumbered numbers p)) parts) where
        all_slabs : slabs ≡ map (slab_by_ranks cuts) (partitions_of woven (claims_from woven 0 regions))
        all_slabs =
            slabs_are
            ∙ ap (map (λ (p : Partition). slab_by_ranks cuts (renumbered numbers p))) parts_are
            ∙ sym (map_twice (slab_by_ranks cuts) (renumbered numbers) (partitions_of woven rows))
            ∙ ap (map (slab_by_ranks cuts)) (parts_picked o e regions woven numbers rows woven_on numbers_on rows_are leaves)

        pub slabs_found : slabs ≡ slabs_on regions o e
        slabs_found =
            let segments : List SlantSegment = segments_on regions o e in
            let settled : partitions_of woven (claims_from woven 0 regions) ≡ partitions_by (woven_by_ranks FAR segments) (trees_of regions) =
            ap (λ (l : List RegionClaims). partitions_of woven l) (claims_by_trees woven 0 regions)
            ∙ ap (λ (w : List Woven). partitions_by w (trees_of regions)) woven_on in
            all_slabs
            ∙ ap (λ (cs : List QPos). map (slab_by_ranks cs) (partitions_of woven (claims_from woven 0 regions))) (cuts_are ∙ ap (λ (l : List SlantSegment). cuts_along (slant_up_to FAR) l) pieces_are)
            ∙ ap (λ (l : List Partition). map (slab_by_ranks (cuts_along (slant_up_to FAR) segments)) l) settled
            ∙ slabs_same segments (partitions_by (woven_by_ranks FAR segments) (trees_of regions))
            ∙ sym (ap (λ (l : List (Part QPos)). map slab_of l) (told.parts (trees_of regions)))

        -- the regions of partitions are among those of the scene
        pub slabs_within : All (λ s. s.region < length regions) slabs
        slabs_within =
            subst (λ (l : List Slab). All (λ s. s.region < length regions) l) (sym slabs_are)
            (All-map (λ (s : Slab). s.region < length regions) (λ (p : Partition). slab_by_ranks cuts (renumbered numbers p)) parts
            (λ k d lt. scene_numbers_below (get_or parts k d).region 0 (scene_parts_within k d lt)))

  -- where there are no pieces there are no partitions
  pub slabs_none : HaveInstances regions → length pieces ≡ 0 → [] ≡ slabs_on regions o e
  slabs_none leaves none =
      let cuts : List QPos = cuts_along (slant_up_to FAR) (map segment_of_piece pieces) in
      let woven : List Woven = woven_by_ranks FAR (map segment_of_piece pieces) in
      let numbers : List ℕ = owners_noted (owned_from 0 regions) (map segment_of_piece pieces) [] in
      let rows : List RegionClaims = map (numbered_claims woven regions) numbers in
      let parts : List Partition = partitions_of woven rows in
      let empty : map segment_of_piece pieces ≡ [] = empty_from (map segment_of_piece pieces) (length-map pieces segment_of_piece ∙ none) in
      let short : numbers ≡ [] = ap (λ (l : List SlantSegment). owners_noted (owned_from 0 regions) l []) empty in
      let within : All (λ (p : Partition). p.region < length numbers) parts = scene_parts_within woven numbers rows refl refl refl parts refl in
      let bare : parts ≡ [] = all_none (λ (p : Partition). p.region < length numbers) parts (λ p lt. omega (arith, lt, ap length short)) within in
      sym (ap (map (λ (p : Partition). slab_by_ranks cuts (renumbered numbers p))) bare)
      ∙ slabs_found woven numbers rows refl refl refl parts refl leaves cuts (map (λ p. slab_by_ranks cuts (renumbered numbers p)) parts) refl refl

-- they are the one list that tells what lies at the points of the ray, and along an axis they are those of the plain ray
pub slabs_tell : (regions : List Region) (o e : V3) (slabs : List Slab) → pos 0 <ℤ length_squared e → IsScene regions → HaveInstances regions → slabs ≡ slabs_on regions o e → IsTrueOfSlant FAR regions o e slabs
slabs_tell regions o e slabs some sound leaves is =
    subst (λ (l : List Slab). IsTrueOfSlant FAR regions o e l) (sym is) (true_of_slant FAR regions o e far_some some sound.rising leaves)

pub slabs_plain : (regions : List Region) (o e : V3) (slabs : List Slab) → slabs ≡ slabs_on regions o e → (plain : Ray) → plain.origin ≡ o → unit_of plain.dir ≡ e → slabs ≡ map slab_of_lit (lit_of regions plain)
slabs_plain regions o e slabs is plain at along =
    is ∙ ap (λ (v : V3). slabs_on regions v e) (sym at) ∙ ap (λ (v : V3). slabs_on regions plain.origin v) (sym along) ∙ partitions_along_axes regions plain

pub cuts_some : (cuts : List QPos) (segments : List SlantSegment) → cuts ≡ cuts_along (slant_up_to FAR) segments → 0 < length cuts
cuts_some cuts segments cuts_are =
    subst (λ (l : List QPos). 0 < length l) (sym cuts_are) (put_some (slant_up_to FAR).from (arranged quotient_cmp ((slant_up_to FAR).to ∷ ends_of segments)))
