-- What the regions that a ray touches claim stands for what all claim, since a region without segments claims nothing.
use Rattle.std.proofs.Common.{◌≡◌, ◌<◌, ◌+◌, ◌^◌, ℕ, zero, suc, List, [], ◌∷◌, length, map, get_or, slice_get, Bool, false, Option, Some, None, All, refl, ap, sym, subst, ◌∙◌, inl, inr, arith}
use Rattle.std.proofs.lemmas.Bool.{cases_Bool, true≢false}
use Rattle.std.proofs.lemmas.List.{get_or-map, length-map}
use Rattle.std.proofs.lemmas.List.Elements.{All-map}
use Rattle.lattice_core.specs.declared.limit.TheConstants.{FAR}
use Rattle.lattice_core.specs.declared.vector.V3.{V3}
use Rattle.bool_weave.specs.declared.woven.Woven.{Woven}
use Rattle.bool_weave.specs.Claims.{intervals_of, claims_interval, spans}
use Rattle.bool_weave.specs.Cuts.{ray_length}
use Rattle.bool_weave.proofs.Sorted.{Has, has_append_cases}
use Rattle.overlap_list.specs.declared.region.RegionClaims.{RegionClaims}
use Rattle.overlap_list.specs.Partitions.{partitions_of}
use Rattle.overlap_list.proofs.Ordered.{all_from_has}
use Rattle.overlap_list.proofs.Parts.{partitions_are_won}
use Rattle.order_laws.specs.Ranks.{ranked_woven}
use Rattle.shot_core.specs.Regions.{Instance, Region, IsScene, HaveInstances, instances_of, firsts_from}
use Rattle.shot_core.specs.Shots.{claims_from}
use Rattle.shot_core.specs.Steps.{has_some, marked_from, no_region, numbered_claims, renumbered}
use Rattle.shot_core.proofs.Claiming.{SpansNothing, out_from, numbered_kept, marked_below, marked_short, regions_within}
use Rattle.shot_core.proofs.InBoxes.{spanning}
use Rattle.shot_core.proofs.Picking.{kept, LeavesOut, ClaimsNothing, partitions_kept}
use Rattle.shot_core.proofs.Pointing.{has_mapped}
use Rattle.slant_ranks.specs.Slants.{SlantSegment, slant_up_to, woven_by_ranks}
use Rattle.oblique_ray.specs.declared.piece.Piece.{Piece}
use Rattle.oblique_ray.specs.CutSteps.{segment_of_piece}
use Rattle.oblique_ray.specs.Segments.{Stretch, slant_segment}
use Rattle.oblique_ray.specs.Shots.{segment_if, segments_from, segments_on}
use Rattle.oblique_ray.proofs.Reached.{is_found, has_stretch}
use Rattle.oblique_ray.proofs.Segmented.{segment_of}

module _ (o e : V3) where
  -- ---- a segment is of no instance without one
  none_if : (first i : ℕ) (y : Instance) (ys : List Instance) (x : Instance) (w : SlantSegment) (found : Option Stretch) → slant_segment FAR y.surface o e ≡ found → slice_get (y ∷ ys) i ≡ Some x → has_stretch o e x ≡ false
      → Has (segment_if first found) w → ¬ (w.instance ≡ first + i)
  none_if first i y ys x w None is at none has = absurd has
  none_if first zero y ys x w (Some stretch) is at none has = λ same.
      let alike : y ≡ x = cc in
      true≢false (sym (ap is_found is) ∙ ap (has_stretch o e) alike ∙ none)
  none_if first (suc i) y ys x w (Some stretch) is at none has = λ same. elim has [
    | inl made ↦ let number : first ≡ w.instance = ap (λ (v : SlantSegment). v.instance) made in absurd (omega (arith, number, same))
    | inr more ↦ absurd more
  ]

  none_at : (first i : ℕ) (xs : List Instance) (x : Instance) (w : SlantSegment) → slice_get xs i ≡ Some x → has_stretch o e x ≡ false → Has (segments_from FAR o e first xs) w → ¬ (w.instance ≡ first + i)
  none_at first i [] x w at none has = absurd has
  none_at first zero (y ∷ ys) x w at none has = λ same. elim (has_append_cases (segment_if first (slant_segment FAR y.surface o e)) (segments_from FAR o e (first + 1) ys) w has) [
    | inl here ↦ none_if first zero y ys x w (slant_segment FAR y.surface o e) refl at none here same
    | inr more ↦
        let it = segment_of FAR o e (first + 1) ys w more in
        let number : it.number ≡ w.instance = ap (λ (v : SlantSegment). v.instance) it.made in
        absurd (omega (arith, number, it.not_lower, same))
  ]
  none_at first (suc i) (y ∷ ys) x w at none has = λ same. elim (has_append_cases (segment_if first (slant_segment FAR y.surface o e)) (segments_from FAR o e (first + 1) ys) w has) [
    | inl here ↦ none_if first (suc i) y ys x w (slant_segment FAR y.surface o e) refl at none here same
    | inr more ↦ none_at (first + 1) i ys x w at none more (omega (arith, same))
  ]

  spans_nothing : (rs : List Region) → SpansNothing (has_stretch o e) (woven_by_ranks FAR (segments_on rs o e)) 0 (instances_of rs)
  spans_nothing rs i x interval at none =
      let segments = segments_on rs o e in
      let woven = woven_by_ranks FAR segments in
      elim (cases_Bool (spans woven interval (0 + i))) [
        | inl spanned ↦
            let s = spanning woven interval (0 + i) spanned in
            let m = has_mapped (ranked_woven (slant_up_to FAR) ray_length segments) segments s.one s.there in
            let number : m.0.instance ≡ s.one.instance = ap (λ (v : Woven). v.instance) m.2 in
            absurd (none_at 0 i (instances_of rs) x m.0 at none m.1 (number ∙ s.number))
        | inr bare ↦ bare
      ]

  abbrev marks : List Region → List Bool
  marks rs = map (has_some (has_stretch o e)) rs

  -- ---- the weave of a ray, the numbers of the regions that are touched, and what these claim
  module _ (rs : List Region) (woven : List Woven) (numbers : List ℕ) (rows : List RegionClaims) (woven_is : woven ≡ woven_by_ranks FAR (segments_on rs o e)) (numbers_are : numbers ≡ marked_from 0 (marks rs))
      (rows_are : rows ≡ map (numbered_claims woven rs) numbers) where
    count : length rows ≡ length numbers
    count = ap length rows_are ∙ length-map numbers (numbered_claims woven rs)

    pub rows_met : All (λ r. length r.claims ≡ length (intervals_of woven)) rows
    rows_met =
        subst (λ (l : List RegionClaims). All (λ r. length r.claims ≡ length (intervals_of woven)) l) (sym rows_are)
        (All-map (λ (r : RegionClaims). length r.claims ≡ length (intervals_of woven)) (numbered_claims woven rs) numbers
        (λ k d lt. let n = get_or numbers k d in length-map (intervals_of woven) (claims_interval woven (get_or rs n no_region).body.tree (get_or (firsts_from 0 rs) n 0))))

    pub rows_few : IsScene rs → length rows < 2 ^ 31
    rows_few sound = omega (arith, count, ap length numbers_are, marked_short (marks rs) 0, length-map rs (has_some (has_stretch o e)), regions_within rs, sound.size)

    number_below : (n : ℕ) → Has numbers n → n < length rs
    number_below n there = omega (arith, marked_below (marks rs) 0 n (subst (λ (l : List ℕ). Has l n) numbers_are there), length-map rs (has_some (has_stretch o e)))

    pub numbers_below : All (λ n. n < length rs) numbers
    numbers_below = all_from_has (λ n. n < length rs) numbers number_below

    pub parts_within : All (λ p. p.region < length numbers) (partitions_of woven rows)
    parts_within k d lt =
        let part = partitions_are_won woven rows k d lt in
        omega (arith, (part.won part.run.from (omega arith) part.some).there, count)

    picked : rows ≡ kept (marks rs) (claims_from woven 0 rs)
    picked =
        rows_are ∙ ap (map (numbered_claims woven rs)) numbers_are ∙ numbered_kept woven rs (marks rs) (length-map rs (has_some (has_stretch o e)))

    -- their partitions are those of all regions, but for the regions' numbers
    pub parts_picked : HaveInstances rs → map (renumbered numbers) (partitions_of woven rows) ≡ partitions_of woven (claims_from woven 0 rs)
    parts_picked leaves =
        let out : LeavesOut ClaimsNothing (marks rs) (claims_from woven 0 rs) =
        subst (λ (w : List Woven). LeavesOut ClaimsNothing (marks rs) (claims_from w 0 rs)) (sym woven_is)
        (out_from (has_stretch o e) (woven_by_ranks FAR (segments_on rs o e)) 0 rs (spans_nothing rs) leaves) in
        ap (λ (ns : List ℕ). map (renumbered ns) (partitions_of woven rows)) numbers_are
        ∙ ap (λ (l : List RegionClaims). map (renumbered (marked_from 0 (marks rs))) (partitions_of woven l)) picked
        ∙ sym (partitions_kept (marks rs) (claims_from woven 0 rs) out woven)

  -- the pieces of a ray are of instances of the scene
  pub pieces_within : (rs : List Region) (pieces : List Piece) → map segment_of_piece pieces ≡ segments_on rs o e → All (λ p. p.instance < length (instances_of rs)) pieces
  pieces_within rs pieces pieces_are k d lt =
      let all : All (λ (w : SlantSegment). w.instance < length (instances_of rs)) (map segment_of_piece pieces) =
      subst (λ (l : List SlantSegment). All (λ (w : SlantSegment). w.instance < length (instances_of rs)) l) (sym pieces_are)
      (all_from_has (λ (w : SlantSegment). w.instance < length (instances_of rs)) (segments_on rs o e) (λ w has.
      let it = segment_of FAR o e 0 (instances_of rs) w has in
      let number : it.number ≡ w.instance = ap (λ (v : SlantSegment). v.instance) it.made in
      omega (arith, number, it.lower))) in
      let same : get_or (map segment_of_piece pieces) k (segment_of_piece d) ≡ segment_of_piece (get_or pieces k d) = get_or-map segment_of_piece pieces k d (segment_of_piece d) lt in
      let number = ap (λ (w : SlantSegment). w.instance) same in
      omega (arith, all k (segment_of_piece d) (omega (arith, lt, length-map pieces segment_of_piece)), number)
