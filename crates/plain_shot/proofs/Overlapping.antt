-- The overlaps of a ray, from what was read of it.
use Rattle.std.proofs.Common.{◌≡◌, ◌∙◌, ◌-◌, List, length, ap}
use Rattle.std.specs.List.{filter_map}
use Rattle.bool_weave.specs.declared.woven.Woven.{Woven}
use Rattle.overlap_list.specs.declared.region.RegionClaims.{RegionClaims}
use Rattle.overlap_list.specs.Overlaps.{RegionPair, pairs_up_to, first_overlap, overlaps_of}

pub overlaps_are : (seen woven : List Woven) (read claims : List RegionClaims) (pairs : List RegionPair) → seen ≡ woven → read ≡ claims → pairs ≡ pairs_up_to (length read - 1)
    → filter_map (first_overlap seen read) pairs ≡ overlaps_of woven claims
overlaps_are seen woven read claims pairs one two three =
    ap (λ (ps : List RegionPair). filter_map (first_overlap seen read) ps) three ∙ ap (λ (ws : List Woven). overlaps_of ws read) one ∙ ap (λ (rs : List RegionClaims). overlaps_of woven rs) two
