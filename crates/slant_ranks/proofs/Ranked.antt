-- Quotient positions have a total order, so ranks tell the parts of slanted rays.
use Rattle.std.proofs.Common.{◌≡◌, ℤ, pos, ◌<ℤ◌, ℕ, List, Bool, map, ap, sym, ◌∙◌, arith}
use Rattle.std.proofs.lemmas.Int.{ints}
use Rattle.std.proofs.lemmas.Map.Keys.{Less-from_sorted}
use Rattle.std.specs.Ordering.{is_lt}
use Rattle.std.specs.declared.cmp.Ordering.TheVariants.{Less}
use Rattle.surd_order.specs.declared.position.Pos.TheVariants as position
use Rattle.surd_quot.specs.declared.position.QPos.{QPos}
use Rattle.surd_quot.specs.declared.position.QPos.TheVariants.{Frac}
use Rattle.surd_quot.specs.PlaceOrder.{quotient_cmp}
use Rattle.surd_quot.proofs.PlaceOrderLaws.{quotient_cmp_total, position_comparison}
use Rattle.bool_weave.specs.Cuts.{ray_length, ray_up_to}
use Rattle.bool_weave.specs.Masks.{Mask}
use Rattle.bool_weave.specs.Lines.{Line, places_along, cuts_along, claims_along}
use Rattle.bool_weave.specs.Claims.{claims_of}
use Rattle.bool_weave.specs.declared.woven.Woven.{Woven}
use Rattle.bool_weave.proofs.Sorted.{has_from_contains, contains_from_has}
use Rattle.overlap_list.specs.declared.region.RegionClaims.{RegionClaims}
use Rattle.overlap_list.specs.Firsts.{TreeRegion, claims_by}
use Rattle.overlap_list.specs.Partitions.{partitions_of}
use Rattle.order_laws.specs.Parts.{parts_along}
use Rattle.order_laws.specs.Points.{row_along}
use Rattle.order_laws.specs.Ranks.{CanBeRanked, ranked, ranked_woven}
use Rattle.order_laws.proofs.Listed.{map_same}
use Rattle.order_laws.proofs.Arranged.{from_arranged}
use Rattle.order_laws.proofs.Moved.{claims_same}
use Rattle.order_laws.proofs.Ranked.{whole_less, reached, is_moved}
use Rattle.order_laws.proofs.Parts.{sorted, parts_are_told_by_ranks}
use Rattle.order_laws.proofs.Weaving.{ranks_can_be_woven}
use Rattle.order_laws.proofs.Points.{parts_tell_places}
use Rattle.slant_ranks.specs.Slants.{SlantSegment, slant_up_to, woven_by_ranks, slant_part_by_ranks}
use Rattle.slant_ranks.specs.Laws.{SlantsTellPlaces, CanBeWovenByRanks, AreSlantCuts, AreToldByRanks, SlantsAreToldByRanks}

forward : (far : ℤ) → pos 0 <ℤ far → quotient_cmp (Frac (pos 0) (pos 1)) (Frac far (pos 1)) ≡ Less
forward far some = position_comparison (position.Frac (pos 0) (pos 1)) (position.Frac far (pos 1)) (omega (arith, ints)) (omega (arith, ints)) ∙ whole_less (pos 0) far some

can_be_ranked : (far : ℤ) (segments : List SlantSegment) → pos 0 <ℤ far → CanBeWovenByRanks far segments → CanBeRanked (slant_up_to far) ray_length segments
can_be_ranked far segments some k = record { total = quotient_cmp_total; forward = ap is_lt (forward far some); along = k.along; room = k.room }

abbrev row_of : TreeRegion → List Bool → RegionClaims
row_of r claims = record { air = r.air; first = r.first; count = r.count; claims = claims }

-- where trees claim the same of two rays, regions have the same rows
pub rows_same : {W P : Type 0} (line : Line W P) (segments : List W) (woven : List Woven) → ((tree : Mask) (first : ℕ) → claims_along line segments tree first ≡ claims_of woven tree first)
    → (regions : List TreeRegion) → map (row_along line segments) regions ≡ map (claims_by woven) regions
rows_same line segments woven same regions = map_same (row_along line segments) (claims_by woven) regions (λ r m. ap (row_of r) (same r.tree r.first))

module _ (far : ℤ) (segments : List SlantSegment) (some : pos 0 <ℤ far) (k : CanBeWovenByRanks far segments) where
  abbrev line : Line SlantSegment QPos
  line = slant_up_to far

  ranks : CanBeRanked line ray_length segments
  ranks = can_be_ranked far segments some k

  claims : (tree : Mask) (first : ℕ) → claims_of (woven_by_ranks far segments) tree first ≡ claims_along line segments tree first
  claims tree first = claims_same line (ray_up_to ray_length) (ranked line ray_length segments) (ranked_woven line ray_length segments) segments (is_moved line ray_length segments ranks) tree first

  rows : (regions : List RegionClaims) → parts_along line segments regions ≡ map (slant_part_by_ranks far segments) (partitions_of (woven_by_ranks far segments) regions)
  rows regions = parts_are_told_by_ranks SlantSegment QPos line ray_length segments regions ranks

  in_order : AreSlantCuts far segments (cuts_along line segments)
  in_order = record {
    rising = λ i j d up lt. Less-from_sorted quotient_cmp (cuts_along line segments) i j d (sorted line ray_length segments ranks) up lt;
    among = λ x c. contains_from_has (places_along line segments) x (from_arranged quotient_cmp x (places_along line segments) (has_from_contains (cuts_along line segments) x c));
    all = λ x c. let it = reached quotient_cmp (places_along line segments) x quotient_cmp_total (has_from_contains (places_along line segments) x c) in
        record { cut = it.0; there = contains_from_has (cuts_along line segments) it.0 it.1; at = it.2 };
  }

  told : AreToldByRanks far segments
  told = record {
    cuts = in_order;
    woven = ranks_can_be_woven SlantSegment QPos line segments ranks k.rising;
    claims = claims;
    rows = rows;
    parts = λ regions. rows (map (row_along line segments) regions)
        ∙ ap (λ rs. map (slant_part_by_ranks far segments) (partitions_of (woven_by_ranks far segments) rs)) (rows_same line segments (woven_by_ranks far segments) (λ tree first. sym (claims tree first)) regions);
  }

pub slants_are_told_by_ranks : SlantsAreToldByRanks
slants_are_told_by_ranks far segments some k = told far segments some k

pub slants_tell_places : SlantsTellPlaces
slants_tell_places far segments regions x n some along clear =
    parts_tell_places SlantSegment QPos (slant_up_to far) segments regions x n (record { total = quotient_cmp_total; forward = ap is_lt (forward far some); along = along }) clear
