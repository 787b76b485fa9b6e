-- Plain rays among slanted ones: their positions are the quotient positions by 1, in the same order.
use Rattle.std.proofs.Common.{ℤ, List, map, ap, sym, ◌∙◌, subst, refl, inl, inr, ⊎_elim, arith, length}
use Rattle.std.proofs.lemmas.Int.{ints}
use Rattle.surd_order.specs.declared.position.Pos.{Pos}
use Rattle.surd_order.specs.Order.{IsPlace}
use Rattle.surd_quot.specs.declared.position.QPos.{QPos}
use Rattle.surd_quot.specs.Positions.{as_quotient_position}
use Rattle.surd_quot.proofs.PlaceOrderLaws.{position_comparison}
use Rattle.bool_weave.specs.declared.woven.Woven.{Woven}
use Rattle.bool_weave.specs.Lines.{places_along}
use Rattle.bool_weave.specs.Cuts.{ray_length, ray_up_to}
use Rattle.bool_weave.specs.Claims.{intervals_up_to}
use Rattle.bool_weave.proofs.Sorted.{Has, has_from_contains}
use Rattle.bool_weave.proofs.Cutting.{end_of_some}
use Rattle.overlap_list.specs.Firsts.{claims_by}
use Rattle.overlap_list.specs.Partitions.{won_runs, partition_up_to}
use Rattle.order_laws.specs.Moving.{IsMoved}
use Rattle.order_laws.specs.Parts.{part_along, parts_along, moved_part}
use Rattle.order_laws.proofs.Listed.{has_all, map_twice}
use Rattle.order_laws.proofs.Moved.{claims_same}
use Rattle.order_laws.proofs.Parts.{parts_are_moved}
use Rattle.slant_ranks.specs.Slants.{SlantSegment, slant_up_to, slant_of, part_of_partition}
use Rattle.slant_ranks.specs.Laws.{HavePlaces, PlainRaysAreSlants, PlainRaysHaveSlantParts}
use Rattle.slant_ranks.proofs.Ranked.{rows_same}

module _ (far : ℤ) (woven : List Woven) (places : HavePlaces woven) where
  placed : (x : Pos) → Has (places_along (ray_up_to far) woven) x → IsPlace x
  placed x (inl e) = subst IsPlace e (omega (arith, ints))
  placed x (inr (inl e)) = subst IsPlace e (omega (arith, ints))
  placed x (inr (inr there)) =
      let w = end_of_some woven x there in
      let both = has_all (λ (v : Woven). IsPlace v.seg.start × IsPlace v.seg.end) woven places w.0 w.1 in
      ⊎_elim (λ e. subst IsPlace e both.0) (λ e. subst IsPlace e both.1) w.2

  is_slant : IsMoved (ray_up_to far) (slant_up_to far) as_quotient_position slant_of woven
  is_slant = record {
    from = refl;
    to = refl;
    carried = λ k d lt. record { instance = refl; start = refl; end = refl };
    order = λ x y p q. position_comparison x y (placed x (has_from_contains (places_along (ray_up_to far) woven) x p)) (placed y (has_from_contains (places_along (ray_up_to far) woven) y q));
  }

pub plain_rays_are_slants : PlainRaysAreSlants
plain_rays_are_slants far woven places = record {
  claims = λ tree first. claims_same (ray_up_to far) (slant_up_to far) as_quotient_position slant_of woven (is_slant far woven places) tree first;
  rows = λ regions. parts_are_moved Woven Pos SlantSegment QPos (ray_up_to far) (slant_up_to far) as_quotient_position slant_of woven regions (is_slant far woven places)
      ∙ (map_twice (moved_part as_quotient_position) (part_along (ray_up_to far) woven regions) (won_runs regions (length (intervals_up_to far woven)))
      ∙ sym (map_twice part_of_partition (partition_up_to far woven regions) (won_runs regions (length (intervals_up_to far woven)))));
}

pub plain_rays_have_slant_parts : PlainRaysHaveSlantParts
plain_rays_have_slant_parts woven regions places =
    let slant = plain_rays_are_slants ray_length woven places in
    ap (parts_along (slant_up_to ray_length) (map slant_of woven)) (rows_same (slant_up_to ray_length) (map slant_of woven) woven slant.claims regions)
    ∙ slant.rows (map (claims_by woven) regions)
