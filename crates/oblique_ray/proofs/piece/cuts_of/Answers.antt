use Rattle.std.proofs.Common.{List, sym, subst, ap, ◌∙◌, arith}
use Rattle.bool_weave.specs.Lines.{arranged}
use Rattle.slant_ranks.specs.Slants.{SlantSegment}
use Rattle.surd_quot.specs.PlaceOrder.{quotient_cmp}
use Rattle.oblique_ray.specs.CutSteps.{AreRising}
use Rattle.oblique_ray.proofs.CutLaws.{none_rising, put_rising}
use Rattle.oblique_ray.proofs.PieceLaws.{drop_none, two_put, ends_of, start_in_range, end_in_range}
use Rattle.oblique_ray.proofs.piece.cuts_of.Goals as goal

pub loop-i-init : goal.loop-i-init
loop-i-init c = record {
  within = omega arith;
  rising = subst AreRising (sym c.new-cuts.ensures.items) none_rising;
  made = c.new-cuts.ensures.items ∙ sym (ap (λ (l : List SlantSegment). arranged quotient_cmp (ends_of l)) (drop_none c.args.pieces.now));
}

pub put-requires-in-loop-i-clause-places : goal.put-requires-in-loop-i-clause-places
put-requires-in-loop-i-clause-places c =
    subst AreRising (sym c.in_ok-put.ensures) (put_rising _ _ c.loop-i.invariant.rising (c.requires _ _ (omega (arith, c.loop-i-test.true, c.loop-i.invariant.within))).1)

pub loop-i-preserved : goal.loop-i-preserved
loop-i-preserved c =
    let one : AreRising c.put.new.places.items = subst AreRising (sym c.in_ok-put.ensures) (put_rising _ _ c.loop-i.invariant.rising (c.requires _ _ (omega (arith, c.loop-i-test.true, c.loop-i.invariant.within))).1) in
    record {
      within = omega (arith, c.loop-i.invariant.within);
      rising = subst AreRising (sym c.in_ok-put-2.ensures) (put_rising _ _ one (c.requires _ _ (omega (arith, c.loop-i-test.true, c.loop-i.invariant.within))).0);
      made = two_put c.args.pieces.now c.loop-i.i _ _ _ _ (omega (arith, c.loop-i-test.true)) c.loop-i.invariant.within c.loop-i.invariant.made c.in_ok-put.ensures c.in_ok-put-2.ensures;
    }

pub put-requires-3-clause-places : goal.put-requires-3-clause-places
put-requires-3-clause-places c = subst AreRising (sym c.in_ok-put-3.ensures) (put_rising _ _ c.loop-i.invariant.rising end_in_range)

pub returns-clause-rising : goal.returns-clause-rising
returns-clause-rising c =
    subst AreRising (sym c.in_ok-put-4.ensures) (put_rising _ _ (subst AreRising (sym c.in_ok-put-3.ensures) (put_rising _ _ c.loop-i.invariant.rising end_in_range)) start_in_range)
