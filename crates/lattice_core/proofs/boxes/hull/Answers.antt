use Rattle.std.proofs.Common.{refl, subst, sym, inl}
use Rattle.std.proofs.lemmas.Bool.{false≢true}
use Rattle.lattice_core.specs.declared.boxes.Box3.{Box3}
use Rattle.lattice_core.specs.Boxes.{IsHull, IsTidy}
use Rattle.lattice_core.proofs.Boxing.{hull_is, hull_tidy, hull_first_none, hull_none_with, nonempty_some, tidy_is}
use Rattle.lattice_core.proofs.boxes.hull.Goals as goal

pub returns-then-not-has_points-clause-hull : goal.returns-then-not-has_points-clause-hull
returns-then-not-has_points-clause-hull c = hull_first_none c.args.a.now c.args.b.now c.tidy.result (λ p. false≢true (c.if-not-has_points.ensures.1 p)) c.tidy.ensures

pub returns-then-not-has_points-clause-tidy : goal.returns-then-not-has_points-clause-tidy
returns-then-not-has_points-clause-tidy c = tidy_is c.args.b.now c.tidy.result c.tidy.ensures

pub returns-then-not-has_points-2-clause-hull : goal.returns-then-not-has_points-2-clause-hull
returns-then-not-has_points-2-clause-hull c = hull_none_with _ _ (λ p. false≢true (c.if-not-has_points-2.ensures.1 p))

pub returns-then-not-has_points-2-clause-tidy : goal.returns-then-not-has_points-2-clause-tidy
returns-then-not-has_points-2-clause-tidy c = inl (nonempty_some _ (c.if-not-has_points.ensures.0 refl))

pub returns-clause-hull : goal.returns-clause-hull
returns-clause-hull c =
    subst (λ (b : Box3). IsHull b c.args.a.now c.args.b.now) (sym c.hull_of_spans.ensures)
    (hull_is c.args.a.now c.args.b.now (c.if-not-has_points.ensures.0 refl) (c.if-not-has_points-2.ensures.0 refl))

pub returns-clause-tidy : goal.returns-clause-tidy
returns-clause-tidy c =
    subst IsTidy (sym c.hull_of_spans.ensures)
    (hull_tidy c.args.a.now c.args.b.now (c.if-not-has_points.ensures.0 refl) (c.if-not-has_points-2.ensures.0 refl))
