use Rattle.std.proofs.Common.{◌≡◌, ◌∙◌, ◌+◌, ◌∷◌, [], List, Option, None, get_or, drop, ap, sym, arith}
use Rattle.std.proofs.lemmas.List.{drop_more, drop_all}
use Rattle.plane_geom.specs.declared.plane.Plane.{Plane}
use Rattle.oblique_ray.specs.Cuts.{planes_cut}
use Rattle.oblique_ray.specs.Runs.{run_past}
use Rattle.oblique_ray.specs.declared.run.Run.{Run}
use Rattle.oblique_ray.proofs.Runs.{run_face}
use Rattle.oblique_ray.proofs.run.Run.past_planes.Goals as goal

pub past_face-run-requires-clause-plane : goal.past_face-run-requires-clause-plane
past_face-run-requires-clause-plane c = c.requires.planes c.loop-side.side-index None c.loop-side-test.true

pub loop-side-preserved : goal.loop-side-preserved
loop-side-preserved c =
    let planes = c.args.planes.now in
    let i = c.loop-side.side-index in
    let side : Option Plane = get_or c.args.planes.now c.loop-side.side-index None in
    let rest = drop (i + 1) planes in
    let at : drop i planes ≡ get_or planes i None ∷ rest = drop_more planes i None c.loop-side-test.true in
    record {
      known = c.past_face-run.ensures.known;
      made = ap (λ (run : Run). run_past run (planes_cut rest c.args.o c.args.e)) c.past_face-run.ensures.value
          ∙ run_face c.loop-side.run (get_or planes i None) rest c.args.o c.args.e
          ∙ ap (λ (all : List (Option Plane)). run_past c.loop-side.run (planes_cut all c.args.o c.args.e)) (sym at)
          ∙ c.loop-side.invariant.made;
    }

pub returns-clause-value : goal.returns-clause-value
returns-clause-value c =
    let none : drop c.loop-side.side-index c.args.planes.now ≡ [] = drop_all c.loop-side.side-index c.args.planes.now (omega (arith, c.loop-side-test.false)) in
    ap (λ (rest : List (Option Plane)). run_past c.loop-side.run (planes_cut rest c.args.o c.args.e)) (sym none) ∙ c.loop-side.invariant.made
