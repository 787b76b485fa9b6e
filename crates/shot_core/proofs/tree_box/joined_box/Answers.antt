use Rattle.std.proofs.Common.{◌∙◌, ap, sym}
use Rattle.shot_core.specs.TreeBoxes.{hull_of, meet_of, joined_box}
use Rattle.shot_core.proofs.BoxesAlike.{hull_alike, meet_alike}
use Rattle.shot_core.proofs.Boxing.{are_hull_and_meet}
use Rattle.shot_core.proofs.tree_box.joined_box.Goals as goal

pub returns-in-U : goal.returns-in-U
returns-in-U c =
    hull_alike c.hull.result (hull_of c.args.left.now c.args.right.now) c.args.left.now c.args.right.now c.hull.ensures.hull c.hull.ensures.tidy
    (are_hull_and_meet.hull c.args.left.now c.args.right.now) (are_hull_and_meet.hull_tidy c.args.left.now c.args.right.now)
    ∙ ap (λ op. joined_box op c.args.left.now c.args.right.now) (sym c.in-U.is)

pub returns-in-N : goal.returns-in-N
returns-in-N c =
    meet_alike c.meet.result (meet_of c.args.left.now c.args.right.now) c.args.left.now c.args.right.now c.meet.ensures.meet c.meet.ensures.tidy
    (are_hull_and_meet.meet c.args.left.now c.args.right.now) (are_hull_and_meet.meet_tidy c.args.left.now c.args.right.now)
    ∙ ap (λ op. joined_box op c.args.left.now c.args.right.now) (sym c.in-N.is)

pub returns-in-X : goal.returns-in-X
returns-in-X c =
    hull_alike c.hull-in-X.result (hull_of c.args.left.now c.args.right.now) c.args.left.now c.args.right.now c.hull-in-X.ensures.hull c.hull-in-X.ensures.tidy
    (are_hull_and_meet.hull c.args.left.now c.args.right.now) (are_hull_and_meet.hull_tidy c.args.left.now c.args.right.now)
    ∙ ap (λ op. joined_box op c.args.left.now c.args.right.now) (sym c.in-X.is)
