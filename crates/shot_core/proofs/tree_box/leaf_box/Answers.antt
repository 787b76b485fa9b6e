use Rattle.std.proofs.Common.{◌∙◌, ap, sym}
use Rattle.solid_set.specs.declared.placed.Placed.{Placed}
use Rattle.shot_core.proofs.Nodes.{box_at}
use Rattle.shot_core.proofs.tree_box.leaf_box.Goals as goal

pub returns-in-Some : goal.returns-in-Some
returns-in-Some c =
    c.bounds.ensures.value ∙ ap (λ (p : Placed). p.bounds) c.in-Some.ensures.lookup.1
    ∙ sym (box_at c.args.solids.now c.args.leaf c.in-Some.solid.now c.in-Some.ensures.lookup.3.0)
