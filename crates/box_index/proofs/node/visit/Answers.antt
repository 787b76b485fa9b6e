use Rattle.std.proofs.Common.{◌∙◌, ◌-◌, ◌++◌, length, take, drop, sym, arith}
use Rattle.std.proofs.lemmas.List.{length-drop, take_all}
use Rattle.box_index.specs.Nodes.{content, is_touched}
use Rattle.box_index.proofs.Bounding.{none_touched}
use Rattle.box_index.proofs.Trees.{passed}
use Rattle.box_index.proofs.node.visit.Goals as goal

pub returns-then-not-do_touch : goal.returns-then-not-do_touch
returns-then-not-do_touch c =
    let boxes = c.args.boxes.now in
    let window = c.args.window.now in
    let node = c.args.node.now in
    let behind = c.args.behind.now in
    let below = node.below in
    passed boxes (is_touched boxes window) node behind c.requires.sound (take (length behind - below) (drop below behind)) c.args.out.now.items
    (none_touched boxes node.bounds window (node.here.items ++ content (take below behind)) c.requires.sound.1 (sym c.do_touch.ensures ∙ c.if-not-do_touch.true))
    (take_all (length behind - below) (drop below behind) (omega (arith, length-drop below behind)))
