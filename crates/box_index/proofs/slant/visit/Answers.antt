use Rattle.std.proofs.Common.{◌∙◌, ◌-◌, ◌++◌, length, take, drop, sym, arith}
use Rattle.std.proofs.lemmas.List.{length-drop, take_all}
use Rattle.box_index.specs.Nodes.{content, is_crossed_at}
use Rattle.box_index.proofs.Trees.{passed, none_crossed}
use Rattle.box_index.proofs.slant.visit.Goals as goal

pub returns-then-not-crosses : goal.returns-then-not-crosses
returns-then-not-crosses c =
    let boxes = c.args.boxes.now in
    let line = c.args.line.now in
    let node = c.args.node.now in
    let behind = c.args.behind.now in
    let below = node.below in
    passed boxes (is_crossed_at boxes line) node behind c.requires.sound (take (length behind - below) (drop below behind)) c.args.out.now.items
    (none_crossed boxes line c.requires.line node.bounds (node.here.items ++ content (take below behind)) c.requires.sound.1 (sym c.crosses.ensures ∙ c.if-not-crosses.true))
    (take_all (length behind - below) (drop below behind) (omega (arith, length-drop below behind)))
