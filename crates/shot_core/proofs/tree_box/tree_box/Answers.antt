use Rattle.std.proofs.Common.{rules, ◌≡◌, ◌∙◌, ap, sym, [], ◌∷◌, ◌++◌, map, option_to_list, length}
use Rattle.std.proofs.lemmas.List.{same_from_push}
use Rattle.bool_weave.specs.Masks.{mask_of}
use Rattle.shot_core.specs.Prepared.{instance_of, boxes_of}
use Rattle.shot_core.specs.TreeBoxes.{tree_box}
use Rattle.shot_core.proofs.Nodes.{can_run, alone}
use Rattle.shot_core.proofs.tree_box.tree_box.Goals as goal

pub run_on-requires : goal.run_on-requires
run_on-requires c = can_run (boxes_of (map instance_of c.args.solids.now)) c.requires.0 c.args.nodes.now c.requires.1

pub unwrap-requires : goal.unwrap-requires
unwrap-requires c =
    let stack : c.in_ok-stack.stack.items ≡ tree_box (boxes_of (map instance_of c.args.solids.now)) (mask_of c.args.nodes.now) ∷ [] =
    alone (boxes_of (map instance_of c.args.solids.now)) c.requires.0 c.args.nodes.now c.in_ok-stack.stack.items c.requires.1 c.in_ok-stack.ensures in
    let len : length c.in_ok-stack.stack.items ≡ 1 = ap length stack in
    search rules

pub returns : goal.returns
returns c =
    let box = tree_box (boxes_of (map instance_of c.args.solids.now)) (mask_of c.args.nodes.now) in
    let stack : c.in_ok-stack.stack.items ≡ tree_box (boxes_of (map instance_of c.args.solids.now)) (mask_of c.args.nodes.now) ∷ [] =
    alone (boxes_of (map instance_of c.args.solids.now)) c.requires.0 c.args.nodes.now c.in_ok-stack.stack.items c.requires.1 c.in_ok-stack.ensures in
    let popped : c.in_ok-stack.stack.items ≡ c.pop.new.self.items ++ c.unwrap.result ∷ [] =
    c.pop.ensures.items ∙ ap (λ o. c.pop.new.self.items ++ option_to_list o) c.unwrap.ensures in
    (same_from_push c.pop.new.self.items [] c.unwrap.result (tree_box (boxes_of (map instance_of c.args.solids.now)) (mask_of c.args.nodes.now)) (sym popped ∙ stack)).1
