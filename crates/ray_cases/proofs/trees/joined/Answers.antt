use Rattle.std.proofs.Common.{◌≡◌, ◌∙◌, ◌++◌, ◌∷◌, [], ap}
use Rattle.bool_weave.specs.Masks.{mask_nodes}
use Rattle.ray_cases.proofs.JoinedNodes.{join_nodes}
use Rattle.ray_cases.proofs.trees.joined.Goals as goal

pub of_nodes-requires : goal.of_nodes-requires
of_nodes-requires c =
    let left = mask_nodes c.args.left.now in
    let right = mask_nodes c.args.right.now in
    let one : c.extend_from_slice.new.self.items ≡ mask_nodes c.args.left.now = c.in_ok-extend_from_slice.ensures.items ∙ ap (λ l. l ++ c.nodes.result.now) c.new-nodes.ensures.items ∙ c.nodes.ensures in
    let two : c.extend_from_slice-2.new.self.items ≡ mask_nodes c.args.left.now ++ mask_nodes c.args.right.now =
    c.in_ok-extend_from_slice-2.ensures.items ∙ ap (λ l. l ++ c.nodes-2.result.now) one ∙ ap (λ l. left ++ l) c.nodes-2.ensures in
    join_nodes c.args.op c.args.left.now c.args.right.now c.push.new.self.items
    (c.in_ok-push.ensures.items ∙ ap (λ l. l ++ c.op_node.result ∷ []) two ∙ ap (λ n. left ++ right ++ n ∷ []) c.op_node.ensures)
