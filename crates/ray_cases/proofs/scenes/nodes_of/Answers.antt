use Rattle.std.proofs.Common.{◌∙◌, ◌∷◌, ◌++◌, [], List, ap, sym, subst}
use Rattle.lattice_core.specs.declared.limit.TheConstants.{COORD}
use Rattle.lattice_core.specs.Limits.{IsWithin}
use Rattle.comb_tree.specs.declared.node.CombNode.{CombNode}
use Rattle.comb_tree.specs.declared.node.CombNode.TheVariants.{Leaf, U, Minus}
use Rattle.comb_tree.specs.Nodes.{Member}
use Rattle.ray_cases.proofs.UnionMade.{zero_within}
use Rattle.ray_cases.proofs.scenes.nodes_of.Goals as goal

pub returns : goal.returns
returns c =
    let one : Member = record { name = c.args.one; placement = c.identity-placement.result } in
    let two : Member = record { name = c.args.two; placement = c.identity-placement.result } in
    let less : Member = record { name = c.args.less; placement = c.identity-placement.result } in
    let near : IsWithin COORD c.identity-placement.result.shift = subst (IsWithin COORD) (sym c.identity-placement.ensures.shift) zero_within in
    let first = c.in_ok-push.ensures.items ∙ ap (λ (ns : List CombNode). ns ++ Leaf c.args.one c.identity-placement.result ∷ []) c.new-nodes.ensures.items in
    let second = c.in_ok-push-2.ensures.items ∙ ap (λ (ns : List CombNode). ns ++ Leaf c.args.two c.identity-placement.result ∷ []) first in
    let third = c.in_ok-push-3.ensures.items ∙ ap (λ (ns : List CombNode). ns ++ U ∷ []) second in
    let fourth = c.in_ok-push-4.ensures.items ∙ ap (λ (ns : List CombNode). ns ++ Leaf c.args.less c.identity-placement.result ∷ []) third in
    let all = c.in_ok-push-5.ensures.items ∙ ap (λ (ns : List CombNode). ns ++ Minus ∷ []) fourth in record {
      one = one;
      two = two;
      less = less;
      nodes_are = sym all;
      one_near = near;
      two_near = near;
      less_near = near;
    }
