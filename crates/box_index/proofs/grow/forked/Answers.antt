use Rattle.std.proofs.Common.{◌∙◌, ◌++◌, ◌∷◌, [], List, ap, refl, rules}
use Rattle.std.proofs.lemmas.Result.{IfOk-weaker}
use Rattle.box_index.specs.declared.node.Node.{Node}
use Rattle.box_index.proofs.grow.forked.Goals as goal

pub returns : goal.returns
returns c =
    let root : Node = record { bounds = c.args.bounds; here = c.args.here; below = c.len.result } in
    IfOk-weaker c.joined.result _ _
    (λ v e. record {
      root = root;
      is = e ∙ ap (λ (l : List Node). l ++ c.args.below.items) (c.in_ok-push.ensures.items ∙ ap (λ (l : List Node). l ++ root ∷ []) c.new-nodes.ensures.items);
      in_bounds = refl;
      places = refl;
      count = search rules;
    })
    c.joined.ensures
