use Rattle.std.proofs.Common.{◌≡◌, ◌∙◌, ◌∷◌, [], ap, sym, refl, arith, get_or}
use Rattle.comb_tree.specs.Nodes.{Member, leaf}
use Rattle.scene_prep.proofs.walk.task_of.Goals as goal

pub returns : goal.returns
returns c =
    let none : c.args.part.number ≡ 0 = omega (arith, c.if-part-gt0.false) in
    let h = c.requires.leaf none in
    let member : Member = record { name = c.in-Leaf.name; placement = c.in-Leaf.placement } in
    let one : leaf h.member ≡ leaf member = sym (ap (λ ns. get_or ns 0 c.index-part-0.result) h.nodes_are) ∙ c.in-Leaf.is in record {
      number_is = none;
      member = member;
      nodes_are = h.nodes_are ∙ ap (λ n. n ∷ []) one;
      name_is = refl;
      placed_is = c.in_ok-placed-in-Leaf.ensures;
    }
