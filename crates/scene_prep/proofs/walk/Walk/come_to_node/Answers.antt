use Rattle.std.proofs.Common.{◌≡◌, ◌∙◌, ◌+◌, ◌∷◌, ◌++◌, [], ap, refl, sym, subst, vec_len}
use Rattle.std.specs.Arc.{arc_value}
use Rattle.std.proofs.lemmas.Result.{IfOk-weaker}
use Rattle.tree_forms.specs.Trees.{Tree}
use Rattle.comb_tree.specs.Nodes.{Member}
use Rattle.scene_prep.specs.declared.body.BodyKey.{BodyKey}
use Rattle.scene_prep.specs.Expanding.{expanded}
use Rattle.scene_prep.specs.Regions.{node_region}
use Rattle.scene_prep.specs.Walking.{Content, content, own_region, region_from, settled_in, AreBodies}
use Rattle.scene_prep.proofs.Coming.{own_content}
use Rattle.scene_prep.proofs.United.{same_tree}
use Rattle.scene_prep.proofs.walk.Walk.come_to_node.Goals as goal

pub of_tree-requires-clause-own : goal.of_tree-requires-clause-own
of_tree-requires-clause-own c = record {
  tree = c.requires.own.tree;
  nodes = c.requires.own.nodes_are;
  region = node_region (expanded c.args.directory.now.objects) c.args.node.number c.requires.own.tree;
  own = ap (λ (k : BodyKey). own_region c.args.directory.now.objects k.name k.node) c.key-key.ensures ∙ c.requires.own.own;
  id = refl;
  air = refl;
  expands = refl;
}

pub returns-clause-regions : goal.returns-clause-regions
returns-clause-regions c =
    let own = ap (λ (k : BodyKey). own_region c.args.directory.now.objects k.name k.node) c.key-key.ensures ∙ c.requires.own.own in
    let same : content (arc_value c.in_ok-path.path) (arc_value c.in_ok-body.body) ≡ settled_in c.args.context.now (node_region (expanded c.args.directory.now.objects) c.args.node.number c.requires.own.tree) =
    own_content c.args.context.now c.key-key.result (node_region (expanded c.args.directory.now.objects) c.args.node.number c.requires.own.tree) (arc_value c.in_ok-path.path) (arc_value c.in_ok-body.body)
    (ap (λ (k : BodyKey). k.by) c.key-key.ensures) (ap (λ (k : BodyKey). k.rgb) c.key-key.ensures) refl c.in_ok-path.ensures.path
    (c.in_ok-body.ensures.body (node_region (expanded c.args.directory.now.objects) c.args.node.number c.requires.own.tree) own) in
    IfOk-weaker c.push_region.result _ _
    (λ _ h tree is. h
    ∙ ap (λ (x : Content). c.args.self.now.regions.items ++ region_from (vec_len c.args.self.now.regions + 1) x ∷ [])
    (same ∙ ap (λ (t : Tree Member). settled_in c.args.context.now (node_region (expanded c.args.directory.now.objects) c.args.node.number t)) (same_tree c.requires.own.tree tree (c.requires.own.nodes_are ∙ sym is))))
    c.push_region.ensures.regions

pub returns-clause-known : goal.returns-clause-known
returns-clause-known c =
    IfOk-weaker c.push_region.result _ _ (λ _ _. subst (AreBodies c.args.directory.now.objects) (sym c.push_region.ensures.bodies) c.in_ok-body.ensures.known) c.push_region.ensures.regions
