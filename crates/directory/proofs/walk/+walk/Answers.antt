use Rattle.std.proofs.Common.{◌≡◌, ◌∙◌, ◌-◌, Some, None, rules, sym, subst, take, arith}
use Rattle.std.specs.Prelude.{position, slice_get}
use Rattle.std.specs.Map.{keys_of}
use Rattle.std.proofs.lemmas.List.{length-take-le}
use Rattle.name_core.specs.Same.{same_name}
use Rattle.object_set.specs.declared.object.Body.TheVariants.{Comb}
use Rattle.directory.specs.Places.{Finds, names_within, object_within}
use Rattle.object_pages.specs.Members.{node_names}
use Rattle.directory.specs.Walks.{depth_within, object_of}
use Rattle.directory.proofs.FindLemmas.{found_at, kept_found, kept_deep, missing_found, place_found, comb_found, comb_lost, nodes_lost, nodes_next, found_set}
use Rattle.directory.proofs.TakeLemmas.{later_missing, none_taken, taken_at, taken_distinct}
use Rattle.directory.proofs.walk.+walk.Goals as goal

pub find_name-returns-then-place-count-clause-depth : goal.find_name-returns-then-place-count-clause-depth
find_name-returns-then-place-count-clause-depth t c =
    let at : position (same_name c.args.name.now) (keys_of c.args.objects.now) ≡ Some c.in-Some.place = sym c.place_of.ensures.place ∙ c.in-Some.is in
    let o = found_at c.args.objects.now c.args.name.now c.in-Some.place at in
    c.find_place.ensures.depth c.args.name.now o.0 (taken_at c.args.objects.now c.args.count c.in-Some.place c.if-place-count.true ∙ o.1)

pub find_name-returns-else-place-count-clause-depth : goal.find_name-returns-else-place-count-clause-depth
find_name-returns-else-place-count-clause-depth t c =
    let at : position (same_name c.args.name.now) (keys_of c.args.objects.now) ≡ Some c.in-Some.place = sym c.place_of.ensures.place ∙ c.in-Some.is in
    missing_found (take c.args.count c.args.objects.now) c.args.name.now c.args.levels
    (later_missing c.args.objects.now c.args.name.now c.args.count c.in-Some.place at (omega (arith, c.if-place-count.false)))

pub find_name-returns-in-None-clause-depth : goal.find_name-returns-in-None-clause-depth
find_name-returns-in-None-clause-depth t c =
    let none : object_of c.args.objects.now c.args.name.now ≡ None = c.place_of.ensures.missing c.in-None.is in
    missing_found (take c.args.count c.args.objects.now) c.args.name.now c.args.levels (none_taken c.args.objects.now c.args.count c.args.name.now none)

pub find_nodes-returns-in_err-find_node-clause-depth : goal.find_nodes-returns-in_err-find_node-clause-depth
find_nodes-returns-in_err-find_node-clause-depth t c =
    let none : c.from_residual.result ≡ None = search rules in
    subst (Finds (λ n. names_within n (take c.args.count c.args.objects.now) (node_names c.args.nodes.now)) c.args.levels) (sym none)
    (nodes_lost (take c.args.count c.args.objects.now) c.args.nodes.now c.loop-node.node-index c.args.levels c.node-item.result c.loop-node-test.true c.node-item.is c.in_err-find_node.ensures.depth)

pub find_nodes-loop-node-preserved : goal.find_nodes-loop-node-preserved
find_nodes-loop-node-preserved t c = record {
  depth = nodes_next (take c.args.count c.args.objects.now) c.args.nodes.now c.loop-node.node-index c.args.levels c.loop-node.most c.in_ok-find_node.field-0 c.larger-most.result c.node-item.result c.loop-node-test.true c.node-item.is
      c.loop-node.invariant.depth c.in_ok-find_node.ensures.depth c.larger-most.ensures;
  found = c.find_node.ensures.found;
  kept = λ j was. c.find_node.ensures.kept j (c.loop-node.invariant.kept j was);
}

pub find_object-returns-in_err-below-in-Comb-clause-depth : goal.find_object-returns-in_err-below-in-Comb-clause-depth
find_object-returns-in_err-below-in-Comb-clause-depth t c =
    let none : c.from_residual.result ≡ None = search rules in
    let is : c.args.object.now.body ≡ Comb c.in-Comb.attr c.in-Comb.tree = search rules in
    subst (Finds (λ n. object_within n (take c.args.count c.args.objects.now) c.args.object.now) c.args.levels) (sym none)
    (comb_lost (take c.args.count c.args.objects.now) c.args.object.now c.in-Comb.attr c.in-Comb.tree c.nodes.result.now c.args.levels (c.args.levels - 1) is c.nodes.ensures.tree (omega (arith, c.if-levels-eq0.false))
    c.in_err-below-in-Comb.ensures.depth)

pub find_object-returns-in_ok-below-in-Comb-clause-depth : goal.find_object-returns-in_ok-below-in-Comb-clause-depth
find_object-returns-in_ok-below-in-Comb-clause-depth t c =
    let is : c.args.object.now.body ≡ Comb c.in-Comb.attr c.in-Comb.tree = search rules in
    comb_found (take c.args.count c.args.objects.now) c.args.object.now c.in-Comb.attr c.in-Comb.tree c.nodes.result.now c.args.levels (c.args.levels - 1) c.in_ok-below-in-Comb.below is c.nodes.ensures.tree
    (omega (arith, c.if-levels-eq0.false)) c.in_ok-below-in-Comb.ensures.depth

pub find_place-returns-then-depth-levels-clause-depth : goal.find_place-returns-then-depth-levels-clause-depth
find_place-returns-then-depth-levels-clause-depth t c =
    λ k o at. kept_found (take c.args.count c.args.objects.now) c.args.depths.now c.args.place k o c.args.levels c.requires.found at c.if-depth-lt-UNBOUNDED.true c.if-depth-levels.true

pub find_place-returns-else-depth-levels-clause-depth : goal.find_place-returns-else-depth-levels-clause-depth
find_place-returns-else-depth-levels-clause-depth t c =
    λ k o at. kept_deep (take c.args.count c.args.objects.now) c.args.depths.now c.args.place k o c.args.levels c.requires.found at c.if-depth-lt-UNBOUNDED.true c.if-depth-levels.false

pub find_place-returns-in_err-depth-in-Some-clause-depth : goal.find_place-returns-in_err-depth-in-Some-clause-depth
find_place-returns-in_err-depth-in-Some-clause-depth t c =
    let none : c.from_residual.result ≡ None = search rules in
    let there : slice_get c.args.objects.now c.args.place ≡ Some (c.in-Some._name.now, c.in-Some.object.now) = search rules in
    let here : slice_get (take c.args.count c.args.objects.now) c.args.place ≡ Some (c.in-Some._name.now, c.in-Some.object.now) = taken_at c.args.objects.now c.args.count c.args.place c.requires.within ∙ there in
    λ k o at. subst (Finds (λ n. depth_within n (take c.args.count c.args.objects.now) k) c.args.levels) (sym none)
    (place_found (take c.args.count c.args.objects.now) c.args.place c.in-Some._name.now k c.in-Some.object.now o c.args.levels None
    (taken_distinct c.args.objects.now c.args.count c.len-count.ensures.distinct) here at c.in_err-depth-in-Some.ensures.depth)

pub find_place-returns-clause-depth : goal.find_place-returns-clause-depth
find_place-returns-clause-depth t c =
    let there : slice_get c.args.objects.now c.args.place ≡ Some (c.in-Some._name.now, c.in-Some.object.now) = search rules in
    let here : slice_get (take c.args.count c.args.objects.now) c.args.place ≡ Some (c.in-Some._name.now, c.in-Some.object.now) = taken_at c.args.objects.now c.args.count c.args.place c.requires.within ∙ there in
    λ k o at. place_found (take c.args.count c.args.objects.now) c.args.place c.in-Some._name.now k c.in-Some.object.now o c.args.levels (Some c.in_ok-depth-in-Some.depth) (taken_distinct c.args.objects.now c.args.count c.len-count.ensures.distinct) here at c.in_ok-depth-in-Some.ensures.depth

pub find_place-returns-clause-found : goal.find_place-returns-clause-found
find_place-returns-clause-found t c =
    let there : slice_get c.args.objects.now c.args.place ≡ Some (c.in-Some._name.now, c.in-Some.object.now) = search rules in
    let here : slice_get (take c.args.count c.args.objects.now) c.args.place ≡ Some (c.in-Some._name.now, c.in-Some.object.now) = taken_at c.args.objects.now c.args.count c.args.place c.requires.within ∙ there in
    found_set (take c.args.count c.args.objects.now) c.find_object.new.depths c.args.place c.in_ok-depth-in-Some.depth c.args.levels c.in-Some._name.now c.in-Some.object.now (c.find_object.auto.depths ∙ c.requires.len ∙ sym (length-take-le c.args.count c.args.objects.now c.requires.count)) (omega (arith, c.requires.within, length-take-le c.args.count c.args.objects.now c.requires.count)) here
    c.find_object.ensures.found
    (place_found (take c.args.count c.args.objects.now) c.args.place c.in-Some._name.now c.in-Some._name.now c.in-Some.object.now c.in-Some.object.now c.args.levels (Some c.in_ok-depth-in-Some.depth) (taken_distinct c.args.objects.now c.args.count c.len-count.ensures.distinct) here here
    c.in_ok-depth-in-Some.ensures.depth)
