use Rattle.std.proofs.Common.{◌≡◌, ◌∙◌, ◌++◌, ◌&&◌, ℕ, List, IsTrue, filter, ap, subst}
use Rattle.std.specs.List.Sorted.{IsPermutation}
use Rattle.lattice_core.specs.declared.boxes.Box3.{Box3}
use Rattle.box_index.specs.declared.node.Node.{Node}
use Rattle.box_index.specs.Reaches.{has_points, do_touch}
use Rattle.box_index.specs.Places.{ArePlacesOf}
use Rattle.box_index.specs.Nodes.{content, is_touched}
use Rattle.box_index.proofs.Listing.{sorted_places}
use Rattle.box_index.proofs.index.BoxIndex.touches.Goals as goal

pub returns : goal.returns
returns c =
    let window = c.args.window.now in
    let boxes = c.self.inside.boxes.items in
    let all = content c.self.inside.nodes.items in
    let out = c.sort_unstable.new.self.items in
    let found : c.add_reached.new.out.items ≡ filter (is_touched boxes window) all =
    c.in_ok-add_reached.ensures ∙ ap (λ (l : List ℕ). l ++ filter (is_touched c.deref-2.result.now window) (content c.deref.result.now)) c.clear.ensures.items
    ∙ ap (λ (bs : List Box3). filter (is_touched bs window) (content c.deref.result.now)) c.deref-2.ensures.value
    ∙ ap (λ (ns : List Node). filter (is_touched boxes window) (content ns)) c.deref.ensures.value in
    let sorted : ArePlacesOf (λ b. IsTrue (has_points b && do_touch b window)) boxes out =
    sorted_places has_points (λ b. do_touch b window) boxes all out c.self.invariant.has_all
    (subst (λ (l : List ℕ). IsPermutation l out) found c.sort_unstable.ensures.permutation) c.sort_unstable.ensures.sorted in
    subst (λ (bs : List Box3). ArePlacesOf (λ b. IsTrue (has_points b && do_touch b window)) bs out) c.self.view_is sorted
